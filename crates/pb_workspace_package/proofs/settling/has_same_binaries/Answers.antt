use Rattle.std.proofs.Common.{◌≡◌, IfOk, map, subst}
use Rattle.pb_manifest_types.specs.declared.target.Binary.{Binary}
use Rattle.pb_workspace_package.specs.Settling.{comes_again}
use Rattle.pb_workspace_package.proofs.settling.has_same_binaries.Goals as goal

pub returns : goal.returns
returns c = subst (λ seen. IfOk c.binaries_come_again-again.result (λ again. again ≡ comes_again seen (map (λ (b : Binary). b.name) c.args.binaries.now))) c.new-seen.ensures c.binaries_come_again-again.ensures
