use Rattle.std.proofs.Common.{◌≡◌, IfOk, map, subst}
use Rattle.pb_workspace_package.specs.declared.unresolved_package.UnresolvedPackage.{UnresolvedPackage}
use Rattle.pb_workspace_package.specs.Settling.{comes_again}
use Rattle.pb_workspace.proofs.checks.has_same_names.Goals as goal

pub returns : goal.returns
returns c = subst (λ seen. IfOk c.names_come_again-again.result (λ again. again ≡ comes_again seen (map (λ (d : UnresolvedPackage). d.name) c.args.drafts.now))) c.new-seen.ensures c.names_come_again-again.ensures
