use Rattle.std.proofs.Common.{◌≡◌, drop, map}
use Rattle.pb_manifest_types.specs.declared.target.Binary.{Binary}
use Rattle.pb_workspace_package.specs.Settling.{comes_again}
use Rattle.pb_workspace_package.proofs.settling.binaries_come_again.Given as goal

abbrev pub invariant-loop-binary : goal.invariant-loop-binary
invariant-loop-binary l = comes_again l.seen (map (λ (b : Binary). b.name) (drop l.binary-index l.binaries)) ≡ comes_again l.fn.seen (map (λ (b : Binary). b.name) l.binaries)
