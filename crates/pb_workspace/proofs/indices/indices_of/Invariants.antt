use Rattle.std.proofs.Common.{◌≡◌, drop}
use Rattle.pb_workspace.specs.Indices.{numbered, indices_of}
use Rattle.pb_workspace.proofs.indices.indices_of.Given as goal

abbrev pub invariant-loop-index : goal.invariant-loop-index
invariant-loop-index l = numbered l.indices l.index (drop l.index l.drafts) ≡ indices_of l.drafts
