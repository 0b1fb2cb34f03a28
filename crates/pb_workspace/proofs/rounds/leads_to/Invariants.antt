use Rattle.std.proofs.Common.{◌≡◌, ◌++◌, drop}
use Rattle.pb_workspace.specs.Rounds.{leads_to}
use Rattle.pb_workspace.proofs.rounds.leads_to.Given as goal

abbrev pub invariant-loop-one : goal.invariant-loop-one
invariant-loop-one l = l.folders ++ leads_to (drop l.one-index l.wanted) ≡ leads_to l.wanted
