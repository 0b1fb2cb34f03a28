use Rattle.std.proofs.Common.{◌≡◌, [], drop}
use Rattle.pb_place.specs.Memory.{counts_in}
use Rattle.pb_build.specs.Session.{point}
use Rattle.pb_build.proofs.StepsTaken.{Reaches, BreaksOff}
use Rattle.pb_build.proofs.sessions.session.Given as goal

-- whatever the rest of the steps comes to, all of them come to, and where it breaks off, all of them do
abbrev pub invariant-loop-step : goal.invariant-loop-step
invariant-loop-step g l = record {
  reaches :
      Reaches g.C.Child.answers l.steps (drop l.step-index l.steps) (point l.initial.memory (g.O.Out.heard l.initial.out) []) (point l.memory (g.O.Out.heard l.out) l.answers);
  breaks :
      BreaksOff g.C.Child.answers l.steps (drop l.step-index l.steps) (point l.initial.memory (g.O.Out.heard l.initial.out) []) (point l.memory (g.O.Out.heard l.out) l.answers);
  none : (counts_in l.memory).starts.flying ≡ [];
}
