use Rattle.std.proofs.Common.{◌≡◌, List, []}
use Rattle.pb_run_flight.specs.Driving.{IsFlown}
use Rattle.pb_run_flight.specs.Events.{Event}
use Rattle.pb_run_flight.specs.Working.{weight_of}
use Rattle.pb_run_flight.proofs.driving.drive.Given as goal

abbrev pub invariant-loop-alloc : goal.invariant-loop-alloc
invariant-loop-alloc g l = record {
  holds : g.C.Executor.holds l.crew l.place l.out;
  able : g.C.Executor.able l.crew l.place l.out;
  needs : g.C.Executor.needs l.crew ≡ g.C.Executor.needs l.fn.crew;
  flown : (es : List (Event g.row.F.Denot)) × IsFlown g.T.Turn.turns (g.C.Executor.needs l.fn.crew) l.fn.turn es l.turn l.flight (g.C.Executor.flying l.crew);
  goes : (first : g.row.C.Denot) (first_place : g.row.P.Denot) (first_out : g.row.O.Denot) → g.C.Executor.story first first_place first_out l.fn.crew l.fn.place l.fn.out [] 0
      → (es : List (Event g.row.F.Denot)) × IsFlown g.T.Turn.turns (g.C.Executor.needs l.fn.crew) l.fn.turn es l.turn l.flight (g.C.Executor.flying l.crew) × g.C.Executor.story first first_place first_out l.crew l.place l.out es l.flight.given;
}

abbrev pub decreases-loop-alloc : goal.decreases-loop-alloc
decreases-loop-alloc g l = weight_of l.flight.states
