use Rattle.std.proofs.Common.{◌≡◌, List, IsTrue, length}
use Rattle.pb_build_result.specs.declared.bad_unit.BadUnit.{BadUnit}
use Rattle.pb_run_flight.specs.Events.{Event}
use Rattle.pb_place_types.specs.Counts.{Counts}
use Rattle.pb_place_types.specs.World.{World}
use Rattle.pb_run.specs.UnitSteps.{BuildContext}
use Rattle.pb_build_turns.specs.Executor.{tickets_of, IsConsistent}
use Rattle.pb_build_turns.specs.Ends.{StaysTold, Dropped}
use Rattle.pb_build_turns.specs.History.{Changes, HistoryHolds}
use Rattle.pb_build_turns.proofs.dropping.drain.Given as goal

abbrev pub invariant-loop-alloc : goal.invariant-loop-alloc
invariant-loop-alloc g l = record {
  consistent : IsConsistent l.crew (g.P.Place.at l.place).counts;
  same : l.crew ≡ record l.fn.crew { running = l.crew.running };
  most : (g.P.Place.at l.place).most ≡ (g.P.Place.at l.fn.place).most;
  dropped : (new : Counts) → Dropped (tickets_of l.crew.running.items) (g.P.Place.at l.place).counts new → Dropped (tickets_of l.fn.crew.running.items) (g.P.Place.at l.fn.place).counts new;
  told : (first : World) (es : List (Event BadUnit)) → IsTrue g.P.Place.is_modelled
      → Changes l.fn.crew.project first l.fn.crew.running.items es (g.P.Place.at l.fn.place).world (g.P.Place.at l.fn.place).counts.starts.flying
      → StaysTold g.P.Place.child l.fn.crew.project first es l.fn.crew.running.items l.crew.running.items (g.P.Place.at l.fn.place).world (g.P.Place.at l.place).world (g.P.Place.at l.place).counts.starts.flying;
  happened : (b : BuildContext) (es : List (Event BadUnit)) → IsTrue g.P.Place.is_modelled → b.project ≡ l.fn.crew.project
      → HistoryHolds b l.fn.crew.done.items l.fn.crew.running.items l.fn.crew.store.next es (g.P.Place.at l.fn.place).world (g.P.Place.at l.fn.place).counts.starts.flying (g.P.Place.at l.fn.place).still
      → HistoryHolds b l.crew.done.items l.crew.running.items l.crew.store.next es (g.P.Place.at l.place).world (g.P.Place.at l.place).counts.starts.flying (g.P.Place.at l.place).still;
}

abbrev pub decreases-loop-alloc : goal.decreases-loop-alloc
decreases-loop-alloc g l = length l.crew.running.items
