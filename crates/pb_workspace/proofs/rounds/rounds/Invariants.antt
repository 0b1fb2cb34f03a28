use Rattle.std.proofs.Common.{◌≡◌, ◌-◌, ℕ, Ok, Result}
use Rattle.std.specs.Prelude.{IsTrue}
use Rattle.pb_place_types.specs.World.{from_nothing}
use Rattle.pb_place_types.specs.Counts.{Counts}
use Rattle.pb_workspace_types.specs.declared.fault.LoadFault.{LoadFault}
use Rattle.pb_workspace.specs.declared.rounds.LoadState.{LoadState}
use Rattle.pb_workspace.specs.Readings.{IsReading}
use Rattle.pb_workspace.specs.LookedAt.{folder_looked, rounds_looked}
use Rattle.pb_workspace_package.specs.Causes.{OnlyLooks}
use Rattle.pb_workspace_package.specs.Looks.{Looks}
use Rattle.pb_workspace.specs.Rounds.{rounds, draft_at}
use Rattle.pb_workspace.proofs.rounds.rounds.Given as goal

abbrev pub invariant-loop-done : goal.invariant-loop-done
invariant-loop-done g l = record {
  read : IsTrue g.P.Place.is_modelled → rounds (l.count - l.done) (draft_at (from_nothing l.target (g.P.Place.at l.fn.place).world) l.frame l.meant) l.reading ≡ rounds l.count (draft_at (from_nothing l.target (g.P.Place.at l.fn.place).world) l.frame l.meant) l.fn.reading;
  kept : IsReading l.reading;
  quiet : OnlyLooks {T = ℕ} (Ok 0) (g.P.Place.at l.fn.place) (g.P.Place.at l.place);
  looks : IsTrue g.P.Place.is_modelled → (r : Result LoadState LoadFault) (new : Counts) → Looks r (rounds_looked (l.count - l.done) (draft_at (from_nothing l.target (g.P.Place.at l.fn.place).world) l.frame l.meant) (folder_looked l.target (from_nothing l.target (g.P.Place.at l.fn.place).world) l.frame) l.reading) (g.P.Place.at l.place).counts new → Looks r (rounds_looked l.count (draft_at (from_nothing l.target (g.P.Place.at l.fn.place).world) l.frame l.meant) (folder_looked l.target (from_nothing l.target (g.P.Place.at l.fn.place).world) l.frame) l.fn.reading) (g.P.Place.at l.fn.place).counts new;
}
