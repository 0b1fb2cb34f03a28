use Rattle.std.proofs.Common.{◌≡◌, ℕ, Ok, Result}
use Rattle.std.specs.Prelude.{IsTrue}
use Rattle.std.specs.Vec.Iter.{into_iter_items}
use Rattle.pb_place_types.specs.World.{from_nothing}
use Rattle.pb_place_types.specs.Counts.{Counts}
use Rattle.pb_workspace_types.specs.declared.fault.LoadFault.{LoadFault}
use Rattle.pb_workspace.specs.declared.rounds.LoadState.{LoadState}
use Rattle.pb_workspace.specs.Readings.{IsReading}
use Rattle.pb_workspace.specs.LookedAt.{folder_looked, all_looked}
use Rattle.pb_workspace_package.specs.Causes.{OnlyLooks}
use Rattle.pb_workspace_package.specs.Looks.{Looks}
use Rattle.pb_workspace.specs.Rounds.{all_read, draft_at}
use Rattle.pb_workspace.proofs.rounds.all_read.Given as goal

abbrev pub invariant-loop-folder : goal.invariant-loop-folder
invariant-loop-folder g l = record {
  read : IsTrue g.P.Place.is_modelled → all_read (draft_at (from_nothing l.target (g.P.Place.at l.fn.place).world) l.frame l.meant) l.reading (into_iter_items l.folder-iterator) ≡ all_read (draft_at (from_nothing l.target (g.P.Place.at l.fn.place).world) l.frame l.meant) l.fn.reading l.fn.folders;
  kept : IsReading l.reading;
  quiet : OnlyLooks {T = ℕ} (Ok 0) (g.P.Place.at l.fn.place) (g.P.Place.at l.place);
  looks : IsTrue g.P.Place.is_modelled → (r : Result LoadState LoadFault) (new : Counts) → Looks r (all_looked (draft_at (from_nothing l.target (g.P.Place.at l.fn.place).world) l.frame l.meant) (folder_looked l.target (from_nothing l.target (g.P.Place.at l.fn.place).world) l.frame) l.reading (into_iter_items l.folder-iterator)) (g.P.Place.at l.place).counts new → Looks r (all_looked (draft_at (from_nothing l.target (g.P.Place.at l.fn.place).world) l.frame l.meant) (folder_looked l.target (from_nothing l.target (g.P.Place.at l.fn.place).world) l.frame) l.fn.reading l.fn.folders) (g.P.Place.at l.fn.place).counts new;
}
