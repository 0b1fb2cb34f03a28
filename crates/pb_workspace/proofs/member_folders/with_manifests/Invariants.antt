use Rattle.std.proofs.Common.{◌≡◌, ◌++◌, List, ℕ, Ok, Result}
use Rattle.std.specs.List.{flat_map}
use Rattle.std.specs.Prelude.{IsTrue, filter}
use Rattle.std.specs.Vec.Iter.{into_iter_items}
use Rattle.pb_workspace_types.specs.declared.fault.LoadFault.{LoadFault}
use Rattle.pb_place_types.specs.Counts.{Counts}
use Rattle.pb_place_types.specs.World.{from_nothing}
use Rattle.pb_workspace_package.specs.Causes.{OnlyLooks}
use Rattle.pb_workspace_package.specs.Looks.{Looks}
use Rattle.pb_workspace.specs.LookedAt.{manifest_looked}
use Rattle.pb_workspace.specs.MemberFolders.{has_manifest}
use Rattle.pb_workspace.proofs.member_folders.with_manifests.Given as goal

abbrev pub invariant-loop-folder : goal.invariant-loop-folder
invariant-loop-folder g l = record {
  taken : IsTrue g.P.Place.is_modelled → l.taken ++ filter (has_manifest (from_nothing l.target (g.P.Place.at l.fn.place).world)) (into_iter_items l.folder-iterator) ≡ filter (has_manifest (from_nothing l.target (g.P.Place.at l.fn.place).world)) l.fn.folders;
  quiet : OnlyLooks {T = ℕ} (Ok 0) (g.P.Place.at l.fn.place) (g.P.Place.at l.place);
  looks : (r : Result (List (List ℕ)) LoadFault) (new : Counts) → Looks r (flat_map (manifest_looked l.target) (into_iter_items l.folder-iterator)) (g.P.Place.at l.place).counts new → Looks r (flat_map (manifest_looked l.target) l.fn.folders) (g.P.Place.at l.fn.place).counts new;
}
