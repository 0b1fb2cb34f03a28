use Rattle.std.proofs.Common.{◌≡◌, ◌++◌, drop, List, ℕ, Ok, Result}
use Rattle.std.specs.Prelude.{IsTrue, filter}
use Rattle.std.specs.List.{flat_map}
use Rattle.pb_workspace_types.specs.declared.fault.LoadFault.{LoadFault}
use Rattle.pb_place_types.specs.Counts.{Counts}
use Rattle.pb_place_types.specs.World.{from_nothing}
use Rattle.pb_workspace_package.specs.declared.own_file.OwnFile.{OwnFile}
use Rattle.pb_workspace_package.specs.Causes.{OnlyLooks}
use Rattle.pb_workspace_package.specs.Listings.{is_there}
use Rattle.pb_workspace_package.specs.Looks.{Looks, own_asked}
use Rattle.pb_workspace_package.specs.OwnFile.{own_files}
use Rattle.pb_workspace_package.proofs.listings.files_there.Given as goal

abbrev pub invariant-loop-file : goal.invariant-loop-file
invariant-loop-file g l = record {
  own : IsTrue g.P.Place.is_modelled → l.own ++ filter (is_there l.folder (from_nothing l.target (g.P.Place.at l.fn.place).world)) (drop l.file-index own_files) ≡ filter (is_there l.folder (from_nothing l.target (g.P.Place.at l.fn.place).world)) own_files;
  quiet : OnlyLooks {T = ℕ} (Ok 0) (g.P.Place.at l.fn.place) (g.P.Place.at l.place);
  looks : (r : Result (List OwnFile) LoadFault) (new : Counts) → Looks r (flat_map (own_asked l.target l.folder) (drop l.file-index own_files)) (g.P.Place.at l.place).counts new → Looks r (flat_map (own_asked l.target l.folder) own_files) (g.P.Place.at l.fn.place).counts new;
}
