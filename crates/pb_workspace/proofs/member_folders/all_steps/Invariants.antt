use Rattle.std.proofs.Common.{◌≡◌, ◌++◌, drop, List, ℕ, Ok, Result}
use Rattle.std.specs.List.{flat_map}
use Rattle.std.specs.Prelude.{IsTrue}
use Rattle.pb_workspace_types.specs.declared.fault.LoadFault.{LoadFault}
use Rattle.pb_place_types.specs.Counts.{Counts}
use Rattle.pb_place_types.specs.World.{from_nothing}
use Rattle.pb_workspace_package.specs.Causes.{OnlyLooks}
use Rattle.pb_workspace_package.specs.Looks.{Looks}
use Rattle.pb_workspace.specs.LookedAt.{step_looked}
use Rattle.pb_workspace.specs.MemberFolders.{kept_step}
use Rattle.pb_workspace.proofs.member_folders.all_steps.Given as goal

abbrev pub invariant-loop-folder : goal.invariant-loop-folder
invariant-loop-folder g l = record {
  made : IsTrue g.P.Place.is_modelled → l.led ++ flat_map (kept_step (from_nothing l.target (g.P.Place.at l.fn.place).world) l.frame l.part) (drop l.folder-index l.folders) ≡ flat_map (kept_step (from_nothing l.target (g.P.Place.at l.fn.place).world) l.frame l.part) l.folders;
  quiet : OnlyLooks {T = ℕ} (Ok 0) (g.P.Place.at l.fn.place) (g.P.Place.at l.place);
  looks : (r : Result (List (List ℕ)) LoadFault) (new : Counts) → Looks r (flat_map (step_looked l.target l.part) (drop l.folder-index l.folders)) (g.P.Place.at l.place).counts new → Looks r (flat_map (step_looked l.target l.part) l.folders) (g.P.Place.at l.fn.place).counts new;
}
