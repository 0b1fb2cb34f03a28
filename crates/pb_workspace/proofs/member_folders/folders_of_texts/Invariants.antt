use Rattle.std.proofs.Common.{◌≡◌, ◌++◌, drop, List, ℕ, Ok, Result}
use Rattle.std.specs.Prelude.{IsTrue}
use Rattle.pb_workspace_types.specs.declared.fault.LoadFault.{LoadFault}
use Rattle.pb_place_types.specs.Counts.{Counts}
use Rattle.pb_workspace_package.specs.Causes.{OnlyLooks}
use Rattle.pb_workspace_package.specs.Looks.{Looks}
use Rattle.pb_workspace.specs.LookedAt.{text_looked}
use Rattle.pb_place_types.specs.World.{from_nothing}
use Rattle.std.specs.List.{flat_map}
use Rattle.pb_workspace.specs.MemberFolders.{folders_meant}
use Rattle.pb_workspace.proofs.member_folders.folders_of_texts.Given as goal

abbrev pub invariant-loop-text : goal.invariant-loop-text
invariant-loop-text g l = record {
  made : IsTrue g.P.Place.is_modelled → l.made ++ flat_map (folders_meant (from_nothing l.target (g.P.Place.at l.fn.place).world) l.frame) (drop l.text-index l.texts) ≡ flat_map (folders_meant (from_nothing l.target (g.P.Place.at l.fn.place).world) l.frame) l.texts;
  quiet : OnlyLooks {T = ℕ} (Ok 0) (g.P.Place.at l.fn.place) (g.P.Place.at l.place);
  looks : IsTrue g.P.Place.is_modelled → (r : Result (List (List ℕ)) LoadFault) (new : Counts) → Looks r (flat_map (text_looked l.target (from_nothing l.target (g.P.Place.at l.fn.place).world) l.frame) (drop l.text-index l.texts)) (g.P.Place.at l.place).counts new → Looks r (flat_map (text_looked l.target (from_nothing l.target (g.P.Place.at l.fn.place).world) l.frame) l.texts) (g.P.Place.at l.fn.place).counts new;
}
