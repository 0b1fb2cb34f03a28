use Rattle.std.proofs.Common.{◌≡◌, drop, List, ℕ, Ok, Result}
use Rattle.std.specs.Prelude.{IsTrue}
use Rattle.pb_workspace_types.specs.declared.fault.LoadFault.{LoadFault}
use Rattle.pb_place_types.specs.Counts.{Counts}
use Rattle.pb_place_types.specs.World.{from_nothing}
use Rattle.pb_workspace_package.specs.Causes.{OnlyLooks}
use Rattle.pb_workspace_package.specs.Looks.{Looks}
use Rattle.pb_workspace.specs.LookedAt.{walk_looked}
use Rattle.pb_workspace.specs.MemberFolders.{led_to}
use Rattle.pb_workspace.proofs.member_folders.led_to.Given as goal

abbrev pub invariant-loop-part : goal.invariant-loop-part
invariant-loop-part g l = record {
  led : IsTrue g.P.Place.is_modelled → led_to (from_nothing l.target (g.P.Place.at l.fn.place).world) l.frame (drop l.part-index l.parts) l.led ≡ led_to (from_nothing l.target (g.P.Place.at l.fn.place).world) l.frame l.parts l.fn.begun;
  quiet : OnlyLooks {T = ℕ} (Ok 0) (g.P.Place.at l.fn.place) (g.P.Place.at l.place);
  looks : IsTrue g.P.Place.is_modelled → (r : Result (List (List ℕ)) LoadFault) (new : Counts) → Looks r (walk_looked l.target (from_nothing l.target (g.P.Place.at l.fn.place).world) l.frame (drop l.part-index l.parts) l.led) (g.P.Place.at l.place).counts new → Looks r (walk_looked l.target (from_nothing l.target (g.P.Place.at l.fn.place).world) l.frame l.parts l.fn.begun) (g.P.Place.at l.fn.place).counts new;
}
