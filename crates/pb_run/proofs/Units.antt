-- The dep-info of a unit, which lies in its folder.
use Rattle.std.proofs.Common.{◌≡◌, ◌∙◌, ◌++◌, codes, Bool, true, false, List, ℕ, cond, Option, Some, None, refl, sym, ap}
use Rattle.std.specs.FinMap.{get}
use Rattle.pb_place_types.specs.Folders.{files_in}
use Rattle.pb_place_types.specs.Paths.{below, is_below, is_relative}
use Rattle.pb_place_types.specs.World.{Map}
use Rattle.pb_place_types.proofs.Folders.{get-files_in}
use Rattle.pb_place_types.proofs.PathLemmas.{below_is_below}
use Rattle.pb_unit.specs.declared.plan.Planned.{Planned}
use Rattle.pb_unit.specs.declared.unit.What.{What}
use Rattle.pb_unit.specs.declared.unit.What.TheVariants.{Run}
use Rattle.pb_command_types.specs.declared.project.Project.{Project}
use Rattle.pb_command_types.specs.Targets.{dep_info_by}
use Rattle.pb_command.specs.Judge.{file_at}

-- a file of a folder, seen in the folder or in the whole
pub inside_file : (folder : List ℕ) (path : Option (List ℕ)) (m : Map) → ((q : List ℕ) → path ≡ Some q → is_below folder q ≡ true) → file_at path (files_in folder m) ≡ file_at path m
inside_file folder None m lies = refl
inside_file folder (Some q) m lies = get-files_in folder m q ∙ ap (λ b. cond b (get m q) None) (lies q refl)

-- the dep-info of a unit lies in its folder
named_inside : (folder name q : List ℕ) (b : Bool) → is_relative name ≡ b → cond b (Some (below folder name)) None ≡ Some q → is_below folder q ≡ true
named_inside folder name q true relative is = below_is_below folder name q relative (sym (ap (λ (x : Option (List ℕ)). get_or_self x) is))
  where
    get_or_self : Option (List ℕ) → List ℕ
    get_or_self None = q
    get_or_self (Some x) = x
named_inside folder name q false relative is = cc

pub dep_info_inside : (project : Project) (u : Planned) (w : What) (name q : List ℕ) → dep_info_by w u.out name ≡ Some q → is_below u.out q ≡ true
dep_info_inside project u Run name q is = cc
dep_info_inside project u _ name q is = named_inside u.out (name ++ codes ".d") q (is_relative (name ++ codes ".d")) refl is
