-- Which variables a command has.
use Rattle.std.proofs.Common.{◌≡◌, ℕ, false, if◌then◌else◌, codes, List, [], ◌∷◌, ◌++◌, Option, Some, None, Result, Ok, Err, refl, ◌∙◌, ap}
use Rattle.std.specs.Fmt.{decimal}
use Rattle.std.specs.List.{flat_map}
use Rattle.std.specs.Option.{option_map}
use Rattle.std.specs.Result.{result_unwrap_or}
use Rattle.semver.specs.Parse.{version_parts}
use Rattle.pb_data.specs.Table.{value_at, last_value}
use Rattle.pb_directive.specs.declared.directive.Directive.{Directive}
use Rattle.pb_directive.specs.declared.directive.Directive.TheVariants.{Env}
use Rattle.pb_workspace_types.specs.declared.package.Package.{Package}
use Rattle.pb_unit.specs.declared.plan.Planned.{Planned}
use Rattle.pb_unit.specs.declared.unit.What.{What}
use Rattle.pb_unit.specs.declared.unit.What.TheVariants.{Lib, Bin, Script, Run}
use Rattle.pb_command_types.specs.Targets.{package_of, unit_at, crate_name_of, is_run, own_run, said_at, said_there, own_said}
use Rattle.pb_command_types.specs.declared.project.Project.{Project}
use Rattle.pb_command_types.specs.declared.project.Setup.{Setup}
use Rattle.pb_command.proofs.Rising.{last_counts}
use Rattle.pb_command.specs.Command.{command_by, command_for, command_of}
use Rattle.pb_command_environment.specs.Pairs.{package_pairs, about_pairs, numbers_in, version_pairs, version_texts, env_pair, out_pairs, run_there, own_pairs, composed, pairs_of}
use Rattle.pb_command_laws.specs.Compiles.{binary_name, heard, row, hears}
use Rattle.pb_command_laws.specs.Variables.{compile_table, package_table, variable_set, folder_at, CompilesHave}
use Rattle.pb_command_laws.proofs.Lasting.{from_behind}
use Rattle.pb_command_laws.proofs.Pairs.{Pair}

-- ---- what every unit has

same_parts : {E : Type 0} (r : Result (ℕ × ℕ × ℕ × List ℕ × List ℕ) E) → numbers_in r ≡ result_unwrap_or r (0, 0, 0, [], [])
same_parts (Ok parts) = refl
same_parts (Err e) = refl

pub front_is : (setup : Setup) (p : Package) → package_pairs setup p ++ about_pairs p.about ++ version_pairs p.version ≡ package_table setup p
front_is setup p = ap (λ (parts : ℕ × ℕ × ℕ × List ℕ × List ℕ). package_pairs setup p ++ about_pairs p.about ++ version_texts p.version (decimal parts.0) (decimal parts.1) (decimal parts.2) parts.3) (same_parts (version_parts p.version))

of_compile : (what : What) (setup : Setup) (project : Project) (unit : Planned) (done : List (Option (List Directive))) (p : Package) → (command_by what setup project unit done p).pairs ≡ pairs_of setup project unit done p
of_compile Lib setup project unit done p = refl
of_compile (Bin name) setup project unit done p = refl
of_compile Script setup project unit done p = refl
of_compile Run setup project unit done p = refl

-- the value of a name is the last that is given
pub value_is : (setup : Setup) (project : Project) (unit : Planned) (done : List (Option (List Directive))) (p : Package) (name : List ℕ) → package_of project unit ≡ Some p
    → value_at name (command_of setup project unit done).pairs ≡ last_value name (package_table setup p ++ own_pairs setup project unit done p unit.unit.what)
value_is setup project unit done p name there =
    ap (λ owner. value_at name (command_for setup project unit done owner).pairs) there
    ∙ ap (value_at name) (of_compile unit.unit.what setup project unit done p) ∙ last_counts (composed setup project unit done p) name
    ∙ ap (λ front. last_value name (front ++ own_pairs setup project unit done p unit.unit.what)) (front_is setup p)

-- ---- compiles

same_pairs : (said : List Directive) → flat_map env_pair said ≡ flat_map variable_set said
same_pairs [] = refl
same_pairs (d ∷ said) = λ i. one d i ++ same_pairs said i
  where
    one : (d : Directive) → env_pair d ≡ variable_set d
    one (Env name value) = refl
    one _ = refl

-- what the run of the unit's own package gives
run_parted : (project : Project) (done : List (Option (List Directive))) (index : Option ℕ) → run_there project done index ≡ row (codes "OUT_DIR") (folder_at project index) ++ flat_map variable_set (said_there done index)
run_parted project done None = refl
run_parted project done (Some index) = by (unit_at project index)
  where
    by : (u : Option Planned) → out_pairs u ++ flat_map env_pair (said_at done index) ≡ row (codes "OUT_DIR") (option_map (λ (u : Planned). u.out) u) ++ flat_map variable_set (said_at done index)
    by None = same_pairs (said_at done index)
    by (Some u) = ap (λ more. (codes "OUT_DIR", u.out) ∷ more) (same_pairs (said_at done index))

module _ (setup : Setup) (project : Project) (unit : Planned) (done : List (Option (List Directive))) (p : Package) where
  -- what a compile has behind what every unit has
  abbrev own_rows : What → List Pair
  own_rows what =
      (codes "CARGO_CRATE_NAME", crate_name_of project unit) ∷ row (codes "CARGO_BIN_NAME") (binary_name what)
      ++ row (codes "OUT_DIR") (if hears what then folder_at project (own_run project unit) else None) ++ flat_map variable_set (if hears what then own_said project unit done else [])

  own_is : (what : What) → is_run what ≡ false → own_pairs setup project unit done p what ≡ own_rows what
  own_is Lib compiles = ap (λ more. (codes "CARGO_CRATE_NAME", crate_name_of project unit) ∷ more) (run_parted project done (own_run project unit))
  own_is (Bin name) compiles = ap (λ more. (codes "CARGO_CRATE_NAME", crate_name_of project unit) ∷ (codes "CARGO_BIN_NAME", name) ∷ more) (run_parted project done (own_run project unit))
  own_is Script compiles = refl
  own_is Run compiles = absurd (cc)

pub compiles_have : CompilesHave
compiles_have setup project unit done p there compiles name =
    value_is setup project unit done p name there ∙ ap (λ own. last_value name (package_table setup p ++ own)) (own_is setup project unit done p unit.unit.what compiles)
    ∙ from_behind name (compile_table setup project unit p (heard project unit done) (if hears unit.unit.what then folder_at project (own_run project unit) else None))
