-- What a command starts.
use Rattle.std.proofs.Common.{◌≡◌, ℕ, true, false, List, [], ◌∷◌, ◌++◌, map, Option, Some, None, refl, sym, ap, subst}
use Rattle.std.specs.List.{flat_map, filter_map, cons_option}
use Rattle.pb_directive.specs.declared.directive.Directive.{Directive}
use Rattle.pb_workspace_types.specs.declared.package.Package.{Package}
use Rattle.pb_unit.specs.declared.plan.Planned.{Planned}
use Rattle.pb_unit.specs.declared.unit.What.{What}
use Rattle.pb_unit.specs.declared.unit.What.TheVariants.{Run}
use Rattle.pb_command_types.specs.Targets.{unit_at, is_run, script_source, script_file}
use Rattle.pb_command_types.specs.declared.project.Project.{Project}
use Rattle.pb_command_types.specs.declared.project.Setup.{Setup}
use Rattle.pb_command.specs.Command.{run_program, run_words, compile_of, run_of, command_by, command_for}
use Rattle.pb_command_arguments.specs.Externs.{folder_in, read_at}
use Rattle.pb_command_laws.specs.Starts.{StartsCompiler, StartsScript, CompilesStart, RunsStart}

abbrev Lines : Type 0
Lines = List (Option (List Directive))

reads_are : (project : Project) (indices : List ℕ) → flat_map (read_at project) indices ≡ map (λ (u : Planned). u.out) (filter_map (unit_at project) indices)
reads_are project [] = refl
reads_are project (index ∷ indices) = by (unit_at project index) (reads_are project indices)
  where
    by : (u : Option Planned) → flat_map (read_at project) indices ≡ map (λ (u : Planned). u.out) (filter_map (unit_at project) indices)
        → folder_in u ++ flat_map (read_at project) indices ≡ map (λ (u : Planned). u.out) (cons_option u (filter_map (unit_at project) indices))
    by None later = later
    by (Some u) later = ap (λ folders. u.out ∷ folders) later

module _ (setup : Setup) (project : Project) (unit : Planned) (done : Lines) (p : Package) where
  compiler : StartsCompiler setup project unit (compile_of setup project unit done p)
  compiler = (refl, record { folder_is = refl; out = refl; target = refl; reads = reads_are project unit.reaches; toolchain = refl })

  started : (runner : List (List ℕ)) (file : Option (List ℕ)) (script : List ℕ) → file ≡ Some script → run_program runner (script_source file) ∷ run_words runner (script_source file) ≡ runner ++ script ∷ []
  started [] file script is = ap (λ f. script_source f ∷ []) is
  started (program ∷ words) file script is = ap (λ f. program ∷ words ++ script_source f ∷ []) is

  script : StartsScript setup project unit p (script_file project unit) (run_of setup project unit done p)
  script = (started setup.runner (script_file project unit), record { folder_is = refl; out = refl; target = refl; reads = reads_are project unit.reaches; toolchain = refl })

  by_what : (what : What) → is_run what ≡ false → StartsCompiler setup project unit (command_by what setup project unit done p)
  by_what Run compiles = absurd (cc)
  by_what _ compiles = compiler

  by_run : (what : What) → is_run what ≡ true → StartsScript setup project unit p (script_file project unit) (command_by what setup project unit done p)
  by_run Run runs = script
  by_run _ runs = absurd (cc)

pub compiles_start : CompilesStart
compiles_start setup project unit done p there compiles =
    subst (λ (owner : Option Package). StartsCompiler setup project unit (command_for setup project unit done owner)) (sym there) (by_what setup project unit done p unit.unit.what compiles)

pub runs_start : RunsStart
runs_start setup project unit done p there runs =
    subst (λ (owner : Option Package). StartsScript setup project unit p (script_file project unit) (command_for setup project unit done owner)) (sym there) (by_run setup project unit done p unit.unit.what runs)
