-- Which other units of a plan a unit's command uses. A compile gets libraries and hears a run; a
-- run starts a script (The Cargo Book, Specifying Dependencies, Build Scripts).
use Rattle.std.specs.Prelude.{◌≡◌, ◌↔◌, ℕ, ◌++◌, true, false, if◌then◌else◌, codes, is_some, List, Some, None, slice_get}
use Rattle.pb_feature_types.specs.Features.{is_enabled}
use Rattle.pb_directive.specs.Metadata.{underscored}
use Rattle.pb_workspace_types.specs.declared.options.Selection.{Selection}
use Rattle.pb_workspace_types.specs.declared.package.DependencyKind.TheVariants.{Normal, Build}
use Rattle.pb_workspace_types.specs.declared.package.Entry.{Entry}
use Rattle.pb_workspace_types.specs.declared.package.Library.{Library}
use Rattle.pb_workspace_types.specs.declared.package.Package.{Package}
use Rattle.pb_workspace_types.specs.declared.package.Side.{Side}
use Rattle.pb_place_types.specs.Paths.{below}
use Rattle.pb_command_types.specs.Targets.{package_of, unit_at, file_in, is_script, is_run, own_run, script_file}
use Rattle.pb_command_types.specs.declared.project.Project.{Project}
use Rattle.pb_unit.specs.Plan.{IsPlan, profile_folder}
use Rattle.pb_unit.specs.Units.{unit, key_of, role_of}
use Rattle.pb_unit.specs.declared.plan.Planned.{Planned}
use Rattle.pb_unit.specs.declared.unit.Unit.{Unit as OfPlan}
use Rattle.pb_unit.specs.declared.unit.What.TheVariants.{Lib, Bin, Script, Run}
use Rattle.pb_command_laws.specs.Compiles.{hears}
use Rattle.pb_command_laws.specs.Libraries.{IsLibrary}

-- the unit is in the plan of its project, and belongs to the package
pub record StandsInPlan (project : Project) (u : Planned) (p : Package) : Type 0 where
  pub selection : Selection
  pub index : ℕ
  pub planned : IsPlan project.workspace project.features selection project.profile project.plan
  pub there : slice_get project.plan.planned index ≡ Some u
  pub owner : package_of project u ≡ Some p

-- the output folder of a unit, which is `TARGET/PROFILE/KEY`
abbrev pub folder_of : Project → OfPlan → List ℕ
folder_of project u = below (profile_folder project.workspace project.profile) (key_of project.workspace u)

-- the package at an index has a library with this crate name; on this side, the library is compiled
-- to this file
pub record IsLibraryOf (project : Project) (index : ℕ) (side : Side) (crate file : List ℕ) : Type 0 where
  pub owner : Package
  pub library : Library
  pub package_at : slice_get project.workspace.packages index ≡ Some owner
  pub made : owner.library ≡ Some library
  pub crate_is : crate ≡ library.name
  pub file_is : file_in (folder_of project (unit index side Lib)) (codes "lib" ++ crate ++ codes ".rlib") ≡ Some file

-- A unit is to get a library with this name and this file.
-- - It may be the library of an entry, on the side of the unit's role, if the entry is enabled on
--   the unit's side. The entry is in `[build-dependencies]` for a script, and in `[dependencies]`
--   for any other unit.
-- - It may be the library of a binary's own package.
pub data IsWanted (project : Project) (u : Planned) (p : Package) : List ℕ → List ℕ → Type 0 where
  by_entry : (n : ℕ) (entry : Entry) (crate file : List ℕ) (there : slice_get p.entries n ≡ Some entry) (enabled : is_enabled project.features u.unit.package u.unit.side n ≡ true)
      (kind : entry.kind ≡ (if is_script u.unit.what then Build else Normal)) (library : IsLibraryOf project entry.to (role_of u.unit) crate file) → IsWanted project u p (if entry.renamed then underscored entry.key else crate) file
  own : (binary crate file : List ℕ) (is : u.unit.what ≡ Bin binary) (library : IsLibraryOf project u.unit.package u.unit.side crate file) → IsWanted project u p crate file

-- A compile of a plan gets exactly the libraries of which `IsWanted` is true.
abbrev pub LibrariesAreWanted : Type 0
LibrariesAreWanted = (project : Project) (u : Planned) (p : Package) → StandsInPlan project u p → is_run u.unit.what ≡ false → (name file : List ℕ) → IsLibrary project u p name file ↔ IsWanted project u p name file

-- the plan has, at this index, the run of the package with the index `owner` on this side
pub record IsRunOf (project : Project) (owner : ℕ) (side : Side) (index : ℕ) : Type 0 where
  pub run : Planned
  pub there : unit_at project index ≡ Some run
  pub is : run.unit ≡ unit owner side Run

-- A library or a binary hears the run of its own package, on its own side, if this package has a
-- script. If the package has no script, the unit hears no run.
pub record HearsOwnRun (project : Project) (u : Planned) (p : Package) : Type 0 where
  pub some : is_some p.script ≡ true → (index : ℕ) × (own_run project u ≡ Some index) × IsRunOf project u.unit.package u.unit.side index
  pub none : is_some p.script ≡ false → own_run project u ≡ None

abbrev pub CompilesHearRuns : Type 0
CompilesHearRuns = (project : Project) (u : Planned) (p : Package) → StandsInPlan project u p → hears u.unit.what ≡ true → HearsOwnRun project u p

-- A run starts the script of its own package on its own side.
abbrev pub RunsStartScripts : Type 0
RunsStartScripts = (project : Project) (u : Planned) (p : Package) → StandsInPlan project u p → is_run u.unit.what ≡ true
    → script_file project u ≡ Some (below (folder_of project (unit u.unit.package u.unit.side Script)) (codes "build_script_build"))
