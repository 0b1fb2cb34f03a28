-- What a unit compiles, and which files it produces (The Cargo Book, Cargo Targets, Build Scripts).
use Rattle.std.specs.Prelude.{◌≡◌, ℕ, codes, List, [], ◌∷◌, ◌++◌, map, None, Some, Contains, slice_get}
use Rattle.pb_directive.specs.Metadata.{underscored}
use Rattle.pb_manifest_types.specs.declared.target.CrateType.{CrateType}
use Rattle.pb_manifest_types.specs.declared.target.CrateType.TheVariants as crate_type
use Rattle.pb_workspace_types.specs.Settled.{IsAscending}
use Rattle.pb_workspace_types.specs.declared.package.Binary.{Binary}
use Rattle.pb_workspace_types.specs.declared.package.Library.{Library}
use Rattle.pb_feature_types.specs.declared.features.Features.{Features}
use Rattle.pb_workspace_types.specs.declared.options.Selection.{Selection}
use Rattle.pb_workspace_types.specs.declared.package.Package.{Package}
use Rattle.pb_workspace_types.specs.declared.package.Side.{Side}
use Rattle.pb_workspace_types.specs.declared.workspace.Workspace.{Workspace}
use Rattle.pb_command_types.specs.Targets.{crate_name_of, crate_types, dep_info_of, file_in, made_file_of, package_of, source_by}
use Rattle.pb_command_types.specs.declared.project.Project.{Project}
use Rattle.pb_unit.specs.Units.{unit, IsPlanned}
use Rattle.pb_unit.specs.declared.plan.Planned.{Planned}
use Rattle.pb_unit.specs.declared.unit.Unit.{Unit as OfPlan}
use Rattle.pb_unit.specs.declared.unit.What.{What}
use Rattle.pb_unit.specs.declared.unit.What.TheVariants.{Lib, Bin, Script, Run}

-- The package has a target of this kind. A target has a crate name, crate types, a source, and the
-- name of the compiled file.
pub data IsTarget (p : Package) : What → List ℕ → List CrateType → List ℕ → List ℕ → Type 0 where
  library : (l : Library) (has : p.library ≡ Some l) → IsTarget p Lib l.name l.crate_types l.source (codes "lib" ++ l.name ++ codes ".rlib")
  binary : (b : Binary) (has : Contains p.binaries b) → IsTarget p (Bin b.name) (underscored b.name) (crate_type.Bin ∷ []) b.source (underscored b.name)
  script : (source : List ℕ) (has : p.script ≡ Some source) → IsTarget p Script (codes "build_script_build") (crate_type.Bin ∷ []) source (codes "build_script_build")

-- The unit compiles the target with these parts. The compiled file is in the unit's output folder.
-- So is the file `CRATE.d`, which lists what the compiler read.
pub record Makes (project : Project) (u : Planned) (p : Package) (crate : List ℕ) (types : List CrateType) (source file : List ℕ) : Type 0 where
  pub crate_is : crate_name_of project u ≡ crate
  pub types_are : crate_types p.library u.unit.what ≡ types
  pub source_is : source_by p u.unit.what ≡ source
  pub file_is : made_file_of project u ≡ file_in u.out file
  pub told : dep_info_of project u ≡ file_in u.out (crate ++ codes ".d")

-- If a package's binaries are sorted by name, each unit of the package compiles its own target. In
-- a workspace that was read, the binaries are sorted.
abbrev pub UnitsMakeTargets : Type 0
UnitsMakeTargets = (project : Project) (u : Planned) (p : Package) (crate : List ℕ) (types : List CrateType) (source file : List ℕ) → package_of project u ≡ Some p → IsAscending (map (λ (b : Binary). b.name) p.binaries)
    → IsTarget p u.unit.what crate types source file → Makes project u p crate types source file

-- a run produces no file and no dep-info
abbrev pub RunsMakeNone : Type 0
RunsMakeNone = (project : Project) (u : Planned) → u.unit.what ≡ Run → (made_file_of project u ≡ None) × (dep_info_of project u ≡ None)

-- The package of a unit has a target of the unit's kind. The package of a run has a script.
pub data UnitHasTarget (ws : Workspace) : OfPlan → Type 0 where
  compile : (p : ℕ) (s : Side) (what : What) (owner : Package) (there : slice_get ws.packages p ≡ Some owner) (crate : List ℕ) (types : List CrateType) (source file : List ℕ) (is : IsTarget owner what crate types source file) → UnitHasTarget ws (unit p s what)
  run : (p : ℕ) (s : Side) (owner : Package) (there : slice_get ws.packages p ≡ Some owner) (source : List ℕ) (has : owner.script ≡ Some source) → UnitHasTarget ws (unit p s Run)

-- the package of each unit of a plan has the unit's target, as `UnitHasTarget` states
abbrev pub PlansHaveTargets : Type 0
PlansHaveTargets = (ws : Workspace) (features : Features) (selection : Selection) (u : OfPlan) → IsPlanned ws features selection u → UnitHasTarget ws u
