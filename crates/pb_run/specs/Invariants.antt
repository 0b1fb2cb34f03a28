-- What a build requires of a project.
use Rattle.std.specs.Prelude.{◌≡◌, ◌≢◌, ◌<◌, ◌⊎◌, ◌↔◌, ℕ, true, false, List, Option, Some, Contains, slice_get}
use Rattle.std.specs.List.{AllByRecursion}
use Rattle.pb_directive.specs.declared.directive.Directive.{Directive}
use Rattle.pb_command.specs.Command.{command_of}
use Rattle.pb_command_arguments.specs.Externs.{reads_of}
use Rattle.pb_place_types.specs.declared.command.Command.{Command}
use Rattle.pb_workspace_types.specs.Settled.{IsSettled}
use Rattle.pb_workspace_types.specs.declared.options.Selection.{Selection}
use Rattle.pb_place_types.specs.Paths.{is_path, is_below, is_at_or_below}
use Rattle.pb_store_soundness.specs.Records.{is_key, out_of}
use Rattle.pb_unit.specs.Plan.{IsPlan, profile_folder}
use Rattle.pb_unit.specs.declared.plan.Planned.{Planned}
use Rattle.pb_workspace_types.specs.declared.package.Package.{Package}
use Rattle.pb_command_types.specs.declared.project.Project.{Project}
use Rattle.pb_command_types.specs.declared.project.Setup.{Setup}

-- the unit has this command for some setup and some directives
abbrev pub IsCommandOf : Project → Planned → Command → Type 0
IsCommandOf project u c = (setup : Setup) × (done : List (Option (List Directive))) × (c ≡ command_of setup project u done)

-- the folder of a project's records: the profile's folder in the target folder
abbrev pub records_folder : Project → List ℕ
records_folder project = profile_folder project.workspace project.profile

-- this unit needs a unit whose output folder is `f`, or a unit that reads the folder `f`
pub record IsReadByNeed (project : Project) (u : Planned) (f : List ℕ) : Type 0 where
  pub index : ℕ
  pub needed : Contains u.needs index
  pub need : Planned
  pub there : slice_get project.plan.planned index ≡ Some need
  pub own_or_read : (f ≡ need.out) ⊎ Contains (reads_of project need) f

-- What a build requires of a project. The workspace is settled, and the plan is a plan of this
-- workspace. The other fields follow from `settled` and `planned`. They are about the units'
-- packages, order, folders and keys, and about what units need and read.
pub record IsInOrder (project : Project) : Type 0 where
  pub settled : IsSettled project.workspace
  pub selection : Selection
  pub planned : IsPlan project.workspace project.features selection project.profile project.plan
  pub folder : is_path (records_folder project) ≡ true
  pub target : is_at_or_below project.workspace.target (records_folder project) ≡ true
  pub keys : (i : ℕ) (u : Planned) → slice_get project.plan.planned i ≡ Some u → is_key u.key ≡ true
  pub folders : (i : ℕ) (u : Planned) → slice_get project.plan.planned i ≡ Some u → u.out ≡ out_of (records_folder project) u.key
  pub needs_reached : (i : ℕ) (u : Planned) → slice_get project.plan.planned i ≡ Some u → (index : ℕ) → Contains u.needs index → Contains u.reaches index
  pub reads_are : (i : ℕ) (u : Planned) → slice_get project.plan.planned i ≡ Some u → (f : List ℕ) → Contains (reads_of project u) f ↔ IsReadByNeed project u f
  pub packages : (i : ℕ) (u : Planned) → slice_get project.plan.planned i ≡ Some u → (p : Package) × (slice_get project.workspace.packages u.unit.package ≡ Some p)
  pub inside : (i : ℕ) (u : Planned) → slice_get project.plan.planned i ≡ Some u → is_below project.workspace.target u.out ≡ true
  pub apart : (i j : ℕ) (u v : Planned) → slice_get project.plan.planned i ≡ Some u → slice_get project.plan.planned j ≡ Some v → i ≢ j
      → (q : List ℕ) → is_at_or_below u.out q ≡ true → is_at_or_below v.out q ≡ false
  pub needs : (i : ℕ) (u : Planned) → slice_get project.plan.planned i ≡ Some u → AllByRecursion (λ index. index < i) u.needs
  pub reaches : (i : ℕ) (u : Planned) → slice_get project.plan.planned i ≡ Some u → AllByRecursion (λ index. index < i) u.reaches
