-- What is true of each command, defined without following the code.
use Rattle.std.specs.Prelude.{◌≡◌, ℕ, List, All, IfSome, Option, true, false}
use Rattle.std.specs.Cmp.Lexicographic.{slice_cmp}
use Rattle.std.specs.Ordering.{nat_cmp, ordering_then}
use Rattle.pb_data.specs.Table.{value_at, names_of, last_value}
use Rattle.pb_directive.specs.declared.directive.Directive.{Directive}
use Rattle.pb_place_types.specs.Paths.{is_path, has_byte_0}
use Rattle.pb_place_types.specs.declared.command.Command.{Command}
use Rattle.pb_unit.specs.declared.plan.Planned.{Planned}
use Rattle.pb_workspace_types.specs.Settled.{IsAscending}
use Rattle.pb_workspace_types.specs.declared.package.Package.{Package}
use Rattle.pb_command_types.specs.declared.project.Project.{Project}
use Rattle.pb_command_types.specs.declared.project.Setup.{Setup}
use Rattle.pb_command.specs.Command.{command_of}
use Rattle.pb_command_arguments.specs.Externs.{extern_key}
use Rattle.pb_command_environment.specs.Pairs.{composed, pairs_of}

-- the names of the variables are in ascending byte order, so no name occurs twice
abbrev pub PairsRise : Type 0
PairsRise = (setup : Setup) (project : Project) (unit : Planned) (done : List (Option (List Directive))) → IsAscending (names_of (command_of setup project unit done).pairs)

-- The last value of a variable counts. So a script's value replaces the builder's value, and a
-- later line's value replaces an earlier line's value.
abbrev pub LastValuesCount : Type 0
LastValuesCount = (setup : Setup) (project : Project) (unit : Planned) (done : List (Option (List Directive))) (p : Package) (name : List ℕ)
    → value_at name (pairs_of setup project unit done p) ≡ last_value name (composed setup project unit done p)

-- Because names have no byte 0, libraries are sorted by their names and then by their paths.
abbrev pub LibrariesInOrder : Type 0
LibrariesInOrder = (name other path next : List ℕ) → has_byte_0 name ≡ false → has_byte_0 other ≡ false
    → slice_cmp nat_cmp (extern_key name path) (extern_key other next) ≡ ordering_then (slice_cmp nat_cmp name other) (slice_cmp nat_cmp path next)

-- all folders of a project have normalised absolute paths
pub record HasPaths (project : Project) : Type 0 where
  pub root : is_path project.workspace.root ≡ true
  pub target : is_path project.workspace.target ≡ true
  pub packages : All (λ (p : Package). is_path p.folder ≡ true) project.workspace.packages
  pub units : All (λ (unit : Planned). is_path unit.out ≡ true) project.plan.planned

-- all paths in a command are normalised absolute paths
pub record IsAbsolute (command : Command) : Type 0 where
  pub folder : is_path command.folder ≡ true
  pub target : is_path command.target ≡ true
  pub out : IfSome command.out (λ folder. is_path folder ≡ true)
  pub reads : All (λ folder. is_path folder ≡ true) command.reads

abbrev pub CommandsAreAbsolute : Type 0
CommandsAreAbsolute = (setup : Setup) (project : Project) (unit : Planned) (done : List (Option (List Directive)))
    → HasPaths project → is_path unit.out ≡ true → IsAbsolute (command_of setup project unit done)
