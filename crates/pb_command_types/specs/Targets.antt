-- What a unit compiles and where its files are: crate names, sources and files, looked up by index
-- (The Cargo Book, Cargo Targets, Build Scripts). An index without a unit or a package yields
-- nothing.
use Rattle.std.specs.Prelude.{ℕ, ◌==◌, ◌&&◌, Bool, true, false, if◌then◌else◌, codes, List, [], ◌∷◌, ◌++◌, Option, Some, None, slice_get}
use Rattle.std.specs.List.{find}
use Rattle.std.specs.Str.{bytes_eq}
use Rattle.pb_directive.specs.declared.directive.Directive.{Directive}
use Rattle.pb_manifest_types.specs.Letters.{underscored}
use Rattle.pb_manifest_types.specs.declared.target.CrateType.{CrateType}
use Rattle.pb_manifest_types.specs.declared.target.CrateType.TheVariants as crate_type
use Rattle.pb_place_types.specs.Paths.{below, is_relative}
use Rattle.pb_unit.specs.declared.plan.Planned.{Planned}
use Rattle.pb_unit.specs.declared.unit.What.{What}
use Rattle.pb_unit.specs.declared.unit.What.TheVariants.{Lib, Bin, Script, Run}
use Rattle.pb_workspace_types.specs.declared.package.Package.{Package}
use Rattle.pb_workspace_types.specs.declared.package.Library.{Library}
use Rattle.pb_workspace_types.specs.declared.package.Binary.{Binary}
use Rattle.pb_command_types.specs.declared.project.Project.{Project}

-- Packages and units.

abbrev pub package_of : Project → Planned → Option Package
package_of project unit = slice_get project.workspace.packages unit.unit.package

abbrev pub unit_at : Project → ℕ → Option Planned
unit_at project index = slice_get project.plan.planned index

abbrev pub library_in : Option Package → Option Library
library_in None = None
library_in (Some p) = p.library

abbrev pub package_folder : List ℕ → Option Package → List ℕ
package_folder root None = root
package_folder root (Some p) = p.folder

-- the folder of the unit's package, or the workspace's root if there is no such package
abbrev pub folder_of : Project → Planned → List ℕ
folder_of project unit = package_folder project.workspace.root (package_of project unit)

-- Crates.

abbrev pub library_name : Option Library → List ℕ
library_name None = []
library_name (Some library) = library.name

-- The name of the crate that a unit compiles. A library's crate has the library's name. A binary's
-- crate has the binary's name, with `_` for each `-`. The crates of all scripts have the same name.
-- A run compiles no crate.
abbrev pub crate_name : Option Library → What → List ℕ
crate_name library Lib = library_name library
crate_name library (Bin name) = underscored name
crate_name library Script = codes "build_script_build"
crate_name library Run = []

abbrev pub crate_name_of : Project → Planned → List ℕ
crate_name_of project unit = crate_name (library_in (package_of project unit)) unit.unit.what

abbrev pub library_types : Option Library → List CrateType
library_types None = []
library_types (Some library) = library.crate_types

-- the crate types to which a unit is compiled: those of the library, and `bin` for a binary or a
-- script
abbrev pub crate_types : Option Library → What → List CrateType
crate_types library Lib = library_types library
crate_types library (Bin name) = crate_type.Bin ∷ []
crate_types library Script = crate_type.Bin ∷ []
crate_types library Run = []

abbrev pub library_source : Option Library → List ℕ
library_source None = []
library_source (Some library) = library.source

abbrev pub binary_source : Option Binary → List ℕ
binary_source None = []
binary_source (Some binary) = binary.source

abbrev pub script_source : Option (List ℕ) → List ℕ
script_source None = []
script_source (Some source) = source

-- the binary with this name, if there is one
abbrev pub binary_named : List ℕ → List Binary → Option Binary
binary_named name binaries = find (λ (binary : Binary). bytes_eq name binary.name) binaries

-- the path of the source that a unit compiles
abbrev pub source_by : Package → What → List ℕ
source_by p Lib = library_source p.library
source_by p (Bin name) = binary_source (binary_named name p.binaries)
source_by p Script = script_source p.script
source_by p Run = []

-- Files.

-- the path of the file with this name in a folder, if the name is a relative path
abbrev pub file_in : List ℕ → List ℕ → Option (List ℕ)
file_in folder name = if is_relative name then Some (below folder name) else None

-- the file to which a crate is compiled: `libC.rlib` for a library, and `C` for a binary or a
-- script
abbrev pub file_by : What → List ℕ → List ℕ → Option (List ℕ)
file_by Lib folder name = file_in folder (codes "lib" ++ name ++ codes ".rlib")
file_by (Bin binary) folder name = file_in folder name
file_by Script folder name = file_in folder name
file_by Run folder name = None

-- the file that the compile of a unit produces; a run produces no file
abbrev pub made_file_of : Project → Planned → Option (List ℕ)
made_file_of project unit = file_by unit.unit.what unit.out (crate_name_of project unit)

abbrev pub dep_info_by : What → List ℕ → List ℕ → Option (List ℕ)
dep_info_by Run folder name = None
dep_info_by _ folder name = file_in folder (name ++ codes ".d")

-- the file `C.d`, in which the compile of a unit reports what the compiler has read; a run has no
-- such file
abbrev pub dep_info_of : Project → Planned → Option (List ℕ)
dep_info_of project unit = dep_info_by unit.unit.what unit.out (crate_name_of project unit)

-- What a unit needs, looked up by package.

abbrev pub is_library : What → Bool
is_library Lib = true
is_library _ = false

abbrev pub is_script : What → Bool
is_script Script = true
is_script _ = false

abbrev pub is_run : What → Bool
is_run Run = true
is_run _ = false

-- there is a unit, the test accepts the unit's kind, and the unit belongs to the package at this
-- index
abbrev pub is_one_of : (What → Bool) → ℕ → Option Planned → Bool
is_one_of test owner None = false
is_one_of test owner (Some unit) = test unit.unit.what && (unit.unit.package == owner)

-- of the units that this unit needs, the index of the first that belongs to the package at `owner`
-- and has a kind that the test accepts
abbrev pub needed : (What → Bool) → Project → Planned → ℕ → Option ℕ
needed test project unit owner = find (λ index. is_one_of test owner (unit_at project index)) unit.needs

-- the index of the run of the unit's own package, if the unit needs this run
abbrev pub own_run : Project → Planned → Option ℕ
own_run project unit = needed is_run project unit unit.unit.package

abbrev pub file_there : Project → Option Planned → Option (List ℕ)
file_there project None = None
file_there project (Some unit) = made_file_of project unit

abbrev pub file_at : Project → Option ℕ → Option (List ℕ)
file_at project None = None
file_at project (Some index) = file_there project (unit_at project index)

-- the file of the library of the package at this index, if the unit needs this library
abbrev pub library_file : Project → Planned → ℕ → Option (List ℕ)
library_file project unit owner = file_at project (needed is_library project unit owner)

-- the file of the script of the unit's own package, if the unit needs this script
abbrev pub script_file : Project → Planned → Option (List ℕ)
script_file project unit = file_at project (needed is_script project unit unit.unit.package)

-- Directives.

abbrev pub said_in : Option (Option (List Directive)) → List Directive
said_in None = []
said_in (Some None) = []
said_in (Some (Some directives)) = directives

-- the directives of the run at an index of the plan; there are no directives if no run at this
-- index has ended
abbrev pub said_at : List (Option (List Directive)) → ℕ → List Directive
said_at done index = said_in (slice_get done index)

abbrev pub said_there : List (Option (List Directive)) → Option ℕ → List Directive
said_there done None = []
said_there done (Some index) = said_at done index

-- the directives of the run of the unit's own package, if the unit needs this run
abbrev pub own_said : Project → Planned → List (Option (List Directive)) → List Directive
own_said project unit done = said_there done (own_run project unit)
