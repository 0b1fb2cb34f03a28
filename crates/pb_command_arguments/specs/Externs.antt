-- Which libraries a compile gets, which names these libraries have, and in which folders the
-- compiler looks for libraries (The Cargo Book, Specifying Dependencies, Renaming dependencies in
-- Cargo.toml).
use Rattle.std.specs.Prelude.{ℕ, ◌&&◌, Bool, false, if◌then◌else◌, codes, List, [], ◌∷◌, ◌++◌, Option, Some, None, slice_get}
use Rattle.std.specs.List.{flat_map}
use Rattle.pb_data.specs.Ascii.{equals}
use Rattle.pb_graph.specs.Placed.{placed}
use Rattle.pb_feature_types.specs.Features.{is_enabled}
use Rattle.pb_manifest_types.specs.Letters.{underscored}
use Rattle.pb_unit.specs.Units.{is_normal, is_build}
use Rattle.pb_unit.specs.declared.plan.Planned.{Planned}
use Rattle.pb_unit.specs.declared.unit.What.{What}
use Rattle.pb_unit.specs.declared.unit.What.TheVariants.{Lib, Bin, Script, Run}
use Rattle.pb_workspace_types.specs.declared.package.DependencyKind.{DependencyKind}
use Rattle.pb_workspace_types.specs.declared.package.Package.{Package}
use Rattle.pb_workspace_types.specs.declared.package.Entry.{Entry}
use Rattle.pb_command_types.specs.declared.project.Project.{Project}
use Rattle.pb_command_types.specs.NamedTexts.{in_order}
use Rattle.pb_command_types.specs.Targets.{unit_at, library_in, library_name, library_file, is_library}
use Rattle.pb_command_arguments.specs.Words.{option}

-- the output folder of the unit, if there is a unit
abbrev pub folder_in : Option Planned → List (List ℕ)
folder_in None = []
folder_in (Some unit) = unit.out ∷ []

abbrev pub read_at : Project → ℕ → List (List ℕ)
read_at project index = folder_in (unit_at project index)

-- the output folders of all units that a unit reaches, in plan order
abbrev pub reads_of : Project → Planned → List (List ℕ)
reads_of project unit = flat_map (read_at project) unit.reaches

-- the option `-L` with a folder of libraries
unfoldable pub folder_words : List ℕ → List (List ℕ)
folder_words folder = option (codes "-L") (codes "dependency=" ++ folder)

abbrev pub folder_words_in : Option Planned → List (List ℕ)
folder_words_in None = []
folder_words_in (Some unit) = if is_library unit.unit.what then folder_words unit.out else []

-- the option `-L` with the output folder of the unit at an index, if this unit is a library
abbrev pub folder_words_at : Project → ℕ → List (List ℕ)
folder_words_at project index = folder_words_in (unit_at project index)

-- the option `-L` with the folder of each library that a unit reaches, in plan order
abbrev pub dependency_words : Project → Planned → List (List ℕ)
dependency_words project unit = flat_map (folder_words_at project) unit.reaches

-- Dependencies of the kind `kind` count for a unit of the kind `what`. Normal entries count for
-- libraries and binaries, and build entries count for scripts.
abbrev pub leads : What → DependencyKind → Bool
leads Lib kind = is_normal kind
leads (Bin name) kind = is_normal kind
leads Script kind = is_build kind
leads Run kind = false

-- the crate name of the library of the package at an index
abbrev pub library_name_at : Project → ℕ → List ℕ
library_name_at project index = library_name (library_in (slice_get project.workspace.packages index))

-- The name that source code has for an entry's library. If `package` renames the library, this is
-- the entry's key with `_` for each `-`. Otherwise the name is the library's crate name.
abbrev pub entry_name : Project → Entry → List ℕ
entry_name project entry = if entry.renamed then underscored entry.key else library_name_at project entry.to

-- The key by which a library is sorted: the library's name and path, with byte 0 between them.
-- Names and paths have no byte 0, and byte 0 comes before all other bytes.
unfoldable pub extern_key : List ℕ → List ℕ → List ℕ
extern_key name path = name ++ 0 ∷ path

-- the text `NAME=PATH`
unfoldable pub extern_text : List ℕ → List ℕ → List ℕ
extern_text name path = name ++ equals ∷ path

-- the sort key and the text of a library, or nothing if the unit needs no such library
abbrev pub extern : List ℕ → Option (List ℕ) → List (List ℕ × List ℕ)
extern name None = []
extern name (Some path) = (extern_key name path, extern_text name path) ∷ []

-- the library of an entry, if the entry is enabled and counts for the unit
abbrev pub entry_extern : Project → Planned → ℕ → Entry → List (List ℕ × List ℕ)
entry_extern project unit n entry =
    if is_enabled project.features unit.unit.package unit.unit.side n && leads unit.unit.what entry.kind then extern (entry_name project entry) (library_file project unit entry.to) else []

-- the library of a binary's own package; other units have no such library
abbrev pub own_extern : Project → Planned → What → List (List ℕ × List ℕ)
own_extern project unit (Bin name) = extern (library_name_at project unit.unit.package) (library_file project unit unit.unit.package)
own_extern project unit _ = []

-- all libraries that a unit is compiled with, each with its sort key
abbrev pub externs : Project → Planned → Package → List (List ℕ × List ℕ)
externs project unit p = placed (entry_extern project unit) 0 p.entries ++ own_extern project unit unit.unit.what

abbrev pub extern_word : List ℕ × List ℕ → List (List ℕ)
extern_word e = option (codes "--extern") e.1

-- The option `--extern` with `NAME=PATH` for each library. Each library occurs once, in byte order
-- of the names and then of the paths.
abbrev pub extern_words : Project → Planned → Package → List (List ℕ)
extern_words project unit p = flat_map extern_word (in_order (externs project unit p))

-- the arguments for the folders of libraries, followed by the arguments for the libraries
-- themselves
abbrev pub library_words : Project → Planned → Package → List (List ℕ)
library_words project unit p = dependency_words project unit ++ extern_words project unit p
