-- What a package's folder has at the paths that The Cargo Book names (Manifest Format, Cargo
-- Targets, Build Scripts). `sources` is the world without the files at or below the target folder.
use Rattle.std.specs.Prelude.{ℕ, Bool, if◌then◌else◌, codes, List, [], ◌∷◌, ◌++◌, Option, Some, None}
use Rattle.pb_data.specs.Ascii.{slash}
use Rattle.pb_place_types.specs.Paths.{below, is_absolute, names_of, path_of}
use Rattle.pb_place_types.specs.World.{World, has_file}
use Rattle.pb_manifest_types.specs.Library.{library_name}
use Rattle.pb_manifest_types.specs.declared.package.Build.{Build}
use Rattle.pb_manifest_types.specs.declared.package.Build.TheVariants as build
use Rattle.pb_manifest_types.specs.declared.target.CrateType.{CrateType}
use Rattle.pb_manifest_types.specs.declared.target.CrateType.TheVariants.{Lib}
use Rattle.pb_manifest_types.specs.declared.target.Library.{Library as written}
use Rattle.pb_workspace_types.specs.declared.package.Library.{Library}

-- the sources have the file to which this path leads from the package's folder
abbrev pub has_own_file : List ℕ → World → List ℕ → Bool
has_own_file folder sources name = has_file (below folder name) sources

-- the path of the file with this name in the package's folder, if the sources have this file
abbrev pub own_source : List ℕ → World → List ℕ → Option (List ℕ)
own_source folder sources name = if has_own_file folder sources name then Some (below folder name) else None

-- The README of a package if the package's manifest does not mention a README: the first of
-- `README.md`, `README.txt` and `README` that is a file of the package's folder.
abbrev pub found_readme : List ℕ → World → List ℕ
found_readme folder sources =
    if has_own_file folder sources (codes "README.md") then codes "README.md"
    else (if has_own_file folder sources (codes "README.txt") then codes "README.txt"
    else (if has_own_file folder sources (codes "README") then codes "README" else []))

-- the path that a text means; a relative path starts at the folder
abbrev pub resolved : List ℕ → List ℕ → List ℕ
resolved folder text = path_of (names_of (if is_absolute text then text else folder ++ slash ∷ text))

-- The build script of a package. If `build` is missing, the script is `build.rs`, provided that
-- there is such a file. Otherwise `build` decides.
abbrev pub script_of : List ℕ → World → Build → Option (List ℕ)
script_of folder sources build.Discovered = own_source folder sources (codes "build.rs")
script_of folder sources build.Standard = Some (below folder (codes "build.rs"))
script_of folder sources build.Never = None
script_of folder sources (build.At path) = Some (resolved folder path)

-- the source of a library: the path that `[lib]` writes, or `src/lib.rs`
abbrev pub library_source : List ℕ → Option (List ℕ) → List ℕ
library_source folder None = below folder (codes "src/lib.rs")
library_source folder (Some text) = resolved folder text

-- the crate types that are written for a library, or `lib` if no crate type is written
abbrev pub served_types : List CrateType → List CrateType
served_types [] = Lib ∷ []
served_types (t ∷ ts) = t ∷ ts

-- the library that a `[lib]` table describes
abbrev pub written_library : List ℕ → List ℕ → written → Library
written_library folder name l = record { name = name; crate_types = served_types l.crate_types; source = library_source folder l.path }

-- the library of a package without `[lib]`; this library exists only if `src/lib.rs` is a file
abbrev pub found_library : List ℕ → World → List ℕ → Option Library
found_library folder sources name =
    if has_own_file folder sources (codes "src/lib.rs") then Some record { name = name; crate_types = Lib ∷ []; source = below folder (codes "src/lib.rs") } else None

-- the library of the package with this name, if the package has a library
abbrev pub library_of : List ℕ → World → List ℕ → Option written → Option Library
library_of folder sources name None = found_library folder sources (library_name name None)
library_of folder sources name (Some l) = Some (written_library folder (library_name name (Some l)) l)
