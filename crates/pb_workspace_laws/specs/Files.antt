-- Files of the sources. The sources are the world without the files at or below the target folder.
use Rattle.std.specs.Prelude.{◌≡◌, ℕ, Bool, is_some, List, Option, Some, Ok}
use Rattle.std.specs.FinMap as finite
use Rattle.std.specs.List.{find}
use Rattle.std.specs.Option.{option_map}
use Rattle.pb_manifest.specs.Document.{manifest_of}
use Rattle.pb_manifest_types.specs.declared.manifest.Manifest.{Manifest}
use Rattle.pb_place_types.specs.Paths.{below}
use Rattle.pb_place_types.specs.World.{World}

-- the sources have a file with this name in this folder
abbrev pub is_file : World → List ℕ → List ℕ → Bool
is_file sources folder name = is_some (finite.get sources.files (below folder name))

-- the first of these names that is the name of a file in this folder
abbrev pub first_file : World → List ℕ → List (List ℕ) → Option (List ℕ)
first_file sources folder names = find (is_file sources folder) names

-- the path of the file that `first_file` names
abbrev pub first_path : World → List ℕ → List (List ℕ) → Option (List ℕ)
first_path sources folder names = option_map (below folder) (first_file sources folder names)

-- the file at this path contains this manifest
pub record IsManifestAt (sources : World) (path : List ℕ) (m : Manifest) : Type 0 where
  pub bytes : List ℕ
  pub file : finite.get sources.files path ≡ Some bytes
  pub says : manifest_of bytes ≡ Ok m
