-- A law about the binaries that are found.
use Rattle.std.specs.Prelude.{◌≡◌, ◌≢◌, ℕ, true, List, ◌∷◌, ◌++◌, Contains, None}
use Rattle.pb_place_types.specs.Paths.{is_path}
use Rattle.pb_place_types.specs.World.{World, FilesHavePaths}
use Rattle.pb_workspace_types.specs.declared.package.Binary.{Binary}
use Rattle.pb_workspace_package.specs.Binaries.{binary_source}
use Rattle.pb_workspace_package.specs.FoundBinaries.{found_binaries}

-- If several binaries of the same name are found in a package's folder, the last one counts. A
-- `[[bin]]` of this name without a path would have the same source as this last binary.
abbrev pub FoundAsLookedFor : Type 0
FoundAsLookedFor = (folder : List ℕ) (sources : World) (owner : List ℕ) (before later : List Binary) (b : Binary) → is_path folder ≡ true → FilesHavePaths sources
    → found_binaries folder sources owner ≡ before ++ b ∷ later → ((other : Binary) → Contains later other → other.name ≢ b.name) → b.source ≡ binary_source folder sources owner b.name None
