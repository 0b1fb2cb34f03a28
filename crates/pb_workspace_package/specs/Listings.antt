-- What is read of a package's folder. What is found in the folder depends on nothing else.
-- `sources` is the world without the files at or below the target folder.
use Rattle.std.specs.Prelude.{◌≡◌, ℕ, Bool, List, filter}
use Rattle.pb_place_types.specs.World.{World, listed}
use Rattle.pb_workspace_package.specs.declared.listings.Listings.{Listings}
use Rattle.pb_workspace_package.specs.declared.own_file.OwnFile.{OwnFile}
use Rattle.pb_workspace_package.specs.FoundBinaries.{bin_folder}
use Rattle.pb_workspace_package.specs.OwnFile.{name_of, own_files}
use Rattle.pb_workspace_package.specs.Sources.{has_own_file}

-- the folder has this file in the sources
abbrev pub is_there : List ℕ → World → OwnFile → Bool
is_there folder sources file = has_own_file folder sources (name_of file)

-- The listings name the files that the folder has at fixed paths, and the files below the folder's
-- `src/bin`.
pub record AreListingsOf (folder : List ℕ) (sources : World) (l : Listings) : Type 0 where
  pub own : l.own ≡ filter (is_there folder sources) own_files
  pub in_bin : l.in_bin ≡ listed (bin_folder folder) sources
