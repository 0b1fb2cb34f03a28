-- How a package is settled from its manifest, its folder and what its workspace offers (The Cargo
-- Book, Manifest Format and Workspaces). `sources` is the world without the files at or below the
-- target folder.
use Rattle.std.specs.Prelude.{ℕ, Bool, false, ◌||◌, if◌then◌else◌, List, [], ◌∷◌, ◌++◌, map, Option, Result, Ok}
use Rattle.pb_data.specs.UnlessOom.{◌>>=◌}
use Rattle.pb_data.specs.OrderedSet.{is_mentioned, mentioned}
use Rattle.pb_place_types.specs.World.{World}
use Rattle.pb_manifest_types.specs.declared.dependency.Dependency.{Dependency}
use Rattle.pb_manifest_types.specs.declared.inherited.Inheritable.{Inheritable}
use Rattle.pb_manifest_types.specs.declared.inherited.Inheritable.TheVariants.{Written, Workspace, Absent}
use Rattle.pb_manifest_types.specs.declared.package.Build.{Build}
use Rattle.pb_manifest_types.specs.declared.package.Readme.{Readme}
use Rattle.pb_manifest_types.specs.declared.target.Binary.{Binary as WrittenBinary}
use Rattle.pb_manifest_types.specs.declared.target.Library.{Library as WrittenLibrary}
use Rattle.pb_workspace_types.specs.declared.fault.LoadFault.{LoadFault}
use Rattle.pb_workspace_types.specs.declared.package.Binary.{Binary}
use Rattle.pb_workspace_types.specs.declared.package.DependencyKind.TheVariants.{Normal, Build as ForScript}
use Rattle.pb_workspace_package.specs.declared.settling.Given.{Given}
use Rattle.pb_workspace_package.specs.declared.settling.Targets.{Targets}
use Rattle.pb_workspace_package.specs.declared.wanted.PackageLocation.{PackageLocation}
use Rattle.pb_workspace_package.specs.declared.wanted.Wanted.{Wanted}
use Rattle.pb_workspace_package.specs.Binaries.{binaries_of, written_binary}
use Rattle.pb_workspace_package.specs.FoundBinaries.{found_binaries}
use Rattle.pb_workspace_package.specs.Sources.{found_readme, library_of, script_of}
use Rattle.pb_workspace_package.specs.Wanted.{each_wanted, wanted_of}

-- the name of the README that is found in the folder; if the manifest mentions a README, this name
-- is empty
abbrev pub readme_found : List ℕ → World → Inheritable Readme → List ℕ
readme_found folder sources (Written readme) = []
readme_found folder sources Workspace = []
readme_found folder sources Absent = found_readme folder sources

-- what the entries of the two dependency tables request, or the first fault
abbrev pub wanted_in : PackageLocation → Given → List Dependency → List Dependency → Result (List Wanted) LoadFault
wanted_in at given dependencies build =
    each_wanted (wanted_of at.root at.folder at.manifest given.dependencies Normal) dependencies >>= (λ normal.
    each_wanted (wanted_of at.root at.folder at.manifest given.dependencies ForScript) build >>= (λ for_script.
    Ok (normal ++ for_script)))

-- the binaries that are found, or no binaries if `autobins` is false
abbrev pub discovered : List ℕ → World → List ℕ → Bool → List Binary
discovered folder sources name autobins = if autobins then found_binaries folder sources name else []

-- the targets of a package: its library, its binaries and its build script
abbrev pub targets_of : List ℕ → World → List ℕ → Bool → Build → Option WrittenLibrary → List WrittenBinary → Targets
targets_of folder sources name autobins build library binaries = record {
  library = library_of folder sources name library;
  binaries = binaries_of (discovered folder sources name autobins) (map (written_binary folder sources name) binaries);
  script = script_of folder sources build;
}

-- some name of the list is also among the earlier names, or occurs twice in the list
abbrev pub comes_again : List (List ℕ) → List (List ℕ) → Bool
comes_again before [] = false
comes_again before (name ∷ names) = is_mentioned before name || comes_again (mentioned before name) names

-- two tables `[[bin]]` have the same name
abbrev pub has_same_binaries : List WrittenBinary → Bool
has_same_binaries binaries = comes_again [] (map (λ (b : WrittenBinary). b.name) binaries)
