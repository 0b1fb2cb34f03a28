-- What is true of every package that was read, whatever the files contain. We need these
-- definitions to promise that each workspace is settled once it is read.
use Rattle.std.specs.Prelude.{◌≡◌, ◌||◌, true, List, map, IfSome}
use Rattle.std.specs.List.{AllByRecursion}
use Rattle.pb_manifest_types.specs.Letters.{is_name, is_crate_name, is_feature_name}
use Rattle.pb_manifest_types.specs.declared.dependency.Dependency.{Dependency}
use Rattle.pb_manifest_types.specs.declared.feature.Feature.{Feature}
use Rattle.pb_manifest_types.specs.declared.target.Library.{Library as WrittenLibrary}
use Rattle.pb_workspace_package.specs.declared.unresolved_package.UnresolvedPackage.{UnresolvedPackage}
use Rattle.pb_workspace_package.specs.declared.unresolved_package.Tables.{Tables}
use Rattle.pb_workspace_types.specs.declared.package.Binary.{Binary}
use Rattle.pb_workspace_types.specs.declared.package.Library.{Library}
use Rattle.pb_workspace_package.specs.declared.settling.Targets.{Targets}
use Rattle.pb_workspace_package.specs.declared.wanted.Wanted.{Wanted}
use Rattle.pb_workspace_types.specs.Settled.{IsAscending}

-- The name of a library has the letters that crates' names may have. The next definitions say which
-- letters other kinds of names have.
abbrev pub IsLibraryNamed : Library → Type 0
IsLibraryNamed l = is_crate_name l.name ≡ true

abbrev pub IsBinaryNamed : Binary → Type 0
IsBinaryNamed b = is_name b.name ≡ true

abbrev pub IsFeatureNamed : Feature → Type 0
IsFeatureNamed f = is_feature_name f.name || is_name f.name ≡ true

abbrev pub IsWrittenFeature : Feature → Type 0
IsWrittenFeature f = is_feature_name f.name ≡ true

abbrev pub IsKeyed : Dependency → Type 0
IsKeyed d = is_name d.key ≡ true

abbrev pub IsWantedKeyed : Wanted → Type 0
IsWantedKeyed w = is_name w.key ≡ true

abbrev pub IsWrittenLibrary : WrittenLibrary → Type 0
IsWrittenLibrary l = IfSome l.name (λ name. is_crate_name name ≡ true)

-- the binaries have valid names, in byte order without repeats
pub record AreBinaries (bs : List Binary) : Type 0 where
  pub named : AllByRecursion IsBinaryNamed bs
  pub order : IsAscending (map (λ (b : Binary). b.name) bs)

-- the features have valid names, in byte order without repeats
pub record AreFeatures (fs : List Feature) : Type 0 where
  pub named : AllByRecursion IsFeatureNamed fs
  pub order : IsAscending (map (λ (f : Feature). f.name) fs)

-- what each manifest that was read promises about its tables
abbrev pub ArePromised : Tables → Type 0
ArePromised t =
    IfSome t.library IsWrittenLibrary × AllByRecursion IsKeyed t.dependencies × AllByRecursion IsKeyed t.build_dependencies × AllByRecursion IsWrittenFeature t.features
    × IsAscending (map (λ (d : Dependency). d.key) t.dependencies) × IsAscending (map (λ (d : Dependency). d.key) t.build_dependencies)

abbrev pub AreTargets : Targets → Type 0
AreTargets t = IfSome t.library IsLibraryNamed × AreBinaries t.binaries

abbrev pub IsDraft : UnresolvedPackage → Type 0
IsDraft d = (is_name d.name ≡ true) × IfSome d.library IsLibraryNamed × AreBinaries d.binaries × AreFeatures d.features × AllByRecursion IsWantedKeyed d.wanted
