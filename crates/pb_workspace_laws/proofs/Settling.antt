-- A workspace that was read is settled.
use Rattle.std.proofs.Common.{◌≡◌, ◌∙◌, ℕ, Bool, true, false, if◌then◌else◌, codes, List, [], ◌∷◌, map, Option, Some, None, IfSome, refl, sym, ap, subst}
use Rattle.std.specs.List.{AllByRecursion}
use Rattle.pb_manifest_types.specs.Letters.{is_name}
use Rattle.pb_manifest_types.specs.Library.{library_name}
use Rattle.pb_manifest.specs.Promises.{IsBinary, IsManifest, IsPackage}
use Rattle.pb_manifest_types.specs.declared.feature.Feature.{Feature}
use Rattle.pb_manifest_types.specs.declared.feature.FeatureItem.{FeatureItem}
use Rattle.pb_manifest_types.specs.declared.manifest.Manifest.{Manifest}
use Rattle.pb_manifest_types.specs.declared.package.Package.{Package as Written}
use Rattle.pb_manifest_types.specs.declared.target.Binary.{Binary as WrittenBinary}
use Rattle.pb_manifest_types.specs.declared.target.CrateType.TheVariants.{Lib}
use Rattle.pb_manifest_types.specs.declared.target.Library.{Library as WrittenLibrary}
use Rattle.pb_place_types.specs.Paths.{below}
use Rattle.pb_place_types.specs.World.{World}
use Rattle.pb_workspace_package.proofs.KeptByName.{binaries_kept, features_kept}
use Rattle.pb_workspace_package.proofs.Naming.{found_named, library_named}
use Rattle.pb_workspace.proofs.Promised.{build_dependencies_promised, dependencies_promised, features_promised, library_promised}
use Rattle.pb_workspace_package.proofs.Puttings.{all_map, map_twice}
use Rattle.pb_workspace_package.proofs.WantedOrder.{wanted_named}
use Rattle.pb_workspace_package.specs.Binaries.{binaries_of, main_source, written_binary}
use Rattle.pb_workspace_package.specs.Drafted.{AreBinaries, AreFeatures, IsBinaryNamed, IsDraft, IsLibraryNamed, IsWrittenLibrary}
use Rattle.pb_workspace_package.specs.Features.{feature_of, features_of, with_made, with_written}
use Rattle.pb_workspace_package.specs.FoundBinaries.{bin_folder, found_binaries}
use Rattle.pb_workspace_package.specs.Settling.{discovered}
use Rattle.pb_workspace_package.specs.Sources.{has_own_file, library_of, own_source}
use Rattle.pb_workspace_package.specs.declared.unresolved_package.UnresolvedPackage.{UnresolvedPackage}
use Rattle.pb_workspace_package.specs.declared.settling.Given.{Given}
use Rattle.pb_workspace_package.specs.declared.wanted.PackageLocation.{PackageLocation}
use Rattle.pb_workspace_laws.proofs.Binaries.{nothing_rises, rises_on}
use Rattle.pb_workspace_laws.proofs.Features.{features_rise}
use Rattle.pb_workspace_laws.proofs.Reading.{AreWanted}
use Rattle.pb_workspace_laws.proofs.Sorting.{Rises}

features_named : (m : Manifest) → IsManifest m → AreFeatures (features_of m.features m.dependencies m.build_dependencies)
features_named m is =
    let es : List (List ℕ × List FeatureItem) = with_written (with_made m.features (with_made m.features [] m.dependencies) m.build_dependencies) m.features in
    features_kept m.features (features_of m.features m.dependencies m.build_dependencies) m.dependencies m.build_dependencies es (features_promised m is) (dependencies_promised m is) (build_dependencies_promised m is) refl
    (subst Rises (map_twice (λ (f : Feature). f.name) feature_of es) (features_rise m is.features.order)) refl

module _ (folder : List ℕ) (sources : World) (name : List ℕ) (named : is_name name ≡ true) where
  all_named : (bs : List WrittenBinary) → AllByRecursion IsBinary bs → AllByRecursion (λ b. IsBinaryNamed (written_binary folder sources name b)) bs
  all_named [] all = tt
  all_named (b ∷ bs) all = (all.0.name, all_named bs all.1)

  found_so : (b : Bool) → AllByRecursion IsBinaryNamed (discovered folder sources name b)
  found_so true = found_named (bin_folder folder) name _ (own_source folder sources main_source) (found_binaries folder sources name) named refl
  found_so false = tt

  binaries_named : (b : Bool) (bs : List WrittenBinary) → AllByRecursion IsBinary bs → AreBinaries (binaries_of (discovered folder sources name b) (map (written_binary folder sources name) bs))
  binaries_named b bs promised =
      binaries_kept (discovered folder sources name b) (map (written_binary folder sources name) bs) _ _ (found_so b) (all_map IsBinaryNamed (written_binary folder sources name) bs (all_named bs promised)) refl
      (rises_on _ (map (written_binary folder sources name) bs) (rises_on [] (discovered folder sources name b) nothing_rises)) refl

  library_so : (l : Option WrittenLibrary) → IfSome l IsWrittenLibrary → IfSome (library_of folder sources name l) IsLibraryNamed
  library_so None promised = by (has_own_file folder sources (codes "src/lib.rs"))
    where
      by : (b : Bool) → IfSome (if b then Some record { name = library_name name None; crate_types = Lib ∷ []; source = below folder (codes "src/lib.rs") } else None) IsLibraryNamed
      by true = library_named name None (library_name name None) named tt refl
      by false = tt
  library_so (Some l) promised = library_named name (Some l) (library_name name (Some l)) named promised refl

-- of these parts a package keeps to all that is promised of it
pub draft_kept : (sources : World) (at : PackageLocation) (given : Given) (w : Written) (m : Manifest) (d : UnresolvedPackage) → IsManifest m → m.package ≡ Some w → d.name ≡ w.name → d.library ≡ library_of at.folder sources w.name m.library
    → d.binaries ≡ binaries_of (discovered at.folder sources w.name w.autobins) (map (written_binary at.folder sources w.name) m.binaries) → d.features ≡ features_of m.features m.dependencies m.build_dependencies → AreWanted at given m d.wanted → IsDraft d
draft_kept sources at given w m d kept is_package name library binaries features wanted =
    let named : is_name w.name ≡ true = (subst (λ o. IfSome o IsPackage) is_package kept.found).name in (
      ap is_name name ∙ named,
      subst (λ l. IfSome l IsLibraryNamed) (sym library) (library_so at.folder sources w.name named m.library (library_promised m kept)),
      subst AreBinaries (sym binaries) (binaries_named at.folder sources w.name named w.autobins m.binaries kept.binaries),
      subst AreFeatures (sym features) (features_named m kept),
      wanted_named at.root at.folder at.manifest given.dependencies m.dependencies m.build_dependencies wanted.normal wanted.for_script d.wanted (dependencies_promised m kept) (build_dependencies_promised m kept)
          wanted.of_dependencies wanted.of_build_dependencies (sym wanted.whole),
    )
