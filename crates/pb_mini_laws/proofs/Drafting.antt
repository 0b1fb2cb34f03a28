-- What a package in a folder with a normalised absolute path is: its names are names, and its sources and the folders to which it leads have such paths.
use Rattle.std.proofs.Common.{◌≡◌, ◌∙◌, ℕ, Bool, true, false, if◌then◌else◌, codes, List, [], ◌∷◌, ◌++◌, map, Option, Some, None, IfSome, Result, Ok, Err, refl, sym, ap, subst}
use Rattle.std.specs.FinMap.{get}
use Rattle.std.specs.List.{AllByRecursion}
use Rattle.std.specs.List.Sorted.{IsStrictlySortedBy}
use Rattle.pb_data.specs.UnlessOom.{lifted}
use Rattle.pb_manifest.specs.Document.{manifest_of}
use Rattle.pb_manifest_types.specs.Letters.{is_name}
use Rattle.pb_manifest.specs.Promises.{IsBinary, IsBuild, IsManifest, IsPackage, IsSharedDependency}
use Rattle.pb_manifest_types.specs.declared.dependency.Dependency.{Dependency}
use Rattle.pb_manifest_types.specs.declared.fault.ManifestFault.{ManifestFault}
use Rattle.pb_manifest_types.specs.declared.feature.Feature.{Feature}
use Rattle.pb_manifest_types.specs.declared.feature.FeatureItem.{FeatureItem}
use Rattle.pb_manifest_types.specs.declared.feature.FeatureItem.TheVariants as item
use Rattle.pb_manifest_types.specs.declared.manifest.Manifest.{Manifest}
use Rattle.pb_manifest_types.specs.declared.package.Package.{Package as WrittenPackage}
use Rattle.pb_manifest_types.specs.declared.target.CrateType.TheVariants.{Lib}
use Rattle.pb_manifest_types.specs.declared.target.Binary.{Binary as WrittenBinary}
use Rattle.pb_workspace_types.specs.Settled.{IsAscending}
use Rattle.pb_workspace_types.specs.declared.fault.LoadFault.{LoadFault}
use Rattle.pb_workspace_types.specs.declared.fault.LoadFault.TheVariants as load_fault
use Rattle.pb_workspace_types.specs.declared.package.Binary.{Binary}
use Rattle.pb_workspace_types.specs.declared.package.DependencyKind.TheVariants.{Normal, Build}
use Rattle.pb_place_types.specs.Paths.{below, is_path}
use Rattle.pb_place_types.specs.World.{World, FilesHavePaths}
use Rattle.pb_workspace.proofs.FoldersPut.{opened}
use Rattle.pb_workspace_package.proofs.KeptByName.{binaries_kept, features_kept}
use Rattle.pb_workspace_package.proofs.Naming.{found_named, library_named}
use Rattle.pb_workspace.proofs.Promised.{is_promised, build_dependencies_promised, dependencies_promised, features_promised, library_promised}
use Rattle.pb_workspace_package.proofs.Puttings.{all_map}
use Rattle.pb_workspace_package.proofs.WantedOrder.{wanted_named}
use Rattle.pb_workspace_package.specs.Binaries.{binaries_of, main_source, with_binaries, written_binary}
use Rattle.pb_workspace_package.specs.Drafted.{AreBinaries, AreFeatures, IsBinaryNamed, IsDraft, IsLibraryNamed, IsWantedKeyed, IsWrittenLibrary}
use Rattle.pb_workspace_package.specs.Drafts.{draft_of, draft_with, lists_of}
use Rattle.pb_workspace_package.specs.Features.{features_of, makes_feature, with_made, with_written}
use Rattle.pb_workspace_package.specs.FoundBinaries.{bin_folder, found_binaries}
use Rattle.pb_workspace.specs.Frames.{given_to}
use Rattle.pb_workspace_package.specs.Keys.{keys_of}
use Rattle.pb_workspace.specs.Rounds.{draft_if, draft_in_file, manifest_at, parts_at, parts_in, read_found, tables_in}
use Rattle.pb_workspace_package.specs.Settling.{discovered, readme_found, wanted_in}
use Rattle.pb_workspace_package.specs.Sorted.{with_entry}
use Rattle.pb_workspace_package.specs.Sources.{has_own_file, library_of, own_source}
use Rattle.pb_workspace_package.specs.Taken.{about_of, own_or_given}
use Rattle.pb_workspace_package.specs.Wanted.{each_wanted, wanted_of}
use Rattle.pb_workspace_package.specs.declared.unresolved_package.UnresolvedPackage.{UnresolvedPackage}
use Rattle.pb_workspace_package.specs.declared.unresolved_package.Lists.{Lists}
use Rattle.pb_workspace.specs.declared.workspace_root.WorkspaceRoot.{WorkspaceRoot}
use Rattle.pb_workspace_package.specs.declared.keys.Keys.{Keys}
use Rattle.pb_workspace_package.specs.declared.settling.Given.{Given}
use Rattle.pb_workspace_package.specs.declared.wanted.PackageLocation.{PackageLocation}
use Rattle.pb_workspace_package.specs.declared.wanted.Wanted.{Wanted}
use Rattle.pb_manifest_types.specs.Library.{library_name}
use Rattle.pb_manifest_types.specs.declared.target.Library.{Library as WrittenLibrary}
use Rattle.pb_workspace_types.specs.declared.package.Library.{Library}
use Rattle.pb_mini_laws.proofs.Rising.{with_entry_rises}
use Rattle.pb_mini_laws.proofs.SourcesFound.{At, IsSourced, binaries_at, library_at, script_at}
use Rattle.pb_mini_laws.proofs.Wanting.{IsLed, all_led}

same_ok : {A E : Type 0} (x y : A) → ◌≡◌ {A = Result A E} (Ok x) (Ok y) → x ≡ y
same_ok x y e = cc

-- what a manifest that is read says was promised
lifted_so : (path bytes : List ℕ) (m : Manifest) (r : Result Manifest ManifestFault) → manifest_of bytes ≡ r → lifted (load_fault.Manifest path) r ≡ Ok m → IsManifest m
lifted_so path bytes m (Ok x) at is = subst IsManifest (same_ok {E = LoadFault} x m is) (is_promised bytes x at)
lifted_so path bytes m (Err e) at is = cc

pub promised_at : (sources : World) (path : List ℕ) (m : Manifest) → manifest_at sources path ≡ Ok m → IsManifest m
promised_at sources path m is = by (get sources.files path) is
  where
    by : (found : Option (List ℕ)) → read_found path found ≡ Ok m → IsManifest m
    by None h = cc
    by (Some bytes) h = lifted_so path bytes m (manifest_of bytes) refl h

-- features and binaries stand in byte order of their names
made_rise : (written : List Feature) (es : List (List ℕ × List FeatureItem)) (ds : List Dependency) → IsAscending (map (λ e. e.0) es) → IsAscending (map (λ e. e.0) (with_made written es ds))
made_rise written es [] up = up
made_rise written es (d ∷ ds) up = made_rise written (if makes_feature written d then with_entry es d.key (item.Dependency d.key ∷ []) else es) ds (by (makes_feature written d))
  where
    by : (b : Bool) → IsAscending (map (λ e. e.0) (if b then with_entry es d.key (item.Dependency d.key ∷ []) else es))
    by true = with_entry_rises es d.key (item.Dependency d.key ∷ []) up
    by false = up

written_rise : (es : List (List ℕ × List FeatureItem)) (fs : List Feature) → IsAscending (map (λ e. e.0) es) → IsAscending (map (λ e. e.0) (with_written es fs))
written_rise es [] up = up
written_rise es (f ∷ fs) up = written_rise (with_entry es f.name f.items) fs (with_entry_rises es f.name f.items up)

binaries_rise : (es : List (List ℕ × Binary)) (bs : List Binary) → IsAscending (map (λ e. e.0) es) → IsAscending (map (λ e. e.0) (with_binaries es bs))
binaries_rise es [] up = up
binaries_rise es (b ∷ bs) up = binaries_rise (with_entry es b.name b) bs (with_entry_rises es b.name b up)

none_rises : IsAscending []
unfolding IsStrictlySortedBy
none_rises = tt

features_are : (m : Manifest) → IsManifest m → AreFeatures (features_of m.features m.dependencies m.build_dependencies)
features_are m is =
    features_kept m.features _ m.dependencies m.build_dependencies _ (features_promised m is) (dependencies_promised m is) (build_dependencies_promised m is) refl
    (written_rise _ m.features (made_rise m.features _ m.build_dependencies (made_rise m.features [] m.dependencies none_rises))) refl

module _ (folder : List ℕ) (sources : World) (name : List ℕ) (named : is_name name ≡ true) where
  all_named : (bs : List WrittenBinary) → AllByRecursion IsBinary bs → AllByRecursion (λ b. IsBinaryNamed (written_binary folder sources name b)) bs
  all_named [] all = tt
  all_named (b ∷ bs) all = (all.0.name, all_named bs all.1)

  found_so : (b : Bool) → AllByRecursion IsBinaryNamed (discovered folder sources name b)
  found_so true = found_named (bin_folder folder) name _ (own_source folder sources main_source) (found_binaries folder sources name) named refl
  found_so false = tt

  binaries_are : (b : Bool) (bs : List WrittenBinary) → AllByRecursion IsBinary bs → AreBinaries (binaries_of (discovered folder sources name b) (map (written_binary folder sources name) bs))
  binaries_are b bs promised =
      binaries_kept (discovered folder sources name b) (map (written_binary folder sources name) bs) _ _ (found_so b) (all_map IsBinaryNamed (written_binary folder sources name) bs (all_named bs promised)) refl
      (binaries_rise _ (map (written_binary folder sources name) bs) (binaries_rise [] (discovered folder sources name b) none_rises)) refl

  library_is : (l : Option WrittenLibrary) → IfSome l IsWrittenLibrary → IfSome (library_of folder sources name l) IsLibraryNamed
  library_is None promised = by (has_own_file folder sources (codes "src/lib.rs"))
    where
      by : (b : Bool) → IfSome (if b then Some record { name = library_name name None; crate_types = Lib ∷ []; source = below folder (codes "src/lib.rs") } else None) IsLibraryNamed
      by true = library_named name None (library_name name None) named tt refl
      by false = tt
  library_is (Some l) promised = library_named name (Some l) (library_name name (Some l)) named promised refl

-- a package: its names, and its paths
pub record IsWhole (folder : List ℕ) (d : UnresolvedPackage) : Type 0 where
  pub folder_is : d.folder ≡ folder
  pub draft : IsDraft d
  pub wanted : AllByRecursion IsLed d.wanted
  pub library : IfSome d.library (λ (l : Library). At l.source)
  pub binaries : AllByRecursion IsSourced d.binaries
  pub script : IfSome d.script At

module _ (sources : World) (files : FilesHavePaths sources) (f : WorkspaceRoot) (above : is_path f.root ≡ true) (shared : AllByRecursion IsSharedDependency f.given.dependencies) where
  -- what a member may take, and another package may not
  given_so : (b : Bool) → AllByRecursion IsSharedDependency (given_to f b).dependencies
  given_so true = shared
  given_so false = tt

  -- what the keys of a package come to
  record AreKeys (p : WrittenPackage) (keys : Keys) : Type 0 where
    name : keys.name ≡ p.name
    script : keys.build ≡ p.build

  keys_are : (at : PackageLocation) (given : Given) (p : WrittenPackage) (keys : Keys) → keys_of sources at given.package p ≡ Ok keys → AreKeys p keys
  keys_are at given p keys is =
      let (version, first, rest) = opened (own_or_given p.version given.package.version) _ keys is in
      let (edition, second, more) = opened (own_or_given p.edition given.package.edition) _ keys rest in
      let (about, third, end) = opened (about_of at.root at.folder (readme_found at.folder sources p.readme) p given.package) _ keys more in
      record { name = ap (λ (k : Keys). k.name) (sym (same_ok {E = LoadFault} _ keys end)); script = ap (λ (k : Keys). k.build) (sym (same_ok {E = LoadFault} _ keys end)) }

  module _ (at : PackageLocation) (root : at.root ≡ f.root) (is : is_path at.folder ≡ true) (member : Bool) where
    abbrev given : Given
    given = given_to f member

    -- what the lists of a manifest come to
    record AreLists (m : Manifest) (lists : Lists) : Type 0 where
      keyed : AllByRecursion IsWantedKeyed lists.wanted
      led : AllByRecursion IsLed lists.wanted
      features : lists.features ≡ features_of m.features m.dependencies m.build_dependencies

    both : (xs ys : List Wanted) → AllByRecursion IsLed xs → AllByRecursion IsLed ys → AllByRecursion IsLed (xs ++ ys)
    both [] ys one two = two
    both (x ∷ xs) ys one two = (one.0, both xs ys one.1 two)

    lists_are : (m : Manifest) (lists : Lists) → IsManifest m → lists_of at given m.dependencies m.build_dependencies m.features m.binaries ≡ Ok lists → AreLists m lists
    lists_are m lists promised made =
        let (wanted, found, end) = opened (wanted_in at given m.dependencies m.build_dependencies) _ lists made in
        let (normal, one, rest) = opened (each_wanted (wanted_of at.root at.folder at.manifest given.dependencies Normal) m.dependencies) _ wanted found in
        let (script, two, whole) = opened (each_wanted (wanted_of at.root at.folder at.manifest given.dependencies Build) m.build_dependencies) _ wanted rest in
        let joined : wanted ≡ normal ++ script = sym (same_ok {E = LoadFault} (normal ++ script) wanted whole) in
        let same = sym (same_ok {E = LoadFault} _ lists end) in
        let top : is_path at.root ≡ true = ap is_path root ∙ above in
        let led : AllByRecursion IsLed wanted =
        subst (AllByRecursion IsLed) (sym joined)
        (both normal script (all_led at.root at.folder at.manifest given.dependencies top is (given_so member) Normal m.dependencies normal promised.dependencies.each one)
        (all_led at.root at.folder at.manifest given.dependencies top is (given_so member) Build m.build_dependencies script promised.build_dependencies.each two)) in
        record {
          keyed = subst (λ (l : Lists). AllByRecursion IsWantedKeyed l.wanted) (sym same)
              (wanted_named at.root at.folder at.manifest given.dependencies m.dependencies m.build_dependencies normal script wanted (dependencies_promised m promised) (build_dependencies_promised m promised) one two joined);
          led = subst (λ (l : Lists). AllByRecursion IsLed l.wanted) (sym same) led;
          features = ap (λ (l : Lists). l.features) same;
        }

    package_is : (m : Manifest) (p : WrittenPackage) (d : UnresolvedPackage) → IsManifest m → IsPackage p → draft_of sources at member given p (tables_in m) ≡ Ok d → IsWhole at.folder d
    unfolding draft_of draft_with
    package_is m p d promised named made =
        let (keys, said, rest) = opened (keys_of sources at given.package p) (λ k. draft_with sources at member given (tables_in m) k) d made in
        let (lists, listed, end) = opened (lists_of at given m.dependencies m.build_dependencies m.features m.binaries) _ d rest in
        let are = keys_are at given p keys said in
        let come = lists_are m lists promised listed in
        let name : is_name keys.name ≡ true = ap is_name are.name ∙ named.name in
        subst (IsWhole at.folder) (same_ok {E = LoadFault} _ d end) record {
          folder_is = refl;
          draft = (
            name,
            library_is at.folder sources keys.name name m.library (library_promised m promised),
            binaries_are at.folder sources keys.name name keys.autobins m.binaries promised.binaries,
            subst AreFeatures (sym come.features) (features_are m promised),
            come.keyed,
          );
          wanted = come.led;
          library = library_at at.folder sources is files keys.name m.library promised.library;
          binaries = binaries_at at.folder sources is files keys.name keys.autobins m.binaries promised.binaries;
          script = script_at at.folder sources is files keys.build (subst IsBuild (sym are.script) named.script);
        }

    -- the package of a manifest that was read
    pub whole_in_file : (d : UnresolvedPackage) → draft_in_file sources f member at ≡ Ok d → IsWhole at.folder d
    unfolding draft_in_file draft_if
    whole_in_file d made =
        let (parts, read, rest) = opened (parts_at sources at.manifest) (λ parts. draft_if sources f member at parts.tables parts.found) d made in
        let (m, found, same) = opened (manifest_at sources at.manifest) (λ m. Ok (parts_in m)) parts read in
        let promised = promised_at sources at.manifest m found in
        by m promised m.package promised.found (subst (λ ps. draft_if sources f member at ps.tables ps.found ≡ Ok d) (sym (same_ok {E = LoadFault} (parts_in m) parts same)) rest)
      where
        by : (m : Manifest) → IsManifest m → (o : Option WrittenPackage) → IfSome o IsPackage → draft_if sources f member at (tables_in m) o ≡ Ok d → IsWhole at.folder d
        by m promised None none h = cc
        by m promised (Some p) named h = package_is m p d promised named h
