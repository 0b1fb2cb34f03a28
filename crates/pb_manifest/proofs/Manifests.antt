-- Each manifest that was read is one.
use Rattle.std.proofs.Common.{◌≡◌, ◌≢◌, ◌≤◌, ℕ, ℤ, pos, negsuc, List, [], ◌∷◌, Bool, true, false, not, ◌&&◌, ◌||◌, nat_le, nat_lt, length, ap, sym, ◌∙◌, refl, subst, Option, Some, None, Err, IfSome, IsSome, is_some, if◌then◌else◌, codes, arith}
use Rattle.std.proofs.lemmas.Bool.{and_parts, false≢true}
use Rattle.std.proofs.lemmas.Bool.Decides.{nat_tests}
use Rattle.std.specs.List.{AllByRecursion, AllZip}
use Rattle.std.specs.Prelude.{option_and_then}
use Rattle.std.specs.Str.{bytes_eq}
use Rattle.toml.specs.Data.{Data, Members, as_str, as_bool, as_table, as_integer, is_sorted}
use Rattle.pb_data.specs.Limits.{max_manifest_bytes}
use Rattle.pb_manifest.specs.Binaries.{binaries_at}
use Rattle.pb_manifest.specs.Dependencies.{dependencies_at, dependency_of, shared_dependencies_at, shared_dependency_of}
use Rattle.pb_manifest.specs.Document.{supported, not_old, package_at, library_in, library_at, workspace_in, workspace_at, targets_of, tables_of, document_of, document_in, manifest_of}
use Rattle.pb_manifest.specs.Features.{features_at, feature_of}
use Rattle.pb_manifest_types.specs.Keys.{spelled}
use Rattle.pb_manifest_types.specs.Letters.{is_name, is_name_byte}
use Rattle.pb_manifest.specs.Package.{resolver_at}
use Rattle.pb_manifest.specs.Profiles.{written, setting_in, settings_at, profile_value, profile_keys, profile_table, override_of, overrides_at, build_override_in, build_override_at, is_built_in, may_be_profile, profile_of_table, profile_of, profiles_at}
use Rattle.pb_manifest.specs.Promises.{IsName, IsPath, Ascend, IsDependency, IsFeature, AreEntries, MayHave, AreProfileKeys, IsOverride, IsProfile, IsPackage, IsLibrary, IsWorkspaceTable, IsManifest}
use Rattle.pb_profile_keys.specs.Keys.{Said}
use Rattle.pb_profile_keys.specs.Table.{keys, meaning_at}
use Rattle.pb_profile_keys.specs.declared.key.ProfileKey.{ProfileKey}
use Rattle.pb_profile_keys.specs.declared.setting.Setting.{Setting}
use Rattle.pb_manifest_types.specs.Values.{Text}
use Rattle.pb_manifest.specs.Values.{paths_at, listed, table_at, value_at, optional, entries_of}
use Rattle.pb_manifest.specs.Workspace.{workspace_of, workspace_package_at, listed_paths_at}
use Rattle.pb_manifest.specs.declared.document.Targets.{Targets}
use Rattle.pb_manifest.specs.declared.document.Tables.{Tables}
use Rattle.pb_manifest_types.specs.declared.fault.ManifestFault.TheVariants.{BadProfile, TooLarge}
use Rattle.pb_manifest_types.specs.declared.key.Key.{Key}
use Rattle.pb_manifest_types.specs.declared.key.Key.TheVariants as key
use Rattle.pb_manifest_types.specs.declared.manifest.WorkspaceTable.{WorkspaceTable}
use Rattle.pb_manifest_types.specs.declared.profile.Profile.{Profile}
use Rattle.pb_manifest_types.specs.declared.profile.ProfileOverride.{ProfileOverride}
use Rattle.pb_manifest.proofs.Promises.{package_in_is, library_in_is, binaries_in_are, dependency_key, dependency_is, shared_key, shared_is, feature_key, feature_is, AreBinaries}
use Rattle.pb_manifest.proofs.Sorted.{bytes_sorted}
use Rattle.pb_manifest.proofs.Yields.{Yields, yields_ok, yields_err, yields_then, yields_either, yields_some, yields_optional, Ordered, yields_table, table_sorted, value_sorted, Read1, yields_entries, yields_entries_at, yields_paths_at, keys_ascend}

-- a value that was read is one that its key may have
means_it : (k : ProfileKey) (found : Option Setting) (value : Setting) → option_and_then (meaning_at k) found ≡ Some value → MayHave k value
means_it k None value is = cc
means_it k (Some w) value is = (w, is)

may_have : (k : ProfileKey) (d : Data) (value : Setting) → setting_in k d ≡ Some value → MayHave k value
unfolding setting_in
may_have k d value is = means_it k (written d) value is

-- the keys that a profile or an override sets
abbrev AreAt : List ProfileKey → Said → Type 0
AreAt ks values = AllZip (λ k value. IfSome value (MayHave k)) ks values

settings_are : (ks : List ProfileKey) (ms : Members) → Yields (AreAt ks) (settings_at ks ms)
settings_are [] ms = yields_ok (AreAt []) [] tt
settings_are (k ∷ ks) ms =
    yields_then (AreAt (k ∷ ks)) (profile_value (setting_in k) (key.OfProfile k) ms) _ (λ value was.
    yields_then (AreAt (k ∷ ks)) (settings_at ks ms) _ (λ values were.
    yields_ok (AreAt (k ∷ ks)) (value ∷ values) (
      yields_optional (MayHave k) _ (value_at (key.OfProfile k) ms) (λ d at. yields_some (MayHave k) BadProfile (setting_in k d) (may_have k d)) value was,
      settings_are ks ms values were,
    )))

keys_are : (ms : Members) → Yields AreProfileKeys (profile_keys ms)
unfolding profile_keys
keys_are ms = settings_are keys ms

yields_profile_table : (k : Key) (ms : Members) → Ordered ms → Yields (λ o. IfSome o Ordered) (optional profile_table (value_at k ms))
yields_profile_table k ms h =
    yields_optional Ordered profile_table (value_at k ms) (λ d at. yields_some Ordered BadProfile (as_table d) (λ ns is. table_sorted d ns (value_sorted (spelled k) ms d h at) is))

abbrev override_key : ProfileOverride → Text
override_key o = o.name

abbrev ReadOverride : Text → ProfileOverride → Type 0
ReadOverride = Read1 override_key IsOverride

override_is : (name : Text) (d : Data) → Yields (ReadOverride name) (override_of name d)
unfolding override_of
override_is name d =
    yields_then (ReadOverride name) (profile_table d) _ (λ ms was.
    yields_then (ReadOverride name) (profile_keys ms) _ (λ keys were.
    yields_ok (ReadOverride name) _ (record { key_is = refl; is = keys_are ms keys were })))

abbrev AreOverrides : List ProfileOverride → Type 0
AreOverrides = AreEntries override_key IsOverride

overrides_are : (ms : Members) → Ordered ms → Yields AreOverrides (overrides_at ms)
overrides_are ms h =
    yields_then AreOverrides (optional profile_table (value_at key.Package ms)) (entries_of override_of) (λ found was.
    yields_entries override_key IsOverride override_of (λ name d s. override_is name d) found (yields_profile_table key.Package ms h found was))

abbrev IfKeys : Option Said → Type 0
IfKeys o = IfSome o AreProfileKeys

build_override_in_is : (found : Option Members) → Yields IfKeys (build_override_in found)
build_override_in_is None = yields_ok IfKeys None tt
build_override_in_is (Some ms) = yields_then IfKeys (profile_keys ms) _ (λ keys were. yields_ok IfKeys (Some keys) (keys_are ms keys were))

build_override_is : (ms : Members) → Yields IfKeys (build_override_at ms)
build_override_is ms = yields_then IfKeys (optional profile_table (value_at key.BuildOverride ms)) build_override_in (λ found was. build_override_in_is found)

-- which profiles there may be
custom_may : (a b c d : Bool) → (a || b && c && d) ≡ true → a ≡ false → (b ≡ true) × (d ≡ true)
custom_may true b c d h is = cc
custom_may false true true true h is = (refl, refl)
custom_may false true true false h is = cc
custom_may false true false d h is = cc
custom_may false false c d h is = cc

custom_is : (name : Text) (inherits : Option Text) → may_be_profile name inherits ≡ true → is_built_in name ≡ false → IsName name × IsSome inherits
unfolding may_be_profile
custom_is name inherits h is = custom_may (is_built_in name) (is_name name) (not (bytes_eq name (codes "debug"))) (is_some inherits) h is

no_debug : (inherits : Option Text) → may_be_profile (codes "debug") inherits ≡ false
unfolding may_be_profile is_built_in is_name is_name_byte
no_debug inherits = refl

not_debug : (name : Text) (inherits : Option Text) → may_be_profile name inherits ≡ true → name ≢ codes "debug"
not_debug name inherits h same = false≢true (sym (no_debug inherits) ∙ sym (ap (λ t. may_be_profile t inherits) same) ∙ h)

abbrev profile_key : Profile → Text
profile_key p = p.name

abbrev ReadProfile : Text → Profile → Type 0
ReadProfile = Read1 profile_key IsProfile

profile_table_is : (name : Text) (ms : Members) → Ordered ms → Yields (ReadProfile name) (profile_of_table name ms)
profile_table_is name ms h =
    yields_then (ReadProfile name) (build_override_at ms) _ (λ build_override was1.
    yields_then (ReadProfile name) (profile_keys ms) _ (λ keys was2.
    yields_then (ReadProfile name) (profile_value as_str key.Inherits ms) _ (λ inherits was3.
    yields_then (ReadProfile name) (overrides_at ms) _ (λ packages was4.
    yields_either (ReadProfile name) (may_be_profile name inherits) _ (Err BadProfile)
    (λ may. yields_ok (ReadProfile name) _ (record {
      key_is = refl;
      is = record {
        custom = λ none. let (letters, some) = custom_is name inherits may none in record { name = letters; inherits = some };
        not_debug = not_debug name inherits may;
        keys = keys_are ms keys was2;
        packages = overrides_are ms h packages was4;
        build_override = build_override_is ms build_override was1;
      };
    }))
    (λ may. yields_err (ReadProfile name) BadProfile)))))

profile_is : (name : Text) (d : Data) → is_sorted d ≡ true → Yields (ReadProfile name) (profile_of name d)
unfolding profile_of
profile_is name d s =
    yields_then (ReadProfile name) (profile_table d) (profile_of_table name) (λ ms was. profile_table_is name ms (yields_some Ordered BadProfile (as_table d) (λ ns is. table_sorted d ns s is) ms was))

-- `[workspace]`
abbrev ArePaths : List Text → Type 0
ArePaths = AllByRecursion IsPath

listed_are : (found : Option (List Text)) → IfSome found ArePaths → ArePaths (listed found)
listed_are None h = tt
listed_are (Some paths) h = h

listed_paths_are : (k : Key) (ms : Members) → Yields ArePaths (listed_paths_at k ms)
listed_paths_are k ms = yields_then ArePaths (paths_at k ms) _ (λ found was. yields_ok ArePaths (listed found) (listed_are found (yields_paths_at k ms found was)))

workspace_is : (ms : Members) → Ordered ms → Yields IsWorkspaceTable (workspace_of ms)
workspace_is ms h =
    yields_then IsWorkspaceTable (paths_at key.DefaultMembers ms) _ (λ default_members was1.
    yields_then IsWorkspaceTable (shared_dependencies_at ms) _ (λ dependencies was2.
    yields_then IsWorkspaceTable (listed_paths_at key.Exclude ms) _ (λ exclude was3.
    yields_then IsWorkspaceTable (listed_paths_at key.Members ms) _ (λ members was4.
    yields_then IsWorkspaceTable (workspace_package_at ms) _ (λ inherited was5.
    yields_then IsWorkspaceTable (resolver_at ms) _ (λ resolver was6.
    yields_ok IsWorkspaceTable _ (record {
      members = listed_paths_are key.Members ms members was4;
      default_members = yields_paths_at key.DefaultMembers ms default_members was1;
      exclude = listed_paths_are key.Exclude ms exclude was3;
      dependencies = yields_entries_at shared_key _ shared_dependency_of (λ name d s. shared_is name d) key.Dependencies ms h dependencies was2;
    })))))))

abbrev IfWorkspace : Option WorkspaceTable → Type 0
IfWorkspace o = IfSome o IsWorkspaceTable

workspace_in_is : (found : Option Members) → IfSome found Ordered → Yields IfWorkspace (workspace_in found)
workspace_in_is None h = yields_ok IfWorkspace None tt
workspace_in_is (Some ms) h = yields_then IfWorkspace (workspace_of ms) _ (λ w was. yields_ok IfWorkspace (Some w) (workspace_is ms h w was))

-- the whole
record AreTargets (a : Targets) : Type 0 where
  pub found : IfSome a.package IsPackage
  pub library : IfSome a.library IsLibrary
  pub binaries : AreBinaries a.binaries

targets_are : (ms : Members) → Yields AreTargets (targets_of ms)
unfolding targets_of
targets_are ms =
    yields_then AreTargets (package_at ms) _ (λ found was1.
    yields_then AreTargets (library_at ms) _ (λ library was2.
    yields_then AreTargets (binaries_at ms) _ (λ binaries was3.
    yields_ok AreTargets _ (record {
      found = yields_then (λ o. IfSome o IsPackage) (table_at key.Package ms) _ (λ ns was. package_in_is _ ns) found was1;
      library = yields_then (λ o. IfSome o IsLibrary) (table_at key.Lib ms) library_in (λ ns was. library_in_is ns) library was2;
      binaries = binaries_in_are (value_at key.Bin ms) binaries was3;
    }))))

record AreTables (b : Tables) : Type 0 where
  pub dependencies : AreEntries dependency_key IsDependency b.dependencies
  pub build_dependencies : AreEntries dependency_key IsDependency b.build_dependencies
  pub dev_dependencies : Ascend b.dev_dependencies
  pub features : AreEntries feature_key IsFeature b.features
  pub profiles : AreEntries profile_key IsProfile b.profiles
  pub workspace : IfWorkspace b.workspace

profiles_are : (ms : Members) → Ordered ms → Yields (AreEntries profile_key IsProfile) (profiles_at ms)
profiles_are ms h =
    yields_then (AreEntries profile_key IsProfile) (optional profile_table (value_at key.Profile ms)) (entries_of profile_of) (λ found was.
    yields_entries profile_key IsProfile profile_of profile_is found (yields_profile_table key.Profile ms h found was))

tables_are : (ms : Members) → Ordered ms → Yields AreTables (tables_of ms)
unfolding tables_of
tables_are ms h =
    yields_then AreTables (dependencies_at key.Dependencies ms) _ (λ dependencies was1.
    yields_then AreTables (dependencies_at key.BuildDependencies ms) _ (λ build_dependencies was2.
    yields_then AreTables (features_at ms) _ (λ features was3.
    yields_then AreTables (profiles_at ms) _ (λ profiles was4.
    yields_then AreTables (workspace_at ms) _ (λ workspace was5.
    yields_ok AreTables _ (record {
      dependencies = yields_entries_at dependency_key IsDependency (dependency_of key.Dependencies) (λ name d s. dependency_is key.Dependencies name d) key.Dependencies ms h dependencies was1;
      build_dependencies =
          yields_entries_at dependency_key IsDependency (dependency_of key.BuildDependencies) (λ name d s. dependency_is key.BuildDependencies name d) key.BuildDependencies ms h build_dependencies was2;
      dev_dependencies = keys_ascend key.DevDependencies ms h;
      features = yields_entries_at feature_key IsFeature feature_of (λ name d s. feature_is name d) key.Features ms h features was3;
      profiles = profiles_are ms h profiles was4;
      workspace = yields_then IfWorkspace (table_at key.Workspace ms) workspace_in (λ ns was. workspace_in_is ns (yields_table key.Workspace ms h ns was)) workspace was5;
    }))))))

document_is : (ms : Members) → Ordered ms → Yields IsManifest (document_of ms)
unfolding document_of
document_is ms h =
    yields_then IsManifest (supported ms) _ (λ none was1.
    yields_then IsManifest (not_old ms) _ (λ new was2.
    yields_then IsManifest (targets_of ms) _ (λ a was3.
    yields_then IsManifest (tables_of ms) _ (λ b was4.
    let targets = targets_are ms a was3 in
    let tables = tables_are ms h b was4 in
    yields_ok IsManifest _ (record {
      found = targets.found;
      library = targets.library;
      binaries = targets.binaries;
      dependencies = tables.dependencies;
      build_dependencies = tables.build_dependencies;
      dev_dependencies = tables.dev_dependencies;
      features = tables.features;
      profiles = tables.profiles;
      workspace = tables.workspace;
    })))))

-- each manifest that was read is one
pub manifest_is : (bytes : List ℕ) → Yields IsManifest (manifest_of bytes)
manifest_is bytes =
    yields_either IsManifest (nat_lt max_manifest_bytes (length bytes)) (Err TooLarge) _ (λ over. yields_err IsManifest TooLarge) (λ fits.
    yields_then IsManifest (document_in bytes) document_of (λ ms was. document_is ms (bytes_sorted bytes ms was)))
