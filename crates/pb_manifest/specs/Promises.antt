-- What is true of each manifest that was read.
use Rattle.std.specs.Prelude.{◌≡◌, ◌≢◌, true, false, List, map, codes, Option, Some, IfSome, IsSome}
use Rattle.std.specs.Cmp.Lexicographic.{slice_cmp}
use Rattle.std.specs.List.{AllByRecursion, AllZip}
use Rattle.std.specs.List.Sorted.{IsStrictlySortedBy}
use Rattle.std.specs.Ordering.{nat_cmp}
use Rattle.pb_manifest_types.specs.Letters.{is_name, is_crate_name, is_feature_name, has_zero}
use Rattle.pb_manifest.specs.Profiles.{is_built_in}
use Rattle.pb_manifest_types.specs.Values.{Text}
use Rattle.pb_manifest_types.specs.declared.dependency.Source.{Source}
use Rattle.pb_manifest_types.specs.declared.dependency.Source.TheVariants as own
use Rattle.pb_manifest_types.specs.declared.dependency.WorkspaceSource.{WorkspaceSource}
use Rattle.pb_manifest_types.specs.declared.dependency.WorkspaceSource.TheVariants as shared
use Rattle.pb_manifest_types.specs.declared.dependency.Dependency.{Dependency}
use Rattle.pb_manifest_types.specs.declared.dependency.WorkspaceDependency.{WorkspaceDependency}
use Rattle.pb_manifest_types.specs.declared.feature.Feature.{Feature}
use Rattle.pb_manifest_types.specs.declared.feature.FeatureItem.{FeatureItem}
use Rattle.pb_manifest_types.specs.declared.feature.FeatureItem.TheVariants as item
use Rattle.pb_manifest_types.specs.declared.manifest.Manifest.{Manifest}
use Rattle.pb_manifest_types.specs.declared.manifest.WorkspaceTable.{WorkspaceTable}
use Rattle.pb_manifest_types.specs.declared.package.Build.{Build}
use Rattle.pb_manifest_types.specs.declared.package.Build.TheVariants as build
use Rattle.pb_manifest_types.specs.declared.package.Package.{Package}
use Rattle.pb_manifest_types.specs.declared.profile.Profile.{Profile}
use Rattle.pb_profile_keys.specs.Keys.{Said}
use Rattle.pb_profile_keys.specs.Table.{keys, meaning_at}
use Rattle.pb_profile_keys.specs.declared.key.ProfileKey.{ProfileKey}
use Rattle.pb_profile_keys.specs.declared.setting.Setting.{Setting}
use Rattle.pb_manifest_types.specs.declared.profile.ProfileOverride.{ProfileOverride}
use Rattle.pb_manifest_types.specs.declared.target.Binary.{Binary}
use Rattle.pb_manifest_types.specs.declared.target.Library.{Library}

-- the name is not empty and has the letters of package names
abbrev pub IsName : Text → Type 0
IsName text = is_name text ≡ true

-- the name has the form of feature names
abbrev pub IsFeatureName : Text → Type 0
IsFeatureName text = is_feature_name text ≡ true

-- the text may be a path: it has no byte 0
abbrev pub IsPath : Text → Type 0
IsPath text = has_zero text ≡ false

-- the keys are in byte order without repeats
abbrev pub Ascend : List Text → Type 0
Ascend keys = IsStrictlySortedBy (slice_cmp nat_cmp) keys

-- the entries are in ascending order of their keys, and each entry is as `Is` requires
pub record AreEntries {A : Type 0} (key : A → Text) (Is : A → Type 0) (entries : List A) : Type 0 where
  pub order : Ascend (map key entries)
  pub each : AllByRecursion Is entries

abbrev pub IsBuild : Build → Type 0
IsBuild (build.At path) = IsPath path
IsBuild _ = Unit {0}

pub record IsPackage (p : Package) : Type 0 where
  pub name : IsName p.name
  pub script : IsBuild p.build

pub record IsLibrary (l : Library) : Type 0 where
  pub name : IfSome l.name (λ name. is_crate_name name ≡ true)
  pub path : IfSome l.path IsPath

pub record IsBinary (b : Binary) : Type 0 where
  pub name : IsName b.name
  pub path : IfSome b.path IsPath

abbrev pub IsSource : Source → Type 0
IsSource (own.Path found) = IsPath found.path
IsSource (own.Workspace default_features) = Unit {0}

abbrev pub IsSharedSource : WorkspaceSource → Type 0
IsSharedSource (shared.Path found) = IsPath found.path
IsSharedSource shared.Unsupported = Unit {0}

pub record IsDependency (d : Dependency) : Type 0 where
  pub key : IsName d.key
  pub source : IsSource d.source

pub record IsSharedDependency (d : WorkspaceDependency) : Type 0 where
  pub key : IsName d.key
  pub source : IsSharedSource d.source

abbrev pub IsItem : FeatureItem → Type 0
IsItem (item.Own feature) = IsFeatureName feature
IsItem (item.Dependency name) = IsName name
IsItem (item.Of name feature) = IsName name × IsFeatureName feature
IsItem (item.OfEnabled name feature) = IsName name × IsFeatureName feature

pub record IsFeature (f : Feature) : Type 0 where
  pub name : IsFeatureName f.name
  pub items : AllByRecursion IsItem f.items

-- the key may have this value: it is the meaning of some written value at this key
abbrev pub MayHave : ProfileKey → Setting → Type 0
MayHave k value = (written : Setting) × (meaning_at k written ≡ Some value)

-- each key has either no value or a value that it may have
abbrev pub AreProfileKeys : Said → Type 0
AreProfileKeys values = AllZip (λ k value. IfSome value (MayHave k)) keys values

abbrev pub IsOverride : ProfileOverride → Type 0
IsOverride o = AreProfileKeys o.keys

-- A custom profile has a name with the letters of package names, and has `inherits`.
pub record IsCustom (p : Profile) : Type 0 where
  pub name : IsName p.name
  pub inherits : IsSome p.inherits

pub record IsProfile (p : Profile) : Type 0 where
  pub custom : is_built_in p.name ≡ false → IsCustom p
  pub not_debug : p.name ≢ codes "debug"
  pub keys : AreProfileKeys p.keys
  pub packages : AreEntries (λ (o : ProfileOverride). o.name) IsOverride p.packages
  pub build_override : IfSome p.build_override AreProfileKeys

pub record IsWorkspaceTable (w : WorkspaceTable) : Type 0 where
  pub members : AllByRecursion IsPath w.members
  pub default_members : IfSome w.default_members (λ paths. AllByRecursion IsPath paths)
  pub exclude : AllByRecursion IsPath w.exclude
  pub dependencies : AreEntries (λ (d : WorkspaceDependency). d.key) IsSharedDependency w.dependencies

-- The names in a manifest have valid letters, its paths have no byte 0, and its profiles are
-- allowed. The entries of each table are in byte order of their keys, without repeats.
pub record IsManifest (m : Manifest) : Type 0 where
  pub found : IfSome m.package IsPackage
  pub library : IfSome m.library IsLibrary
  pub binaries : AllByRecursion IsBinary m.binaries
  pub dependencies : AreEntries (λ (d : Dependency). d.key) IsDependency m.dependencies
  pub build_dependencies : AreEntries (λ (d : Dependency). d.key) IsDependency m.build_dependencies
  pub dev_dependencies : Ascend m.dev_dependencies
  pub features : AreEntries (λ (f : Feature). f.name) IsFeature m.features
  pub profiles : AreEntries (λ (p : Profile). p.name) IsProfile m.profiles
  pub workspace : IfSome m.workspace IsWorkspaceTable
