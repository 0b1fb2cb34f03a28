-- Why a build is refused. Each refusal has a name, which is in the result line, and a sentence. The
-- fault's `Display` writes the same sentence, and a test compares the two.
use Rattle.std.specs.Prelude.{ℕ, codes, List, ◌++◌}
use Rattle.pb_feature.specs.declared.fault.FeatureFault.{FeatureFault}
use Rattle.pb_feature.specs.declared.fault.FeatureFault.TheVariants as feature
use Rattle.pb_manifest_types.specs.Keys.{spelled}
use Rattle.pb_manifest_types.specs.declared.fault.ManifestFault.{ManifestFault}
use Rattle.pb_manifest_types.specs.declared.fault.ManifestFault.TheVariants as manifest
use Rattle.pb_profile.specs.declared.fault.ProfileFault.{ProfileFault}
use Rattle.pb_profile.specs.declared.fault.ProfileFault.TheVariants as profile
use Rattle.pb_unit.specs.declared.fault.PlanFault.{PlanFault}
use Rattle.pb_unit.specs.declared.fault.PlanFault.TheVariants as plan
use Rattle.pb_workspace_types.specs.declared.fault.LoadFault.{LoadFault}
use Rattle.pb_workspace_types.specs.declared.fault.LoadFault.TheVariants as load
use Rattle.pb_build_result.specs.Failures.{place_sentence}
use Rattle.pb_build_result.specs.declared.fault.Refusal.{Refusal}
use Rattle.pb_build_result.specs.declared.fault.Refusal.TheVariants as refusal

-- the name of a manifest's fault, without its fields
abbrev pub manifest_fault_name : ManifestFault → List ℕ
manifest_fault_name manifest.NotToml = codes "NotToml"
manifest_fault_name (manifest.BadKind key) = codes "BadKind"
manifest_fault_name manifest.BadName = codes "BadName"
manifest_fault_name manifest.BadVersion = codes "BadVersion"
manifest_fault_name manifest.UnsupportedTable = codes "UnsupportedTable"
manifest_fault_name manifest.UnsupportedSource = codes "UnsupportedSource"
manifest_fault_name manifest.UnsupportedCrateType = codes "UnsupportedCrateType"
manifest_fault_name manifest.BadProfile = codes "BadProfile"
manifest_fault_name manifest.BadFeature = codes "BadFeature"
manifest_fault_name manifest.TooLarge = codes "TooLarge"
manifest_fault_name manifest.OldResolver = codes "OldResolver"
manifest_fault_name manifest.OutOfMemory = codes "OutOfMemory"

-- why a manifest is refused
abbrev pub manifest_sentence : ManifestFault → List ℕ
manifest_sentence manifest.NotToml = codes "the manifest is not TOML"
manifest_sentence (manifest.BadKind key) = codes "`" ++ spelled key ++ codes "` has a value that is not allowed"
manifest_sentence manifest.BadName = codes "a name is missing or has letters that are not allowed"
manifest_sentence manifest.BadVersion = codes "a version or a version requirement cannot be read"
manifest_sentence manifest.UnsupportedTable = codes "`target`, `patch` and `replace` are not supported"
manifest_sentence manifest.UnsupportedSource = codes "a dependency has a source other than `path`"
manifest_sentence manifest.UnsupportedCrateType = codes "the library has a crate type that is not supported"
manifest_sentence manifest.BadProfile = codes "a profile has a name or a value that is not allowed, or has no `inherits`"
manifest_sentence manifest.BadFeature = codes "a feature has a name or an item that is not allowed"
manifest_sentence manifest.TooLarge = codes "the manifest is too long"
manifest_sentence manifest.OldResolver = codes "resolver 1 is not supported"
manifest_sentence manifest.OutOfMemory = codes "out of memory"

-- the name of the reason why a workspace cannot be read; for a bad manifest, the name of the
-- manifest's fault
abbrev pub load_fault_name : LoadFault → List ℕ
load_fault_name (load.NoManifest path) = codes "NoManifest"
load_fault_name (load.Manifest path fault) = manifest_fault_name fault
load_fault_name load.SameName = codes "SameName"
load_fault_name load.NameMismatch = codes "NameMismatch"
load_fault_name load.VersionMismatch = codes "VersionMismatch"
load_fault_name load.LinksTwice = codes "LinksTwice"
load_fault_name load.LinksWithoutScript = codes "LinksWithoutScript"
load_fault_name load.NoInherited = codes "NoInherited"
load_fault_name load.TooMany = codes "TooMany"
load_fault_name load.SameBinary = codes "SameBinary"
load_fault_name (load.Place path fault) = codes "Place"
load_fault_name load.NoSuchPackage = codes "NoSuchPackage"
load_fault_name load.OutOfMemory = codes "OutOfMemory"

-- why a workspace cannot be read, or why nothing can be selected in it
abbrev pub load_sentence : LoadFault → List ℕ
load_sentence (load.NoManifest path) = codes "no manifest can be read at `" ++ path ++ codes "`"
load_sentence (load.Manifest path fault) = codes "`" ++ path ++ codes "` is refused: " ++ manifest_sentence fault
load_sentence (load.Place path fault) = codes "a call on `" ++ path ++ codes "` failed: " ++ place_sentence fault
load_sentence load.SameName = codes "two packages have the same name"
load_sentence load.NameMismatch = codes "a dependency leads to a package with another name"
load_sentence load.VersionMismatch = codes "a dependency leads to a package whose version does not match"
load_sentence load.LinksTwice = codes "two packages link the same native library"
load_sentence load.LinksWithoutScript = codes "a package links a native library but has no build script"
load_sentence load.NoInherited = codes "a package inherits a key or an entry that does not exist"
load_sentence load.TooMany = codes "there are more than 256 packages"
load_sentence load.SameBinary = codes "a package has two binaries with the same name"
load_sentence load.NoSuchPackage = codes "a requested package is not a member of the workspace"
load_sentence load.OutOfMemory = codes "out of memory"

abbrev pub feature_fault_name : FeatureFault → List ℕ
feature_fault_name feature.NoSuchFeature = codes "NoSuchFeature"
feature_fault_name feature.NoSuchDependency = codes "NoSuchDependency"
feature_fault_name feature.NotOptional = codes "NotOptional"
feature_fault_name feature.OutOfMemory = codes "OutOfMemory"

-- why no features are resolved
abbrev pub feature_sentence : FeatureFault → List ℕ
feature_sentence feature.NoSuchFeature = codes "a requested feature does not exist"
feature_sentence feature.NoSuchDependency = codes "a feature names a dependency that does not exist"
feature_sentence feature.NotOptional = codes "a feature names a dependency that is not optional"
feature_sentence feature.OutOfMemory = codes "out of memory"

abbrev pub profile_fault_name : ProfileFault → List ℕ
profile_fault_name profile.NoSuchProfile = codes "NoSuchProfile"
profile_fault_name profile.InheritsCycle = codes "InheritsCycle"
profile_fault_name profile.NotInOverride = codes "NotInOverride"
profile_fault_name profile.OutOfMemory = codes "OutOfMemory"

-- why a profile has no settings
abbrev pub profile_sentence : ProfileFault → List ℕ
profile_sentence profile.NoSuchProfile = codes "a requested profile does not exist"
profile_sentence profile.InheritsCycle = codes "profiles inherit from one another"
profile_sentence profile.NotInOverride = codes "an override in a profile sets `panic`, `lto` or `rpath`"
profile_sentence profile.OutOfMemory = codes "out of memory"

-- the name of the reason why there is no plan; for a bad profile, the name of the profile's fault
abbrev pub plan_fault_name : PlanFault → List ℕ
plan_fault_name (plan.Cycle names) = codes "Cycle"
plan_fault_name plan.TooManyUnits = codes "TooManyUnits"
plan_fault_name plan.NothingToBuild = codes "NothingToBuild"
plan_fault_name (plan.Profile fault) = profile_fault_name fault
plan_fault_name plan.OutOfMemory = codes "OutOfMemory"

-- why there is no plan
abbrev pub plan_sentence : PlanFault → List ℕ
plan_sentence (plan.Cycle names) = codes "packages depend on one another"
plan_sentence plan.TooManyUnits = codes "there are more than 4,096 units"
plan_sentence plan.NothingToBuild = codes "there is nothing to build"
plan_sentence (plan.Profile fault) = profile_sentence fault
plan_sentence plan.OutOfMemory = codes "out of memory"

abbrev pub refusal_name : Refusal → List ℕ
refusal_name (refusal.Load fault) = load_fault_name fault
refusal_name (refusal.Feature fault) = feature_fault_name fault
refusal_name (refusal.Plan fault) = plan_fault_name fault

-- why a build is refused
abbrev pub refusal_sentence : Refusal → List ℕ
refusal_sentence (refusal.Load fault) = load_sentence fault
refusal_sentence (refusal.Feature fault) = feature_sentence fault
refusal_sentence (refusal.Plan fault) = plan_sentence fault
