-- Which items of a package's features have a fault, and which fault (The Cargo Book, Features).
use Rattle.std.specs.Prelude.{◌≡◌, ℕ, Bool, true, false, ◌&&◌, ◌||◌, not, if◌then◌else◌, List, Option, Some, None, slice_get}
use Rattle.std.specs.List.{filter_map, flat_map, list_any}
use Rattle.std.specs.Str.{bytes_eq}
use Rattle.pb_feature.specs.Faults.{package_fault}
use Rattle.pb_feature.specs.declared.fault.FeatureFault.{FeatureFault}
use Rattle.pb_feature.specs.declared.fault.FeatureFault.TheVariants.{NoSuchFeature, NoSuchDependency, NotOptional}
use Rattle.pb_manifest_types.specs.declared.feature.Feature.{Feature}
use Rattle.pb_manifest_types.specs.declared.feature.FeatureItem.{FeatureItem}
use Rattle.pb_manifest_types.specs.declared.feature.FeatureItem.TheVariants.{Own, Dependency, Of, OfEnabled}
use Rattle.pb_workspace_types.specs.Workspace.{has_feature_named}
use Rattle.pb_workspace_types.specs.declared.package.Entry.{Entry}
use Rattle.pb_workspace_types.specs.declared.package.Package.{Package}

-- Some entry must have the name; if `optional` is true, an optional entry must have it. If only
-- entries that are not optional have the name, the fault is `NotOptional`. If neither an entry nor
-- a key of `[dev-dependencies]` has the name, the fault is `NoSuchDependency`.
abbrev pub name_fault : Package → Bool → List ℕ → Option FeatureFault
name_fault p optional name =
    if list_any (λ (e : Entry). bytes_eq name e.key && (e.optional || not optional)) p.entries then None
    else (if list_any (λ (e : Entry). bytes_eq name e.key) p.entries then Some NotOptional else (if list_any (bytes_eq name) p.development then None else Some NoSuchDependency))

-- the fault of an item, if the item has a fault
abbrev pub fault_of : Package → FeatureItem → Option FeatureFault
fault_of p (Own feature) = if has_feature_named p.features feature then None else Some NoSuchFeature
fault_of p (Of name feature) = name_fault p false name
fault_of p (Dependency name) = name_fault p true name
fault_of p (OfEnabled name feature) = name_fault p true name

-- The fault of a package is the first fault of its items. The items come feature by feature in byte
-- order, and in written order within a feature.
abbrev pub PackagesAreAtFault : Type 0
PackagesAreAtFault = (p : Package) → package_fault p ≡ slice_get (filter_map (fault_of p) (flat_map (λ (feature : Feature). feature.items) p.features)) 0
