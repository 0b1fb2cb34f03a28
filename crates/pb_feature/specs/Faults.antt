-- Why no features are resolved (The Cargo Book, Features). Whatever an item names must exist.
use Rattle.std.specs.Prelude.{◌≡◌, ℕ, Bool, true, List, [], ◌∷◌, Contains, Option, Some, None, ◌&&◌, if◌then◌else◌, slice_get}
use Rattle.std.specs.List.{list_any}
use Rattle.std.specs.Option.{option_or}
use Rattle.std.specs.Str.{bytes_eq}
use Rattle.std.specs.Ordering.{nat_cmp, is_lt}
use Rattle.std.specs.Cmp.Lexicographic.{slice_cmp}
use Rattle.pb_manifest_types.specs.declared.feature.Feature.{Feature}
use Rattle.pb_manifest_types.specs.declared.feature.FeatureItem.{FeatureItem}
use Rattle.pb_manifest_types.specs.declared.feature.FeatureItem.TheVariants.{Own, Dependency, Of, OfEnabled}
use Rattle.pb_workspace_types.specs.declared.package.Side.{Side}
use Rattle.pb_workspace_types.specs.declared.package.Package.{Package}
use Rattle.pb_workspace_types.specs.declared.package.Entry.{Entry}
use Rattle.pb_workspace_types.specs.declared.options.Selection.{Selection}
use Rattle.pb_workspace_types.specs.declared.workspace.Workspace.{Workspace}
use Rattle.pb_workspace_types.specs.Workspace.{has_feature_named, HasFeature}
use Rattle.pb_feature.specs.declared.fault.FeatureFault.{FeatureFault}
use Rattle.pb_feature.specs.declared.fault.FeatureFault.TheVariants.{NoSuchFeature, NoSuchDependency, NotOptional}
use Rattle.pb_feature.specs.Facts.{Has, Holds, of_package}

-- Some entry of `[dependencies]` or `[build-dependencies]` has this name. `is_optional_entry` says
-- that some optional entry has this name.
abbrev pub is_entry : Package → List ℕ → Bool
is_entry p name = list_any (λ (e : Entry). bytes_eq name e.key) p.entries

abbrev pub is_optional_entry : Package → List ℕ → Bool
is_optional_entry p name = list_any (λ (e : Entry). bytes_eq name e.key && e.optional) p.entries

-- the fault of a name that no entry has: `NoSuchDependency`, or no fault if `[dev-dependencies]`
-- has the name
abbrev pub absent_fault : Package → List ℕ → Option FeatureFault
absent_fault p name = if list_any (bytes_eq name) p.development then None else Some NoSuchDependency

-- the fault of an item that names an entry, if the item has a fault
abbrev pub entry_fault : Package → List ℕ → Option FeatureFault
entry_fault p name = if is_entry p name then None else absent_fault p name

-- the fault of an item that must name an optional entry, if the item has a fault
abbrev pub optional_fault : Package → List ℕ → Option FeatureFault
optional_fault p name = if is_entry p name then (if is_optional_entry p name then None else Some NotOptional) else absent_fault p name

-- the fault of an item, if the item has a fault
abbrev pub item_fault : Package → FeatureItem → Option FeatureFault
item_fault p (Own feature) = if has_feature_named p.features feature then None else Some NoSuchFeature
item_fault p (Dependency name) = optional_fault p name
item_fault p (Of name feature) = entry_fault p name
item_fault p (OfEnabled name feature) = optional_fault p name

-- The first fault of a list of items, in written order. `features_fault` is the first fault of a
-- list of features, in byte order.
abbrev pub items_fault : Package → List FeatureItem → Option FeatureFault
items_fault p [] = None
items_fault p (item ∷ items) = option_or (item_fault p item) (items_fault p items)

abbrev pub features_fault : Package → List Feature → Option FeatureFault
features_fault p [] = None
features_fault p (feature ∷ features) = option_or (items_fault p feature.items) (features_fault p features)

abbrev pub package_fault : Package → Option FeatureFault
package_fault p = features_fault p p.features

-- a package has an item with this fault, and no package with a lesser name has an item with a fault
pub record IsFirstFault (ws : Workspace) (fault : FeatureFault) : Type 0 where
  pub pkg : ℕ
  pub owner : Package
  pub package_at : slice_get ws.packages pkg ≡ Some owner
  pub told : package_fault owner ≡ Some fault
  pub first : (q : ℕ) (other : Package) → slice_get ws.packages q ≡ Some other → is_lt (slice_cmp nat_cmp other.name owner.name) ≡ true → package_fault other ≡ None

-- no item of any package has a fault
abbrev pub ItemsAreRight : Workspace → Type 0
ItemsAreRight ws = (index : ℕ) (owner : Package) → slice_get ws.packages index ≡ Some owner → package_fault owner ≡ None

-- some selected package has the requested feature
pub data HasRequested (ws : Workspace) (selection : Selection) (text : List ℕ) : Type 0 where
  by_name : (p : ℕ) (selected : Contains selection.packages p) (there : HasFeature ws p text) → HasRequested ws selection text
  by_package : (p : ℕ) (feature : List ℕ) (selected : Contains selection.packages p) (there : HasFeature ws p feature) (is : text ≡ of_package there.owner.name feature) → HasRequested ws selection text

-- the feature is on for a package that does not have this feature
pub record LacksFeature (ws : Workspace) (selection : Selection) : Type 0 where
  pub pkg : ℕ
  pub side : Side
  pub feature : List ℕ
  pub holds : Holds ws selection (Has pkg side feature)
  pub missing : HasFeature ws pkg feature → ⊥

-- Why no features are resolved. The first reason is an item with a fault. The second is a requested
-- feature that no selected package has. The third is a feature that is on for a package without
-- this feature.
pub data Refuses (ws : Workspace) (selection : Selection) : FeatureFault → Type 0 where
  by_item : (fault : FeatureFault) (first : IsFirstFault ws fault) → Refuses ws selection fault
  by_asked : (right : ItemsAreRight ws) (text : List ℕ) (asked : Contains selection.features text) (none : HasRequested ws selection text → ⊥) → Refuses ws selection NoSuchFeature
  by_missing : (right : ItemsAreRight ws) (answered : (text : List ℕ) → Contains selection.features text → HasRequested ws selection text) (missing : LacksFeature ws selection) → Refuses ws selection NoSuchFeature
