-- Which package has which entry, feature or item. Packages and entries are identified by their
-- indices.
use Rattle.std.specs.Prelude.{◌≡◌, ℕ, Bool, true, List, Some, Contains, slice_get}
use Rattle.std.specs.List.{list_any}
use Rattle.std.specs.Str.{bytes_eq}
use Rattle.pb_workspace_types.specs.declared.package.Side.{Side}
use Rattle.pb_workspace_types.specs.declared.package.Side.TheVariants.{Host}
use Rattle.pb_workspace_types.specs.declared.package.DependencyKind.{DependencyKind}
use Rattle.pb_workspace_types.specs.declared.package.DependencyKind.TheVariants.{Normal, Build}
use Rattle.pb_workspace_types.specs.declared.package.Package.{Package}
use Rattle.pb_workspace_types.specs.declared.package.Entry.{Entry}
use Rattle.pb_workspace_types.specs.declared.workspace.Workspace.{Workspace}
use Rattle.pb_manifest_types.specs.declared.feature.Feature.{Feature}
use Rattle.pb_manifest_types.specs.declared.feature.FeatureItem.{FeatureItem}

-- The side of the package to which an entry leads, given the side of the package that has the
-- entry. Build dependencies are on the host's side.
abbrev pub side_of : DependencyKind → Side → Side
side_of Normal side = side
side_of Build side = Host

-- the package with the index `p` has this entry at the index `n`
pub record HasEntry (ws : Workspace) (p n : ℕ) (entry : Entry) : Type 0 where
  pub owner : Package
  pub package_at : slice_get ws.packages p ≡ Some owner
  pub entry_at : slice_get owner.entries n ≡ Some entry

-- the package with the index `p` has a feature with this name, and the feature lists this item
pub record ListsItem (ws : Workspace) (p : ℕ) (name : List ℕ) (item : FeatureItem) : Type 0 where
  pub owner : Package
  pub feature : Feature
  pub package_at : slice_get ws.packages p ≡ Some owner
  pub is_there : Contains owner.features feature
  pub named : feature.name ≡ name
  pub listed : Contains feature.items item

-- one of these features has this name
abbrev pub has_feature_named : List Feature → List ℕ → Bool
has_feature_named features name = list_any (λ f. bytes_eq name f.name) features

-- the package with the index `p` has a feature with this name
pub record HasFeature (ws : Workspace) (p : ℕ) (name : List ℕ) : Type 0 where
  pub owner : Package
  pub package_at : slice_get ws.packages p ≡ Some owner
  pub is_there : has_feature_named owner.features name ≡ true
