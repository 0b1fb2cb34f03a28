-- Which names N occur in items `dep:N` of features. Only private functions need these definitions.
use Rattle.std.specs.Prelude.{◌≡◌, ℕ, not, ◌&&◌, if◌then◌else◌, List, [], ◌∷◌}
use Rattle.std.specs.List.{flat_map}
use Rattle.pb_data.specs.OrderedSet.{is_mentioned}
use Rattle.pb_manifest_types.specs.declared.dependency.Dependency.{Dependency}
use Rattle.pb_manifest_types.specs.declared.feature.Feature.{Feature}
use Rattle.pb_manifest_types.specs.declared.feature.FeatureItem.{FeatureItem}
use Rattle.pb_manifest_types.specs.declared.feature.FeatureItem.TheVariants as item
use Rattle.pb_workspace_package.specs.Features.{is_enabled_by_name}
use Rattle.pb_workspace_package.specs.Sorted.{with_entry}

-- the name N if the item is `dep:N`, and no name otherwise
abbrev pub named_by : FeatureItem → List (List ℕ)
named_by (item.Dependency dependency) = dependency ∷ []
named_by _ = []

abbrev pub named_in : Feature → List (List ℕ)
named_in f = flat_map named_by f.items

-- the names are exactly those names N for which some feature lists `dep:N`
abbrev pub AreEnabledNames : List (List ℕ) → List Feature → Type 0
AreEnabledNames names features = (name : List ℕ) → is_mentioned names name ≡ is_enabled_by_name name features

-- the features after one more entry of a dependency table: if the entry makes a feature, this
-- feature is added
abbrev pub with_one : List (List ℕ) → List (List ℕ × List FeatureItem) → Dependency → List (List ℕ × List FeatureItem)
with_one names entries d = if d.optional && not (is_mentioned names d.key) then with_entry entries d.key (item.Dependency d.key ∷ []) else entries
