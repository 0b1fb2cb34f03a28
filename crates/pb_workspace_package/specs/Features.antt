-- The features of a package: those that are written, and those that optional dependencies make (The
-- Cargo Book, Features).
use Rattle.std.specs.Prelude.{ℕ, Bool, false, not, ◌&&◌, if◌then◌else◌, List, [], ◌∷◌, map}
use Rattle.std.specs.List.{list_any}
use Rattle.std.specs.Str.{bytes_eq}
use Rattle.pb_manifest_types.specs.declared.dependency.Dependency.{Dependency}
use Rattle.pb_manifest_types.specs.declared.feature.Feature.{Feature}
use Rattle.pb_manifest_types.specs.declared.feature.FeatureItem.{FeatureItem}
use Rattle.pb_manifest_types.specs.declared.feature.FeatureItem.TheVariants as item
use Rattle.pb_workspace_package.specs.Sorted.{with_entry}

-- the item is `dep:N` for this name N
abbrev pub enables : List ℕ → FeatureItem → Bool
enables name (item.Dependency dependency) = bytes_eq name dependency
enables name _ = false

-- some feature lists the item `dep:N` for this name N
abbrev pub is_enabled_by_name : List ℕ → List Feature → Bool
is_enabled_by_name name features = list_any (λ f. list_any (enables name) f.items) features

-- An optional entry with the key N makes a feature N, unless some feature lists `dep:N`.
abbrev pub makes_feature : List Feature → Dependency → Bool
makes_feature written d = d.optional && not (is_enabled_by_name d.key written)

-- the features after these entries: each entry that makes a feature adds this feature, with the
-- single item `dep:KEY`
abbrev pub with_made : List Feature → List (List ℕ × List FeatureItem) → List Dependency → List (List ℕ × List FeatureItem)
with_made written entries [] = entries
with_made written entries (d ∷ ds) = with_made written (if makes_feature written d then with_entry entries d.key (item.Dependency d.key ∷ []) else entries) ds

-- the features after the written features were added; a written feature replaces the feature of the
-- same name that an entry made
abbrev pub with_written : List (List ℕ × List FeatureItem) → List Feature → List (List ℕ × List FeatureItem)
with_written entries [] = entries
with_written entries (f ∷ fs) = with_written (with_entry entries f.name f.items) fs

abbrev pub feature_of : List ℕ × List FeatureItem → Feature
feature_of entry = record { name = entry.0; items = entry.1 }

-- the features of a package with these entries in `[dependencies]`
-- and `[build-dependencies]`, in byte order of their names
abbrev pub features_of : List Feature → List Dependency → List Dependency → List Feature
features_of written dependencies build = map feature_of (with_written (with_made written (with_made written [] dependencies) build) written)
