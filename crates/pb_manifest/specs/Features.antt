-- How the table `[features]` is read (The Cargo Book, Features).
use Rattle.std.specs.Prelude.{List, ◌&&◌, ◌==◌, if◌then◌else◌, Option, Some, None, Ok, Err, codes, length}
use Rattle.std.specs.Str.{bytes_eq}
use Rattle.toml.specs.Data.{Data, Members}
use Rattle.pb_data.specs.Ascii.{slash, colon, question_mark}
use Rattle.pb_data.specs.UnlessOom.{◌>>=◌}
use Rattle.pb_manifest_types.specs.Features.{parted}
use Rattle.pb_manifest_types.specs.Letters.{is_name, is_feature_name}
use Rattle.pb_manifest_types.specs.Values.{Text, Read}
use Rattle.pb_manifest.specs.Values.{text_of, array_of, each, entries_at}
use Rattle.pb_manifest_types.specs.declared.key.Key.TheVariants as key
use Rattle.pb_manifest_types.specs.declared.fault.ManifestFault.TheVariants.{BadFeature}
use Rattle.pb_manifest_types.specs.declared.feature.FeatureItem.{FeatureItem}
use Rattle.pb_manifest_types.specs.declared.feature.FeatureItem.TheVariants as item
use Rattle.pb_manifest_types.specs.declared.feature.Feature.{Feature}

-- an item of the form `F`, which names a feature of the same package
abbrev pub own_item : Text → Read FeatureItem
own_item text = if is_feature_name text then Ok (item.Own text) else Err BadFeature

-- an item of the form `dep:N`, which names a dependency
abbrev pub dependency_item : Text → Text → Read FeatureItem
dependency_item word name = if bytes_eq word (codes "dep") && is_name name then Ok (item.Dependency name) else Err BadFeature

abbrev pub whole_item : Text → Option (Text × Text) → Read FeatureItem
whole_item text None = own_item text
whole_item text (Some parts) = dependency_item parts.0 parts.1

-- an item of the form `N/F`, which names a feature of a dependency
abbrev pub item_of : Text → Text → Read FeatureItem
item_of name feature = if is_name name && is_feature_name feature then Ok (item.Of name feature) else Err BadFeature

-- An item of the form `N?/F`. The text between `?` and `/` must be empty.
abbrev pub item_of_enabled : Text → Text → Text → Read FeatureItem
item_of_enabled name between feature =
    if length between == 0 && is_name name && is_feature_name feature then Ok (item.OfEnabled name feature) else Err BadFeature

abbrev pub parted_item : Text → Option (Text × Text) → Text → Read FeatureItem
parted_item name None feature = item_of name feature
parted_item name (Some parts) feature = item_of_enabled parts.0 parts.1 feature

abbrev pub item_from : Text → Option (Text × Text) → Read FeatureItem
item_from text None = whole_item text (parted colon text)
item_from text (Some parts) = parted_item parts.0 (parted question_mark parts.0) parts.1

-- An item of a feature. The text is split at `/`, and the part before `/` at `?`. A text without
-- `/` is split at `:`.
abbrev pub item_in : Text → Read FeatureItem
item_in text = item_from text (parted slash text)

abbrev pub feature_item_of : Data → Read FeatureItem
feature_item_of d = text_of key.Features d >>= item_in

-- the items that a feature lists, in the manifest's order
abbrev pub feature_items_of : Data → Read (List FeatureItem)
feature_items_of d = array_of key.Features d >>= each feature_item_of

-- a feature: its name is checked first, and then its list is read
unfoldable pub feature_of : Text → Data → Read Feature
feature_of name d = if is_feature_name name then (feature_items_of d >>= (λ items. Ok record { name = name; items = items })) else Err BadFeature

-- the features of a manifest, read in byte order of their names
abbrev pub features_at : Members → Read (List Feature)
features_at ms = entries_at feature_of key.Features ms
