-- Laws about the reader of manifests, in the terms of the rules.
use Rattle.std.specs.Prelude.{◌≡◌, ◌≢◌, ◌<◌, ℕ, true, List, [], ◌∷◌, ◌++◌, if◌then◌else◌, length, codes, Some, None, Ok, Err}
use Rattle.toml.specs.Data.{Data, Items, no_items, item, Members, no_members, member, same_key, members_are_sorted}
use Rattle.pb_data.specs.Limits.{max_manifest_bytes}
use Rattle.pb_manifest_types.specs.Keys.{spelled}
use Rattle.pb_manifest_types.specs.Values.{Text, Read}
use Rattle.pb_manifest.specs.Values.{value_at, table_at, keys_of, each}
use Rattle.pb_manifest.specs.Binaries.{binary_of}
use Rattle.pb_manifest.specs.Document.{document_in, manifest_of}
use Rattle.pb_manifest.specs.Features.{item_in}
use Rattle.pb_manifest_types.specs.Letters.{is_name}
use Rattle.pb_manifest.specs.Package.{package_of}
use Rattle.pb_manifest.specs.Promises.{Ascend, IsItem, IsManifest}
use Rattle.pb_manifest_types.specs.declared.key.Key.{Key}
use Rattle.pb_manifest_types.specs.declared.key.Key.TheVariants as key
use Rattle.pb_manifest_types.specs.declared.fault.ManifestFault.TheVariants.{TooLarge}
use Rattle.pb_manifest_types.specs.declared.feature.FeatureItem.{FeatureItem}
use Rattle.pb_manifest_types.specs.declared.feature.FeatureItem.TheVariants as feature_item
use Rattle.pb_manifest_types.specs.declared.inherited.Inherited.TheVariants.{Written}
use Rattle.pb_manifest_types.specs.declared.manifest.Manifest.{Manifest}
use Rattle.pb_manifest_types.specs.declared.package.Edition.TheVariants.{E2015}
use Rattle.pb_manifest_types.specs.declared.package.Package.{Package}
use Rattle.pb_manifest_types.specs.declared.target.Binary.{Binary}

-- no rule names the key with this name
abbrev pub IsUnnamed : Text → Type 0
IsUnnamed name = (k : Key) → spelled k ≢ name

-- the table without its entries at one key
unfoldable pub without : Text → Members → Members
without name no_members = no_members
without name (member l d ms) = if same_key name l then without name ms else member l d (without name ms)

-- the result of reading a table never depends on a key that no rule names
abbrev pub PassesOver : {A : Type 0} → (Members → Read A) → Type 0
PassesOver read = (name : Text) (ms : Members) → IsUnnamed name → read (without name ms) ≡ read ms

-- in each table of a document that was read, the keys are in ascending order
abbrev pub OrdersTables : Type 0
OrdersTables = (bytes : List ℕ) (ms : Members) → document_in bytes ≡ Ok ms → members_are_sorted ms ≡ true

-- if the keys of all tables inside a table are in ascending order, the same is true inside the
-- table at one of its keys
abbrev pub OrdersInnerTables : Type 0
OrdersInnerTables = (k : Key) (ms inner : Members) → members_are_sorted ms ≡ true → table_at k ms ≡ Ok (Some inner) → members_are_sorted inner ≡ true

-- in a table with ascending keys, each key is less than all keys after it
abbrev pub OrdersKeys : Type 0
OrdersKeys = (ms : Members) → members_are_sorted ms ≡ true → Ascend (keys_of ms)

-- a manifest over the size limit is refused, whatever it contains
abbrev pub RefusesLarge : Type 0
RefusesLarge = (bytes : List ℕ) → max_manifest_bytes < length bytes → manifest_of bytes ≡ Err TooLarge

-- `IsManifest` is true of each manifest that was read
abbrev pub KeepsPromises : Type 0
KeepsPromises = (bytes : List ℕ) (m : Manifest) → manifest_of bytes ≡ Ok m → IsManifest m

-- the spelling of a feature's item, which has one of four forms
abbrev pub item_text : FeatureItem → Text
item_text (feature_item.Own feature) = feature
item_text (feature_item.Dependency name) = codes "dep:" ++ name
item_text (feature_item.Of name feature) = name ++ (codes "/" ++ feature)
item_text (feature_item.OfEnabled name feature) = name ++ (codes "?/" ++ feature)

-- the text spells the item, and the names in the item have valid letters
pub record IsSpelled (text : Text) (i : FeatureItem) : Type 0 where
  pub spelling : text ≡ item_text i
  pub letters : IsItem i

-- if a text is read as an item, the text is the spelling of this item
abbrev pub SpellsItems : Type 0
SpellsItems = (text : Text) (i : FeatureItem) → item_in text ≡ Ok i → IsSpelled text i

-- the spelling of an item with valid names is read as this item
abbrev pub ReadsSpellings : Type 0
ReadsSpellings = (i : FeatureItem) → IsItem i → item_in (item_text i) ≡ Ok i

-- each package that was read has a name that is valid and not empty
abbrev pub NamesPackages : Type 0
NamesPackages = (bytes : List ℕ) (m : Manifest) (p : Package) → manifest_of bytes ≡ Ok m → m.package ≡ Some p → is_name p.name ≡ true

-- A package without a written edition has the edition 2015. By `DefaultVersion`, a package without
-- a written version has the version 0.0.0.
abbrev pub DefaultEdition : Type 0
DefaultEdition = (ms : Members) (p : Package) → value_at key.Edition ms ≡ None → package_of ms ≡ Ok p → p.edition ≡ Written E2015

abbrev pub DefaultVersion : Type 0
DefaultVersion = (ms : Members) (p : Package) → value_at key.Version ms ≡ None → package_of ms ≡ Ok p → p.version ≡ Written (codes "0.0.0")

-- the items of a list are read one by one, and their values are in the order of the list
abbrev pub AreReadInOrder : {A : Type 0} → (Data → Read A) → Items → List A → Type 0
AreReadInOrder read no_items [] = Unit {0}
AreReadInOrder read no_items (x ∷ xs) = ⊥
AreReadInOrder read (item d ds) [] = ⊥
AreReadInOrder read (item d ds) (x ∷ xs) = (read d ≡ Ok x) × AreReadInOrder read ds xs

-- the binaries that are read have the order of the tables `[[bin]]`
abbrev pub KeepsOrder : Type 0
KeepsOrder = (ds : Items) (binaries : List Binary) → each binary_of ds ≡ Ok binaries → AreReadInOrder binary_of ds binaries
