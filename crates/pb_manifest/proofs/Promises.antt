-- What each table promises.
use Rattle.std.proofs.Common.{◌≡◌, List, [], Bool, true, false, ◌&&◌, ◌==◌, length, refl, Option, Some, None, Ok, Err, IfSome, if◌then◌else◌, codes}
use Rattle.std.proofs.lemmas.Bool.{and_parts}
use Rattle.std.specs.List.{AllByRecursion}
use Rattle.std.specs.Str.{bytes_eq}
use Rattle.toml.specs.Data.{Data, Members, as_str, as_bool, as_table}
use Rattle.pb_manifest.specs.Binaries as binaries
use Rattle.pb_manifest.specs.Dependencies as dependencies
use Rattle.pb_manifest.specs.Document.{package_in, library_in}
use Rattle.pb_manifest.specs.Features as features
use Rattle.pb_manifest_types.specs.Features.{parted}
use Rattle.pb_manifest_types.specs.Letters.{is_name, is_crate_name, is_feature_name}
use Rattle.pb_manifest.specs.Library as library
use Rattle.pb_manifest.specs.Package.{name_in, name_at, build_from, build_in, build_at, first_keys, middle_keys, last_keys, package_of, inherited_edition_at}
use Rattle.pb_manifest.specs.Promises.{IsName, IsPath, IsBuild, IsPackage, IsLibrary, IsBinary, IsSource, IsSharedSource, IsDependency, IsSharedDependency, IsItem, IsFeature}
use Rattle.pb_manifest_types.specs.Values.{Text}
use Rattle.pb_manifest.specs.Values.{text_at, truth_at, path_at, listed_texts_at, inheritable_text_at, inheritable_texts_at, array_of, table_of, text_of, value_at, zero_free, takes_workspace, has}
use Rattle.pb_manifest_types.specs.Versions.{requirement_in}
use Rattle.pb_manifest_types.specs.declared.dependency.Dependency.{Dependency}
use Rattle.pb_manifest_types.specs.declared.dependency.WorkspaceDependency.{WorkspaceDependency}
use Rattle.pb_manifest.specs.declared.entry.LastKeys.{LastKeys}
use Rattle.pb_manifest_types.specs.declared.fault.ManifestFault.TheVariants.{BadKind, BadName, BadFeature, UnsupportedSource}
use Rattle.pb_manifest_types.specs.declared.feature.Feature.{Feature}
use Rattle.pb_manifest_types.specs.declared.key.Key.{Key}
use Rattle.pb_manifest_types.specs.declared.key.Key.TheVariants as key
use Rattle.pb_manifest_types.specs.declared.package.Build.TheVariants as build
use Rattle.pb_manifest.specs.declared.package.FirstKeys.{FirstKeys}
use Rattle.pb_manifest.specs.declared.package.MiddleKeys.{MiddleKeys}
use Rattle.pb_manifest_types.specs.declared.package.Package.{Package}
use Rattle.pb_manifest_types.specs.declared.target.Binary.{Binary}
use Rattle.pb_manifest_types.specs.declared.target.Library.{Library}
use Rattle.pb_manifest.proofs.Yields.{Yields, yields_ok, yields_err, yields_then, yields_either, yields_each, Read1, yields_zero_free, yields_path_at}

-- names
name_in_is : (found : Option Text) → Yields IsName (name_in found)
name_in_is None = yields_err IsName BadName
name_in_is (Some text) = yields_either IsName (is_name text) (Ok text) (Err BadName) (λ is. yields_ok IsName text is) (λ is. yields_err IsName BadName)

name_is : (ms : Members) → Yields IsName (name_at ms)
name_is ms = yields_then IsName (text_at key.Name ms) name_in (λ found was. name_in_is found)

-- `[package]`
build_from_is : (text : Option Text) (truth : Option Bool) → Yields IsBuild (build_from text truth)
build_from_is (Some text) truth = yields_then IsBuild (zero_free key.Build text) _ (λ path was. yields_ok IsBuild (build.At path) (yields_zero_free key.Build text path was))
build_from_is None (Some true) = yields_ok IsBuild build.Standard tt
build_from_is None (Some false) = yields_ok IsBuild build.Never tt
build_from_is None None = yields_err IsBuild (BadKind key.Build)

build_in_is : (found : Option Data) → Yields IsBuild (build_in found)
build_in_is None = yields_ok IsBuild build.Discovered tt
build_in_is (Some d) = build_from_is (as_str d) (as_bool d)

abbrev HasBuild : FirstKeys → Type 0
HasBuild a = IsBuild a.build

first_is : (ms : Members) → Yields HasBuild (first_keys ms)
first_is ms =
    yields_then HasBuild (inheritable_texts_at key.Authors ms) _ (λ authors was1.
    yields_then HasBuild (truth_at key.Autobins ms) _ (λ autobins was2.
    yields_then HasBuild (build_at ms) _ (λ script was3.
    yields_then HasBuild (inheritable_text_at key.Description ms) _ (λ description was4.
    yields_then HasBuild (inherited_edition_at ms) _ (λ edition was5.
    yields_ok HasBuild _ (build_in_is (value_at key.Build ms) script was3))))))

abbrev HasName : MiddleKeys → Type 0
HasName b = IsName b.name

middle_is : (ms : Members) → Yields HasName (middle_keys ms)
middle_is ms =
    yields_then HasName (inheritable_text_at key.Homepage ms) _ (λ homepage was1.
    yields_then HasName (inheritable_text_at key.License ms) _ (λ license was2.
    yields_then HasName (inheritable_text_at key.LicenseFile ms) _ (λ license_file was3.
    yields_then HasName (text_at key.Links ms) _ (λ links was4.
    yields_then HasName (name_at ms) _ (λ name was5.
    yields_ok HasName _ (name_is ms name was5))))))

package_is : (ms : Members) → Yields IsPackage (package_of ms)
package_is ms =
    yields_then IsPackage (first_keys ms) _ (λ first was1.
    yields_then IsPackage (middle_keys ms) _ (λ middle was2.
    yields_then IsPackage (last_keys ms) _ (λ last was3.
    yields_ok IsPackage _ (record { name = middle_is ms middle was2; script = first_is ms first was1 }))))

abbrev IfPackage : Option Package → Type 0
IfPackage o = IfSome o IsPackage

pub package_in_is : (with_workspace : Bool) (found : Option Members) → Yields IfPackage (package_in with_workspace found)
package_in_is with_workspace None = yields_either IfPackage with_workspace (Ok None) _ (λ is. yields_ok IfPackage None tt) (λ is. yields_err IfPackage (BadKind key.Package))
package_in_is with_workspace (Some ms) = yields_then IfPackage (package_of ms) _ (λ p was. yields_ok IfPackage (Some p) (package_is ms p was))

-- `[lib]` and `[[bin]]`
abbrev IfCrate : Option Text → Type 0
IfCrate o = IfSome o (λ name. is_crate_name name ≡ true)

crate_name_in_is : (found : Option Text) → Yields IfCrate (library.crate_name_in found)
crate_name_in_is None = yields_ok IfCrate None tt
crate_name_in_is (Some text) = yields_either IfCrate (is_crate_name text) (Ok (Some text)) (Err BadName) (λ is. yields_ok IfCrate (Some text) is) (λ is. yields_err IfCrate BadName)

library_is : (ms : Members) → Yields IsLibrary (library.library_of ms)
library_is ms =
    yields_then IsLibrary (library.crate_types_at ms) _ (λ crate_types was1.
    yields_then IsLibrary (library.crate_name_at ms) _ (λ name was2.
    yields_then IsLibrary (path_at key.Path ms) _ (λ path was3.
    yields_then IsLibrary (library.proc_macro_at ms) _ (λ proc_macro was4.
    yields_ok IsLibrary _ (record {
      name = yields_then IfCrate (text_at key.Name ms) library.crate_name_in (λ found was. crate_name_in_is found) name was2;
      path = yields_path_at key.Path ms path was3;
    })))))

abbrev IfLibrary : Option Library → Type 0
IfLibrary o = IfSome o IsLibrary

pub library_in_is : (found : Option Members) → Yields IfLibrary (library_in found)
library_in_is None = yields_ok IfLibrary None tt
library_in_is (Some ms) = yields_then IfLibrary (library.library_of ms) _ (λ l was. yields_ok IfLibrary (Some l) (library_is ms l was))

binary_keys_are : (ms : Members) → Yields IsBinary (binaries.binary_keys ms)
binary_keys_are ms =
    yields_then IsBinary (name_at ms) _ (λ name was1.
    yields_then IsBinary (path_at key.Path ms) _ (λ path was2.
    yields_then IsBinary (listed_texts_at key.RequiredFeatures ms) _ (λ required was3.
    yields_ok IsBinary _ (record { name = name_is ms name was1; path = yields_path_at key.Path ms path was2 }))))

binary_is : (d : Data) → Yields IsBinary (binaries.binary_of d)
binary_is d = yields_then IsBinary (table_of key.Bin d) binaries.binary_keys (λ ms was. binary_keys_are ms)

abbrev pub AreBinaries : List Binary → Type 0
AreBinaries = AllByRecursion IsBinary

pub binaries_in_are : (found : Option Data) → Yields AreBinaries (binaries.binaries_in found)
binaries_in_are None = yields_ok AreBinaries [] tt
binaries_in_are (Some d) = yields_then AreBinaries (array_of key.Bin d) _ (λ ds was. yields_each IsBinary binaries.binary_of binary_is ds)

-- dependencies
abbrev IfPath : Option Text → Type 0
IfPath o = IfSome o IsPath

own_path_is : (taken : Bool) (written : Option Text) → IfPath written → Yields IfPath (dependencies.own_path taken written)
own_path_is true written h = yields_ok IfPath None tt
own_path_is false None h = yields_err IfPath UnsupportedSource
own_path_is false (Some path) h = yields_ok IfPath (Some path) h

abbrev HasPath : LastKeys → Type 0
HasPath b = IfPath b.path

own_last_is : (ms : Members) → Yields HasPath (dependencies.last_keys ms)
own_last_is ms =
    yields_then HasPath (path_at key.Path ms) _ (λ written was1.
    yields_then HasPath (dependencies.own_path (takes_workspace ms) written) _ (λ path was2.
    yields_then HasPath (dependencies.refused_where (has key.Registry ms)) _ (λ registry was3.
    yields_then HasPath (dependencies.version_and_workspace ms) _ (λ version was4.
    yields_ok HasPath _ (own_path_is (takes_workspace ms) written (yields_path_at key.Path ms written was1) path was2)))))

supported_is : (unsupported : Bool) (path : Option Text) → IfPath path → IfPath (if unsupported then None else path)
supported_is true path h = tt
supported_is false path h = h

shared_last_is : (ms : Members) → Yields HasPath (dependencies.shared_keys ms)
shared_last_is ms =
    yields_then HasPath (path_at key.Path ms) _ (λ path was1.
    yields_then HasPath (dependencies.version_and_workspace ms) _ (λ version was2.
    yields_ok HasPath _ (supported_is _ path (yields_path_at key.Path ms path was1))))

source_is : (default_features : Option Bool) (renamed version path : Option Text) → IfPath path → IsSource (dependencies.source_of default_features renamed version path)
source_is default_features renamed version None h = tt
source_is default_features renamed version (Some path) h = h

shared_source_is : (default_features : Option Bool) (renamed version path : Option Text) → IfPath path → IsSharedSource (dependencies.shared_source_of default_features renamed version path)
shared_source_is default_features renamed version None h = tt
shared_source_is default_features renamed version (Some path) h = h

abbrev pub dependency_key : Dependency → Text
dependency_key d = d.key

abbrev Own : Text → Dependency → Type 0
Own = Read1 dependency_key IsDependency

dependency_keys_are : (name : Text) → IsName name → (ms : Members) → Yields (Own name) (dependencies.dependency_keys name ms)
dependency_keys_are name is ms =
    yields_then (Own name) (dependencies.first_keys false ms) _ (λ a was1.
    yields_then (Own name) (dependencies.last_keys ms) _ (λ b was2.
    yields_ok (Own name) _ (record { key_is = refl; is = record { key = is; source = source_is a.default_features a.package b.version b.path (own_last_is ms b was2) } })))

dependency_from_is : (k : Key) (name : Text) → IsName name → (text : Option Text) (found : Option Members) → Yields (Own name) (dependencies.dependency_from k name text found)
dependency_from_is k name is (Some version) found = yields_err (Own name) UnsupportedSource
dependency_from_is k name is None (Some ms) = dependency_keys_are name is ms
dependency_from_is k name is None None = yields_err (Own name) (BadKind k)

pub dependency_is : (k : Key) (name : Text) (d : Data) → Yields (Own name) (dependencies.dependency_of k name d)
unfolding dependencies.dependency_of
dependency_is k name d =
    yields_either (Own name) (is_name name) _ (Err BadName) (λ is. dependency_from_is k name is (as_str d) (as_table d)) (λ is. yields_err (Own name) BadName)

abbrev pub shared_key : WorkspaceDependency → Text
shared_key d = d.key

abbrev Shared : Text → WorkspaceDependency → Type 0
Shared = Read1 shared_key IsSharedDependency

shared_keys_are : (name : Text) → IsName name → (ms : Members) → Yields (Shared name) (dependencies.shared_dependency_keys name ms)
shared_keys_are name is ms =
    yields_then (Shared name) (dependencies.first_keys true ms) _ (λ a was1.
    yields_then (Shared name) (dependencies.shared_keys ms) _ (λ b was2.
    yields_ok (Shared name) _ (record { key_is = refl; is = record { key = is; source = shared_source_is a.default_features a.package b.version b.path (shared_last_is ms b was2) } })))

shared_from_is : (name : Text) → IsName name → (text : Option Text) (found : Option Members) → Yields (Shared name) (dependencies.shared_dependency_from name text found)
shared_from_is name is (Some version) found =
    yields_then (Shared name) (requirement_in version) _ (λ requirement was. yields_ok (Shared name) _ (record { key_is = refl; is = record { key = is; source = tt } }))
shared_from_is name is None (Some ms) = shared_keys_are name is ms
shared_from_is name is None None = yields_err (Shared name) (BadKind key.Dependencies)

pub shared_is : (name : Text) (d : Data) → Yields (Shared name) (dependencies.shared_dependency_of name d)
unfolding dependencies.shared_dependency_of
shared_is name d =
    yields_either (Shared name) (is_name name) _ (Err BadName) (λ is. shared_from_is name is (as_str d) (as_table d)) (λ is. yields_err (Shared name) BadName)

-- features
own_item_is : (text : Text) → Yields IsItem (features.own_item text)
own_item_is text = yields_either IsItem (is_feature_name text) _ _ (λ is. yields_ok IsItem _ is) (λ is. yields_err IsItem BadFeature)

dependency_item_is : (word name : Text) → Yields IsItem (features.dependency_item word name)
dependency_item_is word name =
    yields_either IsItem (bytes_eq word (codes "dep") && is_name name) _ _ (λ is. yields_ok IsItem _ (and_parts (bytes_eq word (codes "dep")) (is_name name) is).1) (λ is. yields_err IsItem BadFeature)

item_of_is : (name feature : Text) → Yields IsItem (features.item_of name feature)
item_of_is name feature =
    yields_either IsItem (is_name name && is_feature_name feature) _ _ (λ is. yields_ok IsItem _ (and_parts (is_name name) (is_feature_name feature) is)) (λ is. yields_err IsItem BadFeature)

item_of_enabled_is : (name between feature : Text) → Yields IsItem (features.item_of_enabled name between feature)
item_of_enabled_is name between feature =
    yields_either IsItem (length between == 0 && is_name name && is_feature_name feature) _ _
    (λ is. let (front, letters) = and_parts (length between == 0 && is_name name) (is_feature_name feature) is in yields_ok IsItem _ ((and_parts (length between == 0) (is_name name) front).1, letters))
    (λ is. yields_err IsItem BadFeature)

whole_item_is : (text : Text) (found : Option (Text × Text)) → Yields IsItem (features.whole_item text found)
whole_item_is text None = own_item_is text
whole_item_is text (Some parts) = dependency_item_is parts.0 parts.1

parted_item_is : (name : Text) (found : Option (Text × Text)) (feature : Text) → Yields IsItem (features.parted_item name found feature)
parted_item_is name None feature = item_of_is name feature
parted_item_is name (Some parts) feature = item_of_enabled_is parts.0 parts.1 feature

item_from_is : (text : Text) (found : Option (Text × Text)) → Yields IsItem (features.item_from text found)
item_from_is text None = whole_item_is text (parted 58 text)
item_from_is text (Some parts) = parted_item_is parts.0 (parted 63 parts.0) parts.1

item_is : (d : Data) → Yields IsItem (features.feature_item_of d)
item_is d = yields_then IsItem (text_of key.Features d) features.item_in (λ text was. item_from_is text (parted 47 text))

items_are : (d : Data) → Yields (AllByRecursion IsItem) (features.feature_items_of d)
items_are d = yields_then (AllByRecursion IsItem) (array_of key.Features d) _ (λ ds was. yields_each IsItem features.feature_item_of item_is ds)

abbrev pub feature_key : Feature → Text
feature_key f = f.name

abbrev ReadFeature : Text → Feature → Type 0
ReadFeature = Read1 feature_key IsFeature

pub feature_is : (name : Text) (d : Data) → Yields (ReadFeature name) (features.feature_of name d)
unfolding features.feature_of
feature_is name d =
    yields_either (ReadFeature name) (is_feature_name name) _ (Err BadFeature)
    (λ is. yields_then (ReadFeature name) (features.feature_items_of d) _ (λ items was. yields_ok (ReadFeature name) _ (record { key_is = refl; is = record { name = is; items = items_are d items was } })))
    (λ is. yields_err (ReadFeature name) BadFeature)
