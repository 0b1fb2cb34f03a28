-- What `[package]`, `[lib]`, `[[bin]]` and `[features]` mean, key by key (The Cargo Book, Manifest
-- Format, Cargo Targets, Features).
use Rattle.std.specs.Prelude.{◌≡◌, ℕ, true, false, List, [], ◌∷◌, map, codes, Option, Some, None, Contains}
use Rattle.std.specs.List.{AllByRecursion}
use Rattle.toml.specs.Data.{Data, string, boolean, array, Members, get_member}
use Rattle.toml.specs.View.{items_of}
use Rattle.pb_manifest.specs.Laws.{item_text}
use Rattle.pb_manifest_types.specs.Letters.{is_name, is_crate_name, is_feature_name}
use Rattle.pb_manifest_types.specs.Library.{crate_type_text}
use Rattle.pb_manifest_types.specs.Package.{edition_text}
use Rattle.pb_manifest.specs.Promises.{IsItem}
use Rattle.pb_manifest_types.specs.Versions.{is_version}
use Rattle.pb_manifest_types.specs.declared.inherited.Inheritable.{Inheritable}
use Rattle.pb_manifest_types.specs.declared.inherited.Inherited.{Inherited}
use Rattle.pb_manifest_types.specs.declared.inherited.Inherited.TheVariants.{Written, Workspace}
use Rattle.pb_manifest_types.specs.declared.feature.Feature.{Feature}
use Rattle.pb_manifest_types.specs.declared.package.Build.{Build}
use Rattle.pb_manifest_types.specs.declared.package.Build.TheVariants as build
use Rattle.pb_manifest_types.specs.declared.package.Edition.{Edition}
use Rattle.pb_manifest_types.specs.declared.package.Edition.TheVariants.{E2015}
use Rattle.pb_manifest_types.specs.declared.package.Package.{Package}
use Rattle.pb_manifest_types.specs.declared.package.Readme.{Readme}
use Rattle.pb_manifest_types.specs.declared.package.Readme.TheVariants as readme
use Rattle.pb_manifest_types.specs.declared.target.Binary.{Binary}
use Rattle.pb_manifest_types.specs.declared.target.Library.{Library}
use Rattle.pb_manifest_laws.specs.Values.{texts, IsPath, OptionalMeans, HoldsValid, HoldsOr, Lists, HoldsOrTakes, HasOrTakes}

abbrev pub edition : Edition → Data
edition e = string (edition_text e)

-- the value of `build`: `true` means the file `build.rs`, `false` means no build script, and a text
-- is a path
abbrev pub IsBuild : Option Data → Build → Type 0
IsBuild found build.Discovered = found ≡ None
IsBuild found build.Standard = found ≡ Some (boolean true)
IsBuild found build.Never = found ≡ Some (boolean false)
IsBuild found (build.At path) = (found ≡ Some (string path)) × IsPath path

abbrev pub readme_value : Readme → Data
readme_value readme.Standard = boolean true
readme_value readme.Never = boolean false
readme_value (readme.At path) = string path

-- if a version is written, it is a version of Semantic Versioning
abbrev pub IsVersion : Inherited (List ℕ) → Type 0
IsVersion (Written text) = is_version text ≡ true
IsVersion Workspace = Unit {0}

-- no resolver is written, or it is `"2"` or `"3"`
abbrev pub IsResolver : Option Data → Type 0
IsResolver found = Contains (None ∷ Some (string (codes "2")) ∷ Some (string (codes "3")) ∷ []) found

-- the texts in which a package describes itself to people, each with its key
abbrev pub own_texts : Package → List (List ℕ × Inheritable (List ℕ))
own_texts p = (codes "description", p.description) ∷ (codes "homepage", p.homepage) ∷ (codes "license", p.license) ∷ (codes "license-file", p.license_file)
    ∷ (codes "repository", p.repository) ∷ (codes "rust-version", p.rust_version) ∷ []

-- a table `[package]` describes this package
pub record IsPackageTable (ms : Members) (p : Package) : Type 0 where
  pub authors : HoldsOrTakes texts (get_member (codes "authors") ms) p.authors
  pub autobins : HoldsOr true boolean (get_member (codes "autobins") ms) p.autobins
  pub script : IsBuild (get_member (codes "build") ms) p.build
  pub edition_is : HasOrTakes E2015 edition (get_member (codes "edition") ms) p.edition
  pub links : OptionalMeans string (get_member (codes "links") ms) p.links
  pub name : get_member (codes "name") ms ≡ Some (string p.name)
  pub letters : is_name p.name ≡ true
  pub readme_is : HoldsOrTakes readme_value (get_member (codes "readme") ms) p.readme
  pub resolver : IsResolver (get_member (codes "resolver") ms)
  pub texts_are : AllByRecursion (λ (row : List ℕ × Inheritable (List ℕ)). HoldsOrTakes string (get_member row.0 ms) row.1) (own_texts p)
  pub version : HasOrTakes (codes "0.0.0") string (get_member (codes "version") ms) p.version
  pub version_is : IsVersion p.version

-- a table `[lib]` without `proc-macro = true` describes this library
pub record IsLibraryTable (ms : Members) (l : Library) : Type 0 where
  pub crate_types : Lists (λ t. string (crate_type_text t)) (get_member (codes "crate-type") ms) l.crate_types
  pub name : HoldsValid (λ name. is_crate_name name ≡ true) string (get_member (codes "name") ms) l.name
  pub path : HoldsValid IsPath string (get_member (codes "path") ms) l.path
  pub no_macro : HoldsOr false boolean (get_member (codes "proc-macro") ms) false

-- a table `[[bin]]` describes this binary
pub record IsBinaryTable (ms : Members) (b : Binary) : Type 0 where
  pub name : get_member (codes "name") ms ≡ Some (string b.name)
  pub letters : is_name b.name ≡ true
  pub path : HoldsValid IsPath string (get_member (codes "path") ms) b.path
  pub required_features : Lists string (get_member (codes "required-features") ms) b.required_features

-- An entry of `[features]` describes this feature. The entry is a list of items, each of the form
-- `F`, `dep:N`, `N/F` or `N?/F`.
pub record IsFeatureEntry (name : List ℕ) (d : Data) (f : Feature) : Type 0 where
  pub name_is : f.name ≡ name
  pub letters : is_feature_name name ≡ true
  pub listed : d ≡ array (items_of (map (λ i. string (item_text i)) f.items))
  pub items_are : AllByRecursion IsItem f.items
