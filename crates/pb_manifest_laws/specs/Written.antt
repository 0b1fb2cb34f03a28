-- How a manifest is written, table by table. Each key is written with its value, in byte order. A
-- key that was left out stays left out.
use Rattle.std.specs.Prelude.{ℕ, Bool, pos, true, false, if◌then◌else◌, List, [], ◌∷◌, map, codes, Option, Some, None}
use Rattle.std.specs.Cmp.Lexicographic.{slice_cmp}
use Rattle.std.specs.List.{slice_get}
use Rattle.std.specs.Option.{option_and_then, option_map}
use Rattle.std.specs.Ordering.{is_lt, nat_cmp}
use Rattle.toml.specs.Data.{Data, string, integer, boolean, array, table, Members, no_members, member}
use Rattle.toml.specs.View.{items_of}
use Rattle.pb_manifest_types.specs.Library.{crate_type_text}
use Rattle.pb_manifest_types.specs.declared.dependency.Dependency.{Dependency}
use Rattle.pb_manifest_types.specs.declared.dependency.Source.{Source}
use Rattle.pb_manifest_types.specs.declared.dependency.Source.TheVariants as own
use Rattle.pb_manifest_types.specs.declared.dependency.WorkspaceDependency.{WorkspaceDependency}
use Rattle.pb_manifest_types.specs.declared.dependency.WorkspaceSource.{WorkspaceSource}
use Rattle.pb_manifest_types.specs.declared.dependency.WorkspaceSource.TheVariants as shared
use Rattle.pb_manifest_types.specs.declared.feature.Feature.{Feature}
use Rattle.pb_manifest_types.specs.declared.inherited.Inheritable.{Inheritable}
use Rattle.pb_manifest_types.specs.declared.inherited.Inheritable.TheVariants.{Written, Workspace, Absent}
use Rattle.pb_manifest_types.specs.declared.inherited.Inherited.{Inherited}
use Rattle.pb_manifest_types.specs.declared.inherited.Inherited.TheVariants as inherited
use Rattle.pb_manifest_types.specs.declared.manifest.Manifest.{Manifest}
use Rattle.pb_manifest_types.specs.declared.manifest.WorkspacePackage.{WorkspacePackage}
use Rattle.pb_manifest_types.specs.declared.manifest.WorkspaceTable.{WorkspaceTable}
use Rattle.pb_manifest_types.specs.declared.package.Build.{Build}
use Rattle.pb_manifest_types.specs.declared.package.Build.TheVariants as build
use Rattle.pb_manifest_types.specs.declared.package.Package.{Package}
use Rattle.pb_manifest_types.specs.declared.profile.Profile.{Profile}
use Rattle.pb_profile_keys.specs.Keys.{Said, says}
use Rattle.pb_profile_keys.specs.Table.{keys}
use Rattle.pb_profile_keys.specs.declared.key.ProfileKey.{ProfileKey}
use Rattle.pb_manifest_types.specs.declared.profile.ProfileOverride.{ProfileOverride}
use Rattle.pb_manifest_types.specs.declared.target.Binary.{Binary}
use Rattle.pb_manifest_types.specs.declared.target.Library.{Library}
use Rattle.pb_manifest.specs.Laws.{item_text}
use Rattle.pb_manifest_laws.specs.Packages.{edition, readme_value}
use Rattle.pb_manifest_laws.specs.Profiles.{name_of, forms}
use Rattle.pb_manifest_laws.specs.Values.{texts, members_of}

-- the keys of a table, each with the value that is written for it, if there is such a value
abbrev pub Rows : Type 0
Rows = List (List ℕ × Option Data)

abbrev pub with_key : List ℕ → Option Data → Members → Members
with_key key None ms = ms
with_key key (Some d) ms = member key d ms

abbrev pub members_with : Rows → Members
members_with [] = no_members
members_with (row ∷ rows) = with_key row.0 row.1 (members_with rows)

abbrev pub table_with : Rows → Data
table_with rows = table (members_with rows)

-- The value that is written for a list. `entries` is what is written for a table of entries: each
-- value with its key.
abbrev pub list : {A : Type 0} → (A → Data) → List A → Option Data
list write xs = Some (array (items_of (map write xs)))

abbrev pub entries : {A : Type 0} → (A → List ℕ) → (A → Data) → List A → Option Data
entries key write xs = Some (table (members_of (map (λ x. (key x, write x)) xs)))

-- The value `{ workspace = true }`. The next two definitions write this table for an inherited
-- value, and any other value as it is.
abbrev pub taken : Data
taken = table (member (codes "workspace") (boolean true) no_members)

abbrev pub inheritable : {A : Type 0} → (A → Data) → Inheritable A → Option Data
inheritable write (Written x) = Some (write x)
inheritable write Workspace = Some taken
inheritable write Absent = None

abbrev pub inherited_value : {A : Type 0} → (A → Data) → Inherited A → Option Data
inherited_value write (inherited.Written x) = Some (write x)
inherited_value write inherited.Workspace = Some taken

abbrev pub build_value : Build → Option Data
build_value build.Discovered = None
build_value build.Standard = Some (boolean true)
build_value build.Never = Some (boolean false)
build_value (build.At path) = Some (string path)

abbrev pub package_rows : Package → Rows
package_rows p =
    (codes "authors", inheritable texts p.authors) ∷ (codes "autobins", Some (boolean p.autobins)) ∷ (codes "build", build_value p.build) ∷ (codes "description", inheritable string p.description)
    ∷ (codes "edition", inherited_value edition p.edition) ∷ (codes "homepage", inheritable string p.homepage) ∷ (codes "license", inheritable string p.license) ∷ (codes "license-file", inheritable string p.license_file)
    ∷ (codes "links", option_map string p.links) ∷ (codes "name", Some (string p.name)) ∷ (codes "readme", inheritable readme_value p.readme) ∷ (codes "repository", inheritable string p.repository)
    ∷ (codes "rust-version", inheritable string p.rust_version) ∷ (codes "version", inherited_value string p.version) ∷ []

abbrev pub library_rows : Library → Rows
library_rows l = (codes "crate-type", list (λ t. string (crate_type_text t)) l.crate_types) ∷ (codes "name", option_map string l.name) ∷ (codes "path", option_map string l.path) ∷ []

abbrev pub binary_rows : Binary → Rows
binary_rows b = (codes "name", Some (string b.name)) ∷ (codes "path", option_map string b.path) ∷ (codes "required-features", list string b.required_features) ∷ []

abbrev pub feature_items : Feature → Data
feature_items f = array (items_of (map (λ i. string (item_text i)) f.items))

abbrev pub dependency_rows : Source → List (List ℕ) → Bool → Rows
dependency_rows (own.Workspace default) features optional =
    (codes "default-features", Some (boolean default)) ∷ (codes "features", list string features) ∷ (codes "optional", Some (boolean optional)) ∷ (codes "workspace", Some (boolean true)) ∷ []
dependency_rows (own.Path s) features optional =
    (codes "default-features", Some (boolean s.default_features)) ∷ (codes "features", list string features) ∷ (codes "optional", Some (boolean optional)) ∷ (codes "package", option_map string s.package)
    ∷ (codes "path", Some (string s.path)) ∷ (codes "version", option_map string s.version) ∷ []

abbrev pub dependency_entry : Dependency → Data
dependency_entry d = table_with (dependency_rows d.source d.features d.optional)

-- what is written for an entry of `[workspace.dependencies]`; no path is written if the entry's
-- source is unsupported
abbrev pub shared_rows : WorkspaceSource → List (List ℕ) → Rows
shared_rows shared.Unsupported features = (codes "features", list string features) ∷ []
shared_rows (shared.Path s) features =
    (codes "default-features", Some (boolean s.default_features)) ∷ (codes "features", list string features) ∷ (codes "package", option_map string s.package) ∷ (codes "path", Some (string s.path))
    ∷ (codes "version", option_map string s.version) ∷ []

abbrev pub shared_entry : WorkspaceDependency → Data
shared_entry d = table_with (shared_rows d.source d.features)

-- the first form of a value, if there is a value
abbrev pub first_form : {A : Type 0} → (A → List Data) → Option A → Option Data
first_form forms value = option_and_then (λ x. slice_get (forms x) 0) value

-- a key's name, with the first form of the key's value
abbrev pub key_row : Said → ProfileKey → List ℕ × Option Data
key_row said k = (name_of k, first_form (forms k) (says said k))

-- the rows with one more row, which is inserted so that the rows stay in byte order of their keys
abbrev pub with_row : List ℕ × Option Data → Rows → Rows
with_row row [] = row ∷ []
with_row row (other ∷ rows) = if is_lt (slice_cmp nat_cmp row.0 other.0) then row ∷ other ∷ rows else other ∷ with_row row rows

-- The rows of a profile: its settings and its other keys. The rows of an override are only its
-- settings.
abbrev pub profile_rows : Option Data → Option (List ℕ) → Option Data → Said → Rows
profile_rows override inherits packages said =
    with_row (codes "build-override", override) (with_row (codes "inherits", option_map string inherits) (with_row (codes "package", packages) (map (key_row said) keys)))

abbrev pub settings_table : Said → Data
settings_table said = table_with (profile_rows None None None said)

abbrev pub profile_entry : Profile → Data
profile_entry p = table_with (profile_rows (option_map settings_table p.build_override) p.inherits (entries (λ (o : ProfileOverride). o.name) (λ o. settings_table o.keys) p.packages) p.keys)

abbrev pub inherited_rows : WorkspacePackage → Rows
inherited_rows w =
    (codes "authors", option_map texts w.authors) ∷ (codes "description", option_map string w.description) ∷ (codes "edition", option_map edition w.edition) ∷ (codes "homepage", option_map string w.homepage)
    ∷ (codes "license", option_map string w.license) ∷ (codes "license-file", option_map string w.license_file) ∷ (codes "readme", option_map readme_value w.readme) ∷ (codes "repository", option_map string w.repository)
    ∷ (codes "rust-version", option_map string w.rust_version) ∷ (codes "version", option_map string w.version) ∷ []

abbrev pub workspace_rows : WorkspaceTable → Rows
workspace_rows w =
    (codes "default-members", option_map texts w.default_members) ∷ (codes "dependencies", entries (λ (d : WorkspaceDependency). d.key) shared_entry w.dependencies) ∷ (codes "exclude", list string w.exclude)
    ∷ (codes "members", list string w.members) ∷ (codes "package", option_map (λ p. table_with (inherited_rows p)) w.package) ∷ []

abbrev pub dependencies : List Dependency → Option Data
dependencies ds = entries (λ (d : Dependency). d.key) dependency_entry ds

-- The rows of a document. For `[dev-dependencies]` only the keys are written, because nothing else
-- of this table is read.
abbrev pub document_rows : Manifest → Rows
document_rows m =
    (codes "bin", list (λ b. table_with (binary_rows b)) m.binaries) ∷ (codes "build-dependencies", dependencies m.build_dependencies) ∷ (codes "dependencies", dependencies m.dependencies)
    ∷ (codes "dev-dependencies", entries (λ key. key) (λ key. boolean true) m.dev_dependencies) ∷ (codes "features", entries (λ (f : Feature). f.name) feature_items m.features)
    ∷ (codes "lib", option_map (λ l. table_with (library_rows l)) m.library) ∷ (codes "package", option_map (λ p. table_with (package_rows p)) m.package)
    ∷ (codes "profile", entries (λ (p : Profile). p.name) profile_entry m.profiles) ∷ (codes "workspace", option_map (λ w. table_with (workspace_rows w)) m.workspace) ∷ []

abbrev pub written : Manifest → Members
written m = members_with (document_rows m)
