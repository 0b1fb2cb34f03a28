-- What is written of a manifest that was read says that manifest.
use Rattle.std.proofs.Common.{inl, inr, ◌≡◌, ◌∙◌, ℕ, Bool, pos, true, false, List, [], ◌∷◌, map, codes, Contains, Option, Some, None, is_some, refl, sym, ap, subst, arith}
use Rattle.std.specs.List.{AllByRecursion, AllZip, slice_get}
use Rattle.std.specs.Option.{option_and_then, option_map, option_map_or, option_or, option_to_list}
use Rattle.pb_graph.proofs.Membership.{none, head}
use Rattle.toml.specs.Data.{Data, string, integer, boolean, Members, get_member, as_table}
use Rattle.pb_profile_keys.specs.Keys.{Said, says}
use Rattle.pb_profile_keys.specs.declared.key.ProfileKey.{ProfileKey}
use Rattle.pb_profile_keys.specs.declared.key.ProfileKey.TheVariants as key
use Rattle.pb_manifest_types.specs.Letters.{is_name, is_feature_name}
use Rattle.pb_manifest_types.specs.Library.{crate_type_text}
use Rattle.pb_manifest_types.specs.declared.dependency.Dependency.{Dependency}
use Rattle.pb_manifest_types.specs.declared.dependency.Source.{Source}
use Rattle.pb_manifest_types.specs.declared.dependency.Source.TheVariants as own
use Rattle.pb_manifest_types.specs.declared.dependency.WorkspaceDependency.{WorkspaceDependency}
use Rattle.pb_manifest_types.specs.declared.dependency.WorkspaceSource.{WorkspaceSource}
use Rattle.pb_manifest_types.specs.declared.dependency.WorkspaceSource.TheVariants as shared
use Rattle.pb_manifest_types.specs.declared.feature.Feature.{Feature}
use Rattle.pb_manifest_types.specs.declared.manifest.Manifest.{Manifest}
use Rattle.pb_manifest_types.specs.declared.manifest.WorkspacePackage.{WorkspacePackage}
use Rattle.pb_manifest_types.specs.declared.manifest.WorkspaceTable.{WorkspaceTable}
use Rattle.pb_manifest_types.specs.declared.package.Build.{Build}
use Rattle.pb_manifest_types.specs.declared.package.Build.TheVariants as build
use Rattle.pb_manifest_types.specs.declared.package.Edition.TheVariants.{E2015}
use Rattle.pb_manifest_types.specs.declared.package.Package.{Package}
use Rattle.pb_manifest_types.specs.declared.profile.Profile.{Profile}
use Rattle.pb_manifest_types.specs.declared.profile.ProfileOverride.{ProfileOverride}
use Rattle.pb_manifest_types.specs.declared.target.Binary.{Binary}
use Rattle.pb_manifest_types.specs.declared.target.Library.{Library}
use Rattle.pb_manifest.specs.Profiles.{may_be_profile}
use Rattle.pb_manifest.specs.Values.{keys_of}
use Rattle.pb_manifest_laws.specs.Dependencies.{IsSource, IsDependencyEntry, IsSharedSource, IsSharedTable, IsSharedEntry}
use Rattle.pb_manifest_laws.specs.Documents.{IsDocument}
use Rattle.pb_manifest_laws.specs.Laws.{ReadsWhatIsWritten}
use Rattle.pb_manifest_laws.specs.Packages.{edition, IsBuild, readme_value, IsResolver, IsPackageTable, IsLibraryTable, IsBinaryTable, IsFeatureEntry}
use Rattle.pb_manifest_laws.specs.Profiles.{name_of, forms, HoldsOne, AreSettings, IsOverrideEntry, IsProfileEntry}
use Rattle.pb_manifest_laws.specs.Values.{texts, HoldsOr, Lists, OfTable, HoldsOrTakes, HasOrTakes, IsTableAt, AreTablesAt, AreEntriesAt, members_of}
use Rattle.pb_manifest_laws.specs.Workspaces.{IsInheritedTable, IsWorkspaceTable}
use Rattle.pb_manifest_laws.specs.Written.{members_with, table_with, list, entries, inheritable, inherited_value, build_value, package_rows, library_rows, binary_rows, feature_items, dependency_rows, dependency_entry, shared_rows, shared_entry, first_form, profile_rows, settings_table, profile_entry, inherited_rows, workspace_rows, dependencies, document_rows, written}
use Rattle.pb_manifest_laws.proofs.Documents.{documents_read}
use Rattle.pb_manifest_laws.proofs.Rows.{in_rows, at, holds_at, text_at, text_taken, takes, has_or_takes, table_written, tables_written, entries_written}

-- no resolver is written
no_resolver : IsResolver None
no_resolver = (0, omega arith, refl)

-- `[package]`
build_written : (found : Option Data) (b : Build) → IsBuild found b → IsBuild (build_value b) b
build_written found (build.At path) is = (refl, is.1)
build_written found _ is = refl

package_written : (ms : Members) (p : Package) → IsPackageTable ms p → IsPackageTable (members_with (package_rows p)) p
package_written ms p says = record {
  authors = holds_at (λ o. HoldsOrTakes texts o p.authors) (codes "authors") (package_rows p) (inheritable texts p.authors) refl (takes texts p.authors);
  autobins = holds_at (λ o. HoldsOr true (λ b. boolean b) o p.autobins) (codes "autobins") (package_rows p) (Some (boolean p.autobins)) refl refl;
  script = holds_at (λ o. IsBuild o p.build) (codes "build") (package_rows p) (build_value p.build) refl (build_written (get_member (codes "build") ms) p.build says.script);
  edition_is = holds_at (λ o. HasOrTakes E2015 edition o p.edition) (codes "edition") (package_rows p) (inherited_value edition p.edition) refl (has_or_takes E2015 edition p.edition);
  links = text_at (codes "links") (package_rows p) p.links refl;
  name = at (codes "name") (package_rows p) (Some (string p.name)) refl;
  letters = says.letters;
  readme_is = holds_at (λ o. HoldsOrTakes readme_value o p.readme) (codes "readme") (package_rows p) (inheritable readme_value p.readme) refl (takes readme_value p.readme);
  resolver = holds_at IsResolver (codes "resolver") (package_rows p) None refl no_resolver;
  texts_are = (
    text_taken (codes "description") (package_rows p) p.description refl,
    (
      text_taken (codes "homepage") (package_rows p) p.homepage refl,
      (
        text_taken (codes "license") (package_rows p) p.license refl,
        (
          text_taken (codes "license-file") (package_rows p) p.license_file refl,
          (
            text_taken (codes "repository") (package_rows p) p.repository refl,
            (text_taken (codes "rust-version") (package_rows p) p.rust_version refl, tt),
          ),
        ),
      ),
    ),
  );
  version = holds_at (λ o. HasOrTakes (codes "0.0.0") (λ t. string t) o p.version) (codes "version") (package_rows p) (inherited_value (λ t. string t) p.version) refl (has_or_takes (codes "0.0.0") (λ t. string t) p.version);
  version_is = says.version_is;
}

-- `[lib]` and `[[bin]]`
library_written : (ms : Members) (l : Library) → IsLibraryTable ms l → IsLibraryTable (members_with (library_rows l)) l
library_written ms l says = record {
  crate_types = holds_at (λ o. Lists (λ t. string (crate_type_text t)) o l.crate_types) (codes "crate-type") (library_rows l) (list (λ t. string (crate_type_text t)) l.crate_types) refl refl;
  name = (text_at (codes "name") (library_rows l) l.name refl, says.name.1);
  path = (text_at (codes "path") (library_rows l) l.path refl, says.path.1);
  no_macro = holds_at (λ o. HoldsOr false (λ b. boolean b) o false) (codes "proc-macro") (library_rows l) None refl refl;
}

binary_written : (ms : Members) (b : Binary) → IsBinaryTable ms b → IsBinaryTable (members_with (binary_rows b)) b
binary_written ms b says = record {
  name = at (codes "name") (binary_rows b) (Some (string b.name)) refl;
  letters = says.letters;
  path = (text_at (codes "path") (binary_rows b) b.path refl, says.path.1);
  required_features = holds_at (λ o. Lists (λ t. string t) o b.required_features) (codes "required-features") (binary_rows b) (list (λ t. string t) b.required_features) refl refl;
}

-- `[features]`
feature_written : (name : List ℕ) (d : Data) (f : Feature) → IsFeatureEntry name d f → IsFeatureEntry f.name (feature_items f) f
feature_written name d f says = record { name_is = refl; letters = ap is_feature_name says.name_is ∙ says.letters; listed = refl; items_are = says.items_are }

-- dependencies
source_written : (ms : Members) (s : Source) (features : List (List ℕ)) (optional : Bool) → IsSource ms s → IsSource (members_with (dependency_rows s features optional)) s
source_written ms (own.Workspace default) features optional is =
    let rows = dependency_rows (own.Workspace default) features optional in (
      at (codes "workspace") rows (Some (boolean true)) refl,
      holds_at (λ o. HoldsOr false (λ b. boolean b) o default) (codes "default-features") rows (Some (boolean default)) refl refl,
      ((None, (at (codes "path") rows None refl, tt)), (None, at (codes "package") rows None refl), (None, (at (codes "version") rows None refl, tt))),
    )
source_written ms (own.Path s) features optional is =
    let rows = dependency_rows (own.Path s) features optional in (
      at (codes "workspace") rows None refl,
      record {
        path = at (codes "path") rows (Some (string s.path)) refl;
        path_is = is.1.path_is;
        name = text_at (codes "package") rows s.package refl;
        version = (text_at (codes "version") rows s.version refl, is.1.version.1);
        default_features = holds_at (λ o. HoldsOr true (λ b. boolean b) o s.default_features) (codes "default-features") rows (Some (boolean s.default_features)) refl refl;
      },
    )

-- what stands beside the source
record HasRest (ms : Members) (features : List (List ℕ)) (optional : Bool) : Type 0 where
  optional_is : HoldsOr false (λ b. boolean b) (get_member (codes "optional") ms) optional
  features_are : Lists (λ t. string t) (get_member (codes "features") ms) features
  unsupported : AllByRecursion (λ key. get_member key ms ≡ None) (codes "git" ∷ codes "registry" ∷ [])

rest_written : (s : Source) (features : List (List ℕ)) (optional : Bool) → HasRest (members_with (dependency_rows s features optional)) features optional
rest_written (own.Workspace default) features optional =
    let rows = dependency_rows (own.Workspace default) features optional in
    record {
      optional_is = holds_at (λ o. HoldsOr false (λ b. boolean b) o optional) (codes "optional") rows (Some (boolean optional)) refl refl;
      features_are = holds_at (λ o. Lists (λ t. string t) o features) (codes "features") rows (list (λ t. string t) features) refl refl;
      unsupported = (at (codes "git") rows None refl, (at (codes "registry") rows None refl, tt));
    }
rest_written (own.Path s) features optional =
    let rows = dependency_rows (own.Path s) features optional in
    record {
      optional_is = holds_at (λ o. HoldsOr false (λ b. boolean b) o optional) (codes "optional") rows (Some (boolean optional)) refl refl;
      features_are = holds_at (λ o. Lists (λ t. string t) o features) (codes "features") rows (list (λ t. string t) features) refl refl;
      unsupported = (at (codes "git") rows None refl, (at (codes "registry") rows None refl, tt));
    }

dependency_written : (name : List ℕ) (d : Data) (x : Dependency) → OfTable (IsDependencyEntry name) d x → OfTable (IsDependencyEntry x.key) (dependency_entry x) x
dependency_written name d x says =
    let rest = rest_written x.source x.features x.optional in (
      members_with (dependency_rows x.source x.features x.optional),
      refl,
      record {
        key = refl;
        letters = ap is_name says.2.key ∙ says.2.letters;
        source = source_written says.0 x.source x.features x.optional says.2.source;
        optional = rest.optional_is;
        features = rest.features_are;
        unsupported = rest.unsupported;
      },
    )

-- `[workspace.dependencies]`
-- an entry without a path
no_source : (features : List (List ℕ)) → IsSharedSource (members_with (shared_rows shared.Unsupported features)) shared.Unsupported
no_source features =
    let rows = shared_rows shared.Unsupported features in (
      ((None, (at (codes "path") rows None refl, tt)), (None, at (codes "package") rows None refl), (None, (at (codes "version") rows None refl, tt))),
      (None, at (codes "default-features") rows None refl),
      λ git registry. at (codes "path") rows None refl,
    )

shared_source_written : (ms : Members) (s : WorkspaceSource) (features : List (List ℕ)) → IsSharedSource ms s → IsSharedSource (members_with (shared_rows s features)) s
shared_source_written ms (shared.Path s) features is =
    let rows = shared_rows (shared.Path s) features in (
      record {
        path = at (codes "path") rows (Some (string s.path)) refl;
        path_is = is.0.path_is;
        name = text_at (codes "package") rows s.package refl;
        version = (text_at (codes "version") rows s.version refl, is.0.version.1);
        default_features = holds_at (λ o. HoldsOr true (λ b. boolean b) o s.default_features) (codes "default-features") rows (Some (boolean s.default_features)) refl refl;
      },
      at (codes "git") rows None refl,
      at (codes "registry") rows None refl,
    )
shared_source_written ms shared.Unsupported features is = no_source features

record HasShared (ms : Members) (features : List (List ℕ)) : Type 0 where
  features_are : Lists (λ t. string t) (get_member (codes "features") ms) features
  optional_is : get_member (codes "optional") ms ≡ None
  taken_is : get_member (codes "workspace") ms ≡ None

shared_rest : (s : WorkspaceSource) (features : List (List ℕ)) → HasShared (members_with (shared_rows s features)) features
shared_rest (shared.Path s) features =
    let rows = shared_rows (shared.Path s) features in
    record {
      features_are = holds_at (λ o. Lists (λ t. string t) o features) (codes "features") rows (list (λ t. string t) features) refl refl;
      optional_is = at (codes "optional") rows None refl;
      taken_is = at (codes "workspace") rows None refl;
    }
shared_rest shared.Unsupported features =
    let rows = shared_rows shared.Unsupported features in
    record {
      features_are = holds_at (λ o. Lists (λ t. string t) o features) (codes "features") rows (list (λ t. string t) features) refl refl;
      optional_is = at (codes "optional") rows None refl;
      taken_is = at (codes "workspace") rows None refl;
    }

shared_table : (key : List ℕ) (s : WorkspaceSource) (features : List (List ℕ)) → is_name key ≡ true → IsSharedSource (members_with (shared_rows s features)) s
    → IsSharedTable key (members_with (shared_rows s features)) (record { key = key; source = s; features = features })
shared_table key s features letters source =
    let rest = shared_rest s features in
    record { key = refl; letters = letters; source = source; features = rest.features_are; optional = (None, rest.optional_is); taken = inl rest.taken_is }

shared_written : (name : List ℕ) (d : Data) (x : WorkspaceDependency) → IsSharedEntry name d x → IsSharedEntry x.key (shared_entry x) x
shared_written name d x (inl says) =
    inl (members_with (shared_rows x.source x.features), refl, shared_table x.key x.source x.features (ap is_name says.2.key ∙ says.2.letters) (shared_source_written says.0 x.source x.features says.2.source))
shared_written name d x (inr says) =
    subst (λ y. IsSharedEntry y.key (shared_entry y) y) (sym says.2) (inl (members_with (shared_rows shared.Unsupported []), refl, shared_table name shared.Unsupported [] says.0 (no_source [])))

-- profiles
-- the first form of a value that has one is one of its forms
form_written : {A : Type 0} (forms : A → List Data) (found : Option Data) (o : Option A) → HoldsOne forms found o → HoldsOne forms (first_form forms o) o
form_written forms None None is = tt
form_written forms None (Some x) is = absurd is
form_written forms (Some d) None is = absurd is
form_written forms (Some d) (Some x) is = by (forms x) refl is.0
  where
    by : (ds : List Data) → forms x ≡ ds → Contains ds d → AllZip (λ e y. Contains (forms y) e) (option_to_list (slice_get ds 0)) (x ∷ [])
    by [] same is = absurd (none d is)
    by (e ∷ ds) same is = (subst (λ es. Contains es e) (sym same) (head e ds), tt)

module _ (ms : Members) (override : Option Data) (inherits : Option (List ℕ)) (packages : Option Data) where
  -- the keys one by one
  row_written : (said : Said) (k : ProfileKey) → in_rows (name_of k) (profile_rows override inherits packages said) ≡ option_or (first_form (forms k) (says said k)) None
  row_written said key.CodegenUnits = refl
  row_written said _ = refl

  each_written : (whole : Said) (k : ProfileKey) → HoldsOne (forms k) (get_member (name_of k) ms) (says whole k) → HoldsOne (forms k) (get_member (name_of k) (members_with (profile_rows override inherits packages whole))) (says whole k)
  each_written whole k is =
      holds_at (λ o. HoldsOne (forms k) o (says whole k)) (name_of k) (profile_rows override inherits packages whole) (first_form (forms k) (says whole k)) (row_written whole k)
      (form_written (forms k) (get_member (name_of k) ms) (says whole k) is)

  settings_written : (said : Said) → AreSettings ms said → AreSettings (members_with (profile_rows override inherits packages said)) said
  settings_written said is = record { one_each = is.one_each; each = λ k. each_written said k (is.each k) }

override_written : (name : List ℕ) (d : Data) (o : ProfileOverride) → OfTable (IsOverrideEntry name) d o → OfTable (IsOverrideEntry o.name) (settings_table o.keys) o
override_written name d o says = (members_with (profile_rows None None None o.keys), refl, record { name_is = refl; keys = settings_written says.0 None None None o.keys says.2.keys })

profile_written : (name : List ℕ) (d : Data) (p : Profile) → OfTable (IsProfileEntry name) d p → OfTable (IsProfileEntry p.name) (profile_entry p) p
profile_written name d p says =
    let override = option_map settings_table p.build_override in
    let packages = entries (λ (o : ProfileOverride). o.name) (λ o. settings_table o.keys) p.packages in
    let rows = profile_rows override p.inherits packages p.keys in (
      members_with rows,
      refl,
      record {
        name_is = refl;
        keys = settings_written says.0 override p.inherits packages p.keys says.2.keys;
        inherits = text_at (codes "inherits") rows p.inherits refl;
        may_be = ap (λ n. may_be_profile n p.inherits) says.2.name_is ∙ says.2.may_be;
        packages = holds_at (λ o. AreEntriesAt (λ name. OfTable (IsOverrideEntry name)) o p.packages) (codes "package") rows packages refl
            (entries_written (λ name. OfTable (IsOverrideEntry name)) (λ (o : ProfileOverride). o.name) (λ o. settings_table o.keys) override_written (get_member (codes "package") says.0) p.packages says.2.packages);
        build_override = holds_at (λ o. IsTableAt AreSettings o p.build_override) (codes "build-override") rows override refl
            (table_written AreSettings (λ keys. profile_rows None None None keys) (λ ms keys is. settings_written ms None None None keys is) (get_member (codes "build-override") says.0) p.build_override says.2.build_override);
      },
    )

-- `[workspace]`
inherited_written : (ms : Members) (w : WorkspacePackage) → IsInheritedTable ms w → IsInheritedTable (members_with (inherited_rows w)) w
inherited_written ms w says = record {
  authors = at (codes "authors") (inherited_rows w) (option_map texts w.authors) refl;
  edition_is = at (codes "edition") (inherited_rows w) (option_map edition w.edition) refl;
  readme_is = at (codes "readme") (inherited_rows w) (option_map readme_value w.readme) refl;
  texts_are = (
    text_at (codes "description") (inherited_rows w) w.description refl,
    (
      text_at (codes "homepage") (inherited_rows w) w.homepage refl,
      (
        text_at (codes "license") (inherited_rows w) w.license refl,
        (
          text_at (codes "license-file") (inherited_rows w) w.license_file refl,
          (
            text_at (codes "repository") (inherited_rows w) w.repository refl,
            (text_at (codes "rust-version") (inherited_rows w) w.rust_version refl, tt),
          ),
        ),
      ),
    ),
  );
  version = (text_at (codes "version") (inherited_rows w) w.version refl, says.version.1);
}

workspace_written : (ms : Members) (w : WorkspaceTable) → IsWorkspaceTable ms w → IsWorkspaceTable (members_with (workspace_rows w)) w
workspace_written ms w says =
    let shared_entries = entries (λ (d : WorkspaceDependency). d.key) shared_entry w.dependencies in
    let own = option_map (λ p. table_with (inherited_rows p)) w.package in
    record {
      members = holds_at (λ o. Lists (λ t. string t) o w.members) (codes "members") (workspace_rows w) (list (λ t. string t) w.members) refl refl;
      members_are = says.members_are;
      default_members = (at (codes "default-members") (workspace_rows w) (option_map texts w.default_members) refl, says.default_members.1);
      exclude = holds_at (λ o. Lists (λ t. string t) o w.exclude) (codes "exclude") (workspace_rows w) (list (λ t. string t) w.exclude) refl refl;
      exclude_are = says.exclude_are;
      inherited = holds_at (λ o. IsTableAt IsInheritedTable o w.package) (codes "package") (workspace_rows w) own refl
          (table_written IsInheritedTable (λ p. inherited_rows p) inherited_written (get_member (codes "package") ms) w.package says.inherited);
      dependencies = holds_at (λ o. AreEntriesAt IsSharedEntry o w.dependencies) (codes "dependencies") (workspace_rows w) shared_entries refl
          (entries_written IsSharedEntry (λ (d : WorkspaceDependency). d.key) shared_entry shared_written (get_member (codes "dependencies") ms) w.dependencies says.dependencies);
      resolver = holds_at IsResolver (codes "resolver") (workspace_rows w) None refl no_resolver;
    }

-- the keys of `[dev-dependencies]`
keys_written : (keys : List (List ℕ)) → keys ≡ keys_of (members_of (map (λ key. (key, boolean true)) keys))
keys_written [] = refl
keys_written (key ∷ keys) = ap (λ more. key ∷ more) (keys_written keys)

-- what is read of a table that is there
is_there : {A : Type 0} (Is : Members → A → Type 0) (found : Option Data) (o : Option A) → IsTableAt Is found o → is_some found ≡ is_some o
is_there Is None None is = refl
is_there Is None (Some x) is = absurd is
is_there Is (Some d) None is = absurd is
is_there Is (Some d) (Some x) is = refl

one_there : (found written_one : Option Data) (beside written_beside : Bool) → is_some written_one ≡ is_some found → written_beside ≡ beside → (found ≡ None → beside ≡ true) → written_one ≡ None → written_beside ≡ true
one_there None written_one beside written_beside own same one none = same ∙ one refl
one_there (Some d) written_one beside written_beside own same one none = absurd (let clash : is_some {T = Data} None ≡ true = ap is_some (sym none) ∙ own in cc)

pub document_written : (ms : Members) (m : Manifest) → IsDocument ms m → IsDocument (written m) m
document_written ms m says =
    let rows = document_rows m in
    let own = option_map (λ p. table_with (package_rows p)) m.package in
    let beside = option_map (λ w. table_with (workspace_rows w)) m.workspace in
    let own_is = table_written IsPackageTable (λ p. package_rows p) package_written (get_member (codes "package") ms) m.package says.own in
    let beside_is = table_written IsWorkspaceTable (λ w. workspace_rows w) workspace_written (get_member (codes "workspace") ms) m.workspace says.workspace in
    record {
      unsupported = (at (codes "patch") rows None refl, (at (codes "replace") rows None refl, (at (codes "target") rows None refl, tt)));
      own = holds_at (λ o. IsTableAt IsPackageTable o m.package) (codes "package") rows own refl own_is;
      one = holds_at (λ o. o ≡ None → is_some (get_member (codes "workspace") (written m)) ≡ true) (codes "package") rows own refl
          (holds_at (λ o. own ≡ None → is_some o ≡ true) (codes "workspace") rows beside refl
          (one_there (get_member (codes "package") ms) own (is_some (get_member (codes "workspace") ms)) (is_some beside)
          (is_there IsPackageTable own m.package own_is ∙ sym (is_there IsPackageTable (get_member (codes "package") ms) m.package says.own))
          (is_there IsWorkspaceTable beside m.workspace beside_is ∙ sym (is_there IsWorkspaceTable (get_member (codes "workspace") ms) m.workspace says.workspace)) says.one));
      library = holds_at (λ o. IsTableAt IsLibraryTable o m.library) (codes "lib") rows (option_map (λ l. table_with (library_rows l)) m.library) refl
          (table_written IsLibraryTable (λ l. library_rows l) library_written (get_member (codes "lib") ms) m.library says.library);
      binaries = holds_at (λ o. AreTablesAt IsBinaryTable o m.binaries) (codes "bin") rows (list (λ b. table_with (binary_rows b)) m.binaries) refl
          (tables_written IsBinaryTable (λ b. binary_rows b) binary_written (get_member (codes "bin") ms) m.binaries says.binaries);
      dependencies = holds_at (λ o. AreEntriesAt (λ name. OfTable (IsDependencyEntry name)) o m.dependencies) (codes "dependencies") rows (dependencies m.dependencies) refl
          (entries_written (λ name. OfTable (IsDependencyEntry name)) (λ (d : Dependency). d.key) dependency_entry dependency_written (get_member (codes "dependencies") ms) m.dependencies says.dependencies);
      build_dependencies = holds_at (λ o. AreEntriesAt (λ name. OfTable (IsDependencyEntry name)) o m.build_dependencies) (codes "build-dependencies") rows (dependencies m.build_dependencies) refl
          (entries_written (λ name. OfTable (IsDependencyEntry name)) (λ (d : Dependency). d.key) dependency_entry dependency_written (get_member (codes "build-dependencies") ms) m.build_dependencies says.build_dependencies);
      dev_dependencies = holds_at (λ o. m.dev_dependencies ≡ option_map_or keys_of (option_and_then as_table o) []) (codes "dev-dependencies") rows (entries (λ key. key) (λ key. boolean true) m.dev_dependencies) refl
          (keys_written m.dev_dependencies);
      features = holds_at (λ o. AreEntriesAt IsFeatureEntry o m.features) (codes "features") rows (entries (λ (f : Feature). f.name) feature_items m.features) refl
          (entries_written IsFeatureEntry (λ (f : Feature). f.name) feature_items feature_written (get_member (codes "features") ms) m.features says.features);
      profiles = holds_at (λ o. AreEntriesAt (λ name. OfTable (IsProfileEntry name)) o m.profiles) (codes "profile") rows (entries (λ (p : Profile). p.name) profile_entry m.profiles) refl
          (entries_written (λ name. OfTable (IsProfileEntry name)) (λ (p : Profile). p.name) profile_entry profile_written (get_member (codes "profile") ms) m.profiles says.profiles);
      workspace = holds_at (λ o. IsTableAt IsWorkspaceTable o m.workspace) (codes "workspace") rows beside refl beside_is;
    }

pub written_read : ReadsWhatIsWritten
written_read ms m h = (documents_read (written m) m).1 (document_written ms m ((documents_read ms m).0 h))
