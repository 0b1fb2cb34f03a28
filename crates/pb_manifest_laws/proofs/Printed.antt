-- What is written of a manifest can be printed: its tables do not nest too deep, their keys ascend, and it has no dates.
use Rattle.std.proofs.Common.{◌≡◌, ◌≤◌, ◌&&◌, if◌then◌else◌, ℕ, suc, max, Bool, pos, true, false, List, [], ◌∷◌, map, codes, Option, Some, None, IfSome, Less, refl, sym, ap, subst, arith}
use Rattle.std.proofs.lemmas.Bool.{and_parts}
use Rattle.std.proofs.lemmas.Bool.Decides.{nat_tests}
use Rattle.std.specs.Cmp.Lexicographic.{slice_cmp}
use Rattle.std.specs.List.{AllByRecursion, slice_get}
use Rattle.std.specs.List.Sorted.{IsStrictlySortedBy}
use Rattle.std.specs.Option.{option_map}
use Rattle.std.specs.Ordering.{nat_cmp, is_lt}
use Rattle.toml.specs.Data.{Data, string, integer, boolean, array, Items, Members, is_before, depth, items_depth, members_depth, has_valid_dates, items_have_valid_dates, members_have_valid_dates, is_sorted, items_are_sorted, members_are_sorted}
use Rattle.toml.specs.View.{items_of}
use Rattle.toml.proofs.ReadBack.{parse_document-printed}
use Rattle.pb_manifest_types.specs.Library.{crate_type_text}
use Rattle.pb_manifest_types.specs.Package.{edition_text}
use Rattle.pb_manifest_types.specs.declared.dependency.Dependency.{Dependency}
use Rattle.pb_manifest_types.specs.declared.dependency.Source.{Source}
use Rattle.pb_manifest_types.specs.declared.dependency.Source.TheVariants as own
use Rattle.pb_manifest_types.specs.declared.dependency.WorkspaceDependency.{WorkspaceDependency}
use Rattle.pb_manifest_types.specs.declared.dependency.WorkspaceSource.{WorkspaceSource}
use Rattle.pb_manifest_types.specs.declared.dependency.WorkspaceSource.TheVariants as shared
use Rattle.pb_manifest_types.specs.declared.feature.Feature.{Feature}
use Rattle.pb_manifest_types.specs.declared.inherited.Inheritable.{Inheritable}
use Rattle.pb_manifest_types.specs.declared.inherited.Inheritable.TheVariants.{Written, Workspace, Absent}
use Rattle.pb_manifest_types.specs.declared.inherited.Inherited.{Inherited}
use Rattle.pb_manifest_types.specs.declared.inherited.Inherited.TheVariants as inherited
use Rattle.pb_manifest_types.specs.declared.manifest.Manifest.{Manifest}
use Rattle.pb_manifest_types.specs.declared.manifest.WorkspacePackage.{WorkspacePackage}
use Rattle.pb_manifest_types.specs.declared.manifest.WorkspaceTable.{WorkspaceTable}
use Rattle.pb_manifest_types.specs.declared.package.Build.{Build}
use Rattle.pb_manifest_types.specs.declared.package.Build.TheVariants as build
use Rattle.pb_manifest_types.specs.declared.package.Edition.{Edition}
use Rattle.pb_manifest_types.specs.declared.package.Package.{Package}
use Rattle.pb_manifest_types.specs.declared.package.Readme.{Readme}
use Rattle.pb_manifest_types.specs.declared.package.Readme.TheVariants as readme
use Rattle.pb_profile_keys.specs.Keys.{Said, says}
use Rattle.pb_profile_keys.specs.Setting.{spelled}
use Rattle.pb_profile_keys.specs.Table.{keys}
use Rattle.pb_profile_keys.specs.declared.key.ProfileKey.{ProfileKey}
use Rattle.pb_profile_keys.specs.declared.setting.Setting.{Setting}
use Rattle.pb_profile_keys.specs.declared.setting.Setting.TheVariants.{Truth, Number, Word}
use Rattle.pb_manifest.specs.Profiles.{setting_in}
use Rattle.pb_manifest_laws.proofs.Profiles.{data_of, setting_back, form_data}
use Rattle.pb_manifest_types.specs.declared.profile.Profile.{Profile}
use Rattle.pb_manifest_types.specs.declared.profile.ProfileOverride.{ProfileOverride}
use Rattle.pb_manifest_types.specs.declared.target.Binary.{Binary}
use Rattle.pb_manifest_types.specs.declared.target.Library.{Library}
use Rattle.pb_manifest.specs.Laws.{item_text}
use Rattle.pb_manifest.specs.Promises.{Ascend, IsProfile, IsWorkspaceTable, IsManifest}
use Rattle.pb_manifest.proofs.Manifests.{manifest_is}
use Rattle.pb_manifest_laws.specs.Laws.{ReadsWhatIsPrinted}
use Rattle.pb_manifest_laws.specs.Packages.{edition, readme_value}
use Rattle.pb_manifest_laws.specs.Profiles.{name_of, forms}
use Rattle.pb_manifest_laws.specs.Values.{texts, members_of}
use Rattle.pb_manifest_laws.specs.Written.{Rows, with_key, members_with, table_with, list, entries, taken, inheritable, inherited_value, build_value, package_rows, library_rows, binary_rows, feature_items, dependency_rows, dependency_entry, shared_rows, shared_entry, first_form, key_row, with_row, profile_rows, settings_table, profile_entry, inherited_rows, workspace_rows, dependencies, document_rows, written}
use Rattle.pb_manifest_laws.proofs.Documents.{manifests_read}
use Rattle.pb_manifest_laws.proofs.Written.{document_written}

-- a value that can be printed, in which tables and lists nest at most so deep
abbrev Plain : ℕ → Data → Type 0
Plain n d = (depth d ≤ n) × (has_valid_dates d ≡ true) × (is_sorted d ≡ true)

abbrev PlainTable : ℕ → Members → Type 0
PlainTable n ms = (members_depth ms ≤ n) × (members_have_valid_dates ms ≡ true) × (members_are_sorted ms ≡ true)

abbrev PlainList : ℕ → Items → Type 0
PlainList n ds = (items_depth ds ≤ n) × (items_have_valid_dates ds ≡ true) × (items_are_sorted ds ≡ true)

abbrev PlainAt : ℕ → Option Data → Type 0
PlainAt n o = IfSome o (Plain n)

greatest : (a b n : ℕ) → a ≤ n → b ≤ n → max a b ≤ n
greatest a b n first second = grind (arith, nat_tests)

one_more : (a n : ℕ) → a ≤ n → suc a ≤ suc n
one_more a n few = omega arith

-- rows whose keys ascend
are_behind : List ℕ → Rows → Bool
are_behind k [] = true
are_behind k (row ∷ rows) = is_lt (slice_cmp nat_cmp k row.0) && are_behind k rows

rows_ascend : Rows → Bool
rows_ascend [] = true
rows_ascend (row ∷ rows) = are_behind row.0 rows && rows_ascend rows

before : (k : List ℕ) (rows : Rows) → are_behind k rows ≡ true → is_before k (members_with rows) ≡ true
unfolding are_behind
before k [] behind = refl
before k (row ∷ rows) behind =
    let (here, later) = and_parts (is_lt (slice_cmp nat_cmp k row.0)) (are_behind k rows) behind in
    by row.1 here (before k rows later)
  where
    by : (o : Option Data) → is_lt (slice_cmp nat_cmp k row.0) ≡ true → is_before k (members_with rows) ≡ true → is_before k (with_key row.0 o (members_with rows)) ≡ true
    by None here later = later
    by (Some d) here later = here

rows_plain : (n : ℕ) (rows : Rows) → AllByRecursion (λ (row : List ℕ × Option Data). PlainAt n row.1) rows → rows_ascend rows ≡ true → PlainTable n (members_with rows)
unfolding rows_ascend
rows_plain n [] all order = (omega arith, refl, refl)
rows_plain n (row ∷ rows) all order =
    let (first, later) = and_parts (are_behind row.0 rows) (rows_ascend rows) order in
    by row.1 all.0 (before row.0 rows first) (rows_plain n rows all.1 later)
  where
    by : (o : Option Data) → PlainAt n o → is_before row.0 (members_with rows) ≡ true → PlainTable n (members_with rows) → PlainTable n (with_key row.0 o (members_with rows))
    by None plain first rest = rest
    by (Some d) plain first rest = (greatest (depth d) (members_depth (members_with rows)) n plain.0 rest.0, λ i. plain.1 i && rest.1 i, λ i. (first i && plain.2 i) && rest.2 i)

table_plain : (n : ℕ) (rows : Rows) → AllByRecursion (λ (row : List ℕ × Option Data). PlainAt n row.1) rows → rows_ascend rows ≡ true → Plain (suc n) (table_with rows)
table_plain n rows all order = let plain = rows_plain n rows all order in (one_more (members_depth (members_with rows)) n plain.0, plain.1, plain.2)

-- what holds of each element
every : {A : Type 0} (P : A → Type 0) → ((x : A) → P x) → (xs : List A) → AllByRecursion P xs
every P all [] = tt
every P all (x ∷ xs) = (all x, every P all xs)

each_of : {A : Type 0} (P Q : A → Type 0) → ((x : A) → P x → Q x) → (xs : List A) → AllByRecursion P xs → AllByRecursion Q xs
each_of P Q so [] are = tt
each_of P Q so (x ∷ xs) are = (so x are.0, each_of P Q so xs are.1)

-- entries whose keys ascend
module _ {A : Type 0} (n : ℕ) (key : A → List ℕ) (write : A → Data) where
  first_key : (k : List ℕ) (xs : List A) → AllByRecursion (λ y. slice_cmp nat_cmp k y ≡ Less) (map key xs) → is_before k (members_of (map (λ x. (key x, write x)) xs)) ≡ true
  first_key k [] behind = refl
  first_key k (x ∷ xs) behind = ap is_lt behind.0

  members_plain : (xs : List A) → AllByRecursion (λ x. Plain n (write x)) xs → Ascend (map key xs) → PlainTable n (members_of (map (λ x. (key x, write x)) xs))
  unfolding IsStrictlySortedBy
  members_plain [] all order = (omega arith, refl, refl)
  members_plain (x ∷ xs) all order =
      let first = first_key (key x) xs order.0 in
      let here = all.0 in
      let rest = members_plain xs all.1 order.1 in
      (greatest (depth (write x)) (members_depth (members_of (map (λ x. (key x, write x)) xs))) n here.0 rest.0, λ i. here.1 i && rest.1 i, λ i. (first i && here.2 i) && rest.2 i)

  entries_plain : (xs : List A) → AllByRecursion (λ x. Plain n (write x)) xs → Ascend (map key xs) → PlainAt (suc n) (entries key write xs)
  entries_plain xs all order = let plain = members_plain xs all order in (one_more (members_depth (members_of (map (λ x. (key x, write x)) xs))) n plain.0, plain.1, plain.2)

-- lists
module _ {A : Type 0} (n : ℕ) (write : A → Data) (each : (x : A) → Plain n (write x)) where
  items_plain : (xs : List A) → PlainList n (items_of (map write xs))
  items_plain [] = (omega arith, refl, refl)
  items_plain (x ∷ xs) =
      let here = each x in
      let rest = items_plain xs in
      (greatest (depth (write x)) (items_depth (items_of (map write xs))) n here.0 rest.0, λ i. here.1 i && rest.1 i, λ i. here.2 i && rest.2 i)

  list_plain : (xs : List A) → Plain (suc n) (array (items_of (map write xs)))
  list_plain xs = let plain = items_plain xs in (one_more (items_depth (items_of (map write xs))) n plain.0, plain.1, plain.2)

-- a value that may be left out
given : {A : Type 0} (n : ℕ) (write : A → Data) → ((x : A) → Plain n (write x)) → (o : Option A) → PlainAt n (option_map write o)
given n write each None = tt
given n write each (Some x) = each x

text_plain : (n : ℕ) (t : List ℕ) → Plain n (string t)
text_plain n t = (omega arith, refl, refl)

truth_plain : (n : ℕ) (b : Bool) → Plain n (boolean b)
truth_plain n b = (omega arith, refl, refl)

texts_plain : (n : ℕ) (ts : List (List ℕ)) → Plain (suc n) (texts ts)
texts_plain n ts = list_plain n (λ t. string t) (text_plain n) ts

taken_plain : (n : ℕ) → Plain (suc n) taken
taken_plain n = (omega arith, refl, refl)

inheritable_plain : {A : Type 0} (n : ℕ) (write : A → Data) → ((x : A) → Plain (suc n) (write x)) → (x : Inheritable A) → PlainAt (suc n) (inheritable write x)
inheritable_plain n write each (Written x) = each x
inheritable_plain n write each Workspace = taken_plain n
inheritable_plain n write each Absent = tt

inherited_plain : {A : Type 0} (n : ℕ) (write : A → Data) → ((x : A) → Plain (suc n) (write x)) → (x : Inherited A) → PlainAt (suc n) (inherited_value write x)
inherited_plain n write each (inherited.Written x) = each x
inherited_plain n write each inherited.Workspace = taken_plain n

build_plain : (n : ℕ) (b : Build) → PlainAt n (build_value b)
build_plain n build.Discovered = tt
build_plain n build.Standard = truth_plain n true
build_plain n build.Never = truth_plain n false
build_plain n (build.At path) = text_plain n path

readme_plain : (n : ℕ) (r : Readme) → Plain n (readme_value r)
readme_plain n readme.Standard = truth_plain n true
readme_plain n readme.Never = truth_plain n false
readme_plain n (readme.At path) = text_plain n path

edition_plain : (n : ℕ) (e : Edition) → Plain n (edition e)
edition_plain n e = text_plain n (edition_text e)

-- each table
package_plain : (p : Package) → Plain 2 (table_with (package_rows p))
unfolding are_behind rows_ascend
package_plain p = table_plain 1 (package_rows p) (
  inheritable_plain 0 texts (texts_plain 0) p.authors,
  (
    truth_plain 1 p.autobins,
    (
      build_plain 1 p.build,
      (
        own_text p.description,
        (
          inherited_plain 0 edition (edition_plain 1) p.edition,
          (
            own_text p.homepage,
            (
              own_text p.license,
              (
                own_text p.license_file,
                (
                  given 1 (λ t. string t) (text_plain 1) p.links,
                  (
                    text_plain 1 p.name,
                    (inheritable_plain 0 readme_value (readme_plain 1) p.readme, (own_text p.repository, (own_text p.rust_version, (inherited_plain 0 (λ t. string t) (text_plain 1) p.version, tt)))),
                  ),
                ),
              ),
            ),
          ),
        ),
      ),
    ),
  ),
) refl
  where
    own_text : (x : Inheritable (List ℕ)) → PlainAt 1 (inheritable (λ t. string t) x)
    own_text x = inheritable_plain 0 (λ t. string t) (text_plain 1) x

library_plain : (l : Library) → Plain 2 (table_with (library_rows l))
unfolding are_behind rows_ascend
library_plain l = table_plain 1 (library_rows l) (list_plain 0 (λ t. string (crate_type_text t)) (λ t. text_plain 0 (crate_type_text t)) l.crate_types, (given 1 (λ t. string t) (text_plain 1) l.name, (given 1 (λ t. string t) (text_plain 1) l.path, tt))) refl

binary_plain : (b : Binary) → Plain 2 (table_with (binary_rows b))
unfolding are_behind rows_ascend
binary_plain b = table_plain 1 (binary_rows b) (text_plain 1 b.name, (given 1 (λ t. string t) (text_plain 1) b.path, (list_plain 0 (λ t. string t) (text_plain 0) b.required_features, tt))) refl

feature_plain : (f : Feature) → Plain 1 (feature_items f)
feature_plain f = list_plain 0 (λ i. string (item_text i)) (λ i. text_plain 0 (item_text i)) f.items

dependency_plain : (d : Dependency) → Plain 2 (dependency_entry d)
unfolding are_behind rows_ascend
dependency_plain d = by d.source
  where
    by : (s : Source) → Plain 2 (table_with (dependency_rows s d.features d.optional))
    by (own.Workspace default) = table_plain 1 (dependency_rows (own.Workspace default) d.features d.optional) (truth_plain 1 default, (list_plain 0 (λ t. string t) (text_plain 0) d.features, (truth_plain 1 d.optional, (truth_plain 1 true, tt)))) refl
    by (own.Path s) = table_plain 1 (dependency_rows (own.Path s) d.features d.optional) (
      truth_plain 1 s.default_features,
      (list_plain 0 (λ t. string t) (text_plain 0) d.features, (truth_plain 1 d.optional, (given 1 (λ t. string t) (text_plain 1) s.package, (text_plain 1 s.path, (given 1 (λ t. string t) (text_plain 1) s.version, tt))))),
    ) refl

shared_plain : (d : WorkspaceDependency) → Plain 2 (shared_entry d)
unfolding are_behind rows_ascend
shared_plain d = by d.source
  where
    by : (s : WorkspaceSource) → Plain 2 (table_with (shared_rows s d.features))
    by shared.Unsupported = table_plain 1 (shared_rows shared.Unsupported d.features) (list_plain 0 (λ t. string t) (text_plain 0) d.features, tt) refl
    by (shared.Path s) = table_plain 1 (shared_rows (shared.Path s) d.features) (
      truth_plain 1 s.default_features,
      (list_plain 0 (λ t. string t) (text_plain 0) d.features, (given 1 (λ t. string t) (text_plain 1) s.package, (text_plain 1 s.path, (given 1 (λ t. string t) (text_plain 1) s.version, tt)))),
    ) refl

-- the first form of what a profile sets
number_plain : (n k : ℕ) → Plain n (integer (pos k))
number_plain n k = (omega arith, refl, refl)

data_plain : (n : ℕ) (x : Setting) → Plain n (data_of x)
data_plain n (Truth b) = truth_plain n b
data_plain n (Number k) = number_plain n k
data_plain n (Word w) = text_plain n (spelled w)

key_plain : (n : ℕ) (k : ProfileKey) (value : Option Setting) → PlainAt n (first_form (forms k) value)
key_plain n k None = tt
key_plain n k (Some x) = by (forms k x) (setting_back k x)
  where
    by : (ds : List Data) → AllByRecursion (λ d. setting_in k d ≡ Some x) ds → PlainAt n (slice_get ds 0)
    by [] read = tt
    by (d ∷ ds) read = let (w, is) = form_data k x d read.0 in subst (Plain n) (sym is) (data_plain n w)

-- a row more
with_row_all : (P : List ℕ × Option Data → Type 0) (row : List ℕ × Option Data) (rows : Rows) → P row → AllByRecursion P rows → AllByRecursion P (with_row row rows)
with_row_all P row [] here all = (here, tt)
with_row_all P row (other ∷ rows) here all = by (is_lt (slice_cmp nat_cmp row.0 other.0)) (with_row_all P row rows here all.1)
  where
    by : (b : Bool) → AllByRecursion P (with_row row rows) → AllByRecursion P (if b then row ∷ other ∷ rows else other ∷ with_row row rows)
    by true later = (here, all)
    by false later = (all.0, later)

keys_plain : (n : ℕ) (said : Said) (ks : List ProfileKey) → AllByRecursion (λ (row : List ℕ × Option Data). PlainAt n row.1) (map (key_row said) ks)
keys_plain n said [] = tt
keys_plain n said (k ∷ ks) = (key_plain n k (says said k), keys_plain n said ks)

settings_plain : (n : ℕ) (override : Option Data) (inherits : Option (List ℕ)) (packages : Option Data) (said : Said) → PlainAt n override → PlainAt n packages → Plain (suc n) (table_with (profile_rows override inherits packages said))
unfolding are_behind rows_ascend
settings_plain n override inherits packages said override_is packages_are =
    let P = λ (row : List ℕ × Option Data). PlainAt n row.1 in
    let key_rows = map (key_row said) keys in
    table_plain n (profile_rows override inherits packages said)
    (with_row_all P (codes "build-override", override) (with_row (codes "inherits", option_map (λ t. string t) inherits) (with_row (codes "package", packages) key_rows)) override_is
    (with_row_all P (codes "inherits", option_map (λ t. string t) inherits) (with_row (codes "package", packages) key_rows) (given n (λ t. string t) (text_plain n) inherits)
    (with_row_all P (codes "package", packages) key_rows packages_are (keys_plain n said keys)))) refl

alone_plain : (keys : Said) → Plain 1 (settings_table keys)
alone_plain keys = settings_plain 0 None None None keys tt tt

deeper : (m n : ℕ) (o : Option Data) → m ≤ n → PlainAt m o → PlainAt n o
deeper m n None more plain = tt
deeper m n (Some d) more plain = (within (depth d) m n plain.0 more, plain.1, plain.2)
  where
    within : (a m n : ℕ) → a ≤ m → m ≤ n → a ≤ n
    within a m n first more = omega arith

override_plain : (o : ProfileOverride) → Plain 1 (settings_table o.keys)
override_plain o = alone_plain o.keys

profile_plain : (p : Profile) → Ascend (map (λ (o : ProfileOverride). o.name) p.packages) → Plain 3 (profile_entry p)
profile_plain p order =
    settings_plain 2 (option_map settings_table p.build_override) p.inherits (entries (λ (o : ProfileOverride). o.name) (λ o. settings_table o.keys) p.packages) p.keys
    (deeper 1 2 (option_map settings_table p.build_override) (omega arith) (given 1 settings_table alone_plain p.build_override)) (entries_plain 1 (λ (o : ProfileOverride). o.name) (λ o. settings_table o.keys) p.packages (every (λ o. Plain 1 (settings_table o.keys)) override_plain p.packages) order)

inherited_rows_plain : (w : WorkspacePackage) → Plain 2 (table_with (inherited_rows w))
unfolding are_behind rows_ascend
inherited_rows_plain w = table_plain 1 (inherited_rows w) (
  given 1 texts (texts_plain 0) w.authors,
  (own_text w.description, (given 1 edition (edition_plain 1) w.edition, (own_text w.homepage, (own_text w.license, (own_text w.license_file, (given 1 readme_value (readme_plain 1) w.readme, (own_text w.repository, (own_text w.rust_version, (own_text w.version, tt))))))))),
) refl
  where
    own_text : (x : Option (List ℕ)) → PlainAt 1 (option_map (λ t. string t) x)
    own_text x = given 1 (λ t. string t) (text_plain 1) x

workspace_plain : (w : WorkspaceTable) → Ascend (map (λ (d : WorkspaceDependency). d.key) w.dependencies) → Plain 4 (table_with (workspace_rows w))
unfolding are_behind rows_ascend
workspace_plain w order = table_plain 3 (workspace_rows w) (
  given 3 texts (texts_plain 2) w.default_members,
  (
    entries_plain 2 (λ (d : WorkspaceDependency). d.key) shared_entry w.dependencies (every (λ d. Plain 2 (shared_entry d)) shared_plain w.dependencies) order,
    (
      list_plain 2 (λ t. string t) (text_plain 2) w.exclude,
      (
        list_plain 2 (λ t. string t) (text_plain 2) w.members,
        (deeper 2 3 (option_map (λ p. table_with (inherited_rows p)) w.package) (omega arith) (given 2 (λ p. table_with (inherited_rows p)) inherited_rows_plain w.package), tt),
      ),
    ),
  ),
) refl

-- the document; the keys of its tables ascend, as they did where it was read
all_named : (keys : List (List ℕ)) → map (λ key. key) keys ≡ keys
all_named [] = refl
all_named (key ∷ keys) = ap (λ more. key ∷ more) (all_named keys)

workspace_at : (o : Option WorkspaceTable) → IfSome o IsWorkspaceTable → PlainAt 4 (option_map (λ w. table_with (workspace_rows w)) o)
workspace_at None is = tt
workspace_at (Some w) is = workspace_plain w is.dependencies.order

document_plain : (m : Manifest) → IsManifest m → PlainTable 4 (written m)
unfolding are_behind rows_ascend
document_plain m is = rows_plain 4 (document_rows m) (
  deeper 3 4 (list (λ b. table_with (binary_rows b)) m.binaries) (omega arith) (list_plain 2 (λ b. table_with (binary_rows b)) binary_plain m.binaries),
  (
    deeper 3 4 (dependencies m.build_dependencies) (omega arith) (their_entries m.build_dependencies is.build_dependencies.order),
    (
      deeper 3 4 (dependencies m.dependencies) (omega arith) (their_entries m.dependencies is.dependencies.order),
      (
        entries_plain 3 (λ key. key) (λ key. boolean true) m.dev_dependencies (every (λ key. Plain 3 (boolean true)) (λ key. truth_plain 3 true) m.dev_dependencies) (subst Ascend (sym (all_named m.dev_dependencies)) is.dev_dependencies),
        (
          deeper 2 4 (entries (λ (f : Feature). f.name) feature_items m.features) (omega arith)
              (entries_plain 1 (λ (f : Feature). f.name) feature_items m.features (every (λ f. Plain 1 (feature_items f)) feature_plain m.features) is.features.order),
          (
            deeper 2 4 (option_map (λ l. table_with (library_rows l)) m.library) (omega arith) (given 2 (λ l. table_with (library_rows l)) library_plain m.library),
            (
              deeper 2 4 (option_map (λ p. table_with (package_rows p)) m.package) (omega arith) (given 2 (λ p. table_with (package_rows p)) package_plain m.package),
              (
                entries_plain 3 (λ (p : Profile). p.name) profile_entry m.profiles (each_of IsProfile (λ p. Plain 3 (profile_entry p)) (λ p one. profile_plain p one.packages.order) m.profiles is.profiles.each) is.profiles.order,
                (workspace_at m.workspace is.workspace, tt),
              ),
            ),
          ),
        ),
      ),
    ),
  ),
) refl
  where
    their_entries : (ds : List Dependency) → Ascend (map (λ (d : Dependency). d.key) ds) → PlainAt 3 (dependencies ds)
    their_entries ds order = entries_plain 2 (λ (d : Dependency). d.key) dependency_entry ds (every (λ d. Plain 2 (dependency_entry d)) dependency_plain ds) order

pub printed_read : ReadsWhatIsPrinted
printed_read bytes m was pretty text printed is_text few =
    let plain = document_plain m (manifest_is bytes m was) in
    let are = (manifests_read bytes m).0 was in
    (manifests_read text m).1 (record {
      few = few;
      text = is_text;
      document = written m;
      parsed = parse_document-printed pretty (written m) text printed (no_more (members_depth (written m)) plain.0) plain.1 plain.2;
      says = document_written are.document m are.says;
    })
  where
    no_more : (n : ℕ) → n ≤ 4 → n ≤ 80
    no_more n few = omega arith
