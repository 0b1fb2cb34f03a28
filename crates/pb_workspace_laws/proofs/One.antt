-- There is one workspace that is what its manifests and their folders say.
use Rattle.std.proofs.Common.{inl, inr, ◌≡◌, ◌↔◌, ◌∙◌, codes, ℕ, Bool, true, false, not, List, [], ◌∷◌, ◌++◌, map, Contains, Option, Some, unwrap_or, slice_get, Less, refl, sym, ap, subst}
use Rattle.std.proofs.lemmas.List.{map-id}
use Rattle.std.proofs.lemmas.Option.{slice_get-map}
use Rattle.std.specs.List.{AllZip, position}
use Rattle.std.specs.List.Sorted.{IsStrictlySortedBy}
use Rattle.std.specs.Option.{option_map}
use Rattle.std.specs.Str.{bytes_eq}
use Rattle.pb_graph.proofs.Membership.{none, head, tail, cases}
use Rattle.pb_manifest_types.specs.declared.dependency.Dependency.{Dependency}
use Rattle.pb_manifest_types.specs.declared.dependency.PathSource.{PathSource}
use Rattle.pb_manifest_types.specs.declared.dependency.WorkspaceDependency.{WorkspaceDependency}
use Rattle.pb_manifest_types.specs.declared.feature.Feature.{Feature}
use Rattle.pb_manifest_types.specs.declared.inherited.Inheritable.{Inheritable}
use Rattle.pb_manifest_types.specs.declared.inherited.Inheritable.TheVariants as text
use Rattle.pb_manifest_types.specs.declared.inherited.Inherited.{Inherited}
use Rattle.pb_manifest_types.specs.declared.inherited.Inherited.TheVariants as key
use Rattle.pb_manifest_types.specs.declared.manifest.Manifest.{Manifest}
use Rattle.pb_manifest_types.specs.declared.manifest.WorkspacePackage.{WorkspacePackage}
use Rattle.pb_manifest_types.specs.declared.package.Package.{Package as Written}
use Rattle.pb_manifest.proofs.Manifests.{manifest_is}
use Rattle.pb_workspace_types.specs.declared.package.About.{About}
use Rattle.pb_workspace_types.specs.declared.package.Binary.{Binary}
use Rattle.pb_workspace_types.specs.declared.package.DependencyKind.{DependencyKind}
use Rattle.pb_workspace_types.specs.declared.package.DependencyKind.TheVariants.{Normal, Build as ForScript}
use Rattle.pb_workspace_types.specs.declared.package.Entry.{Entry}
use Rattle.pb_workspace_types.specs.declared.package.Package.{Package}
use Rattle.pb_workspace_types.specs.declared.workspace.Workspace.{Workspace}
use Rattle.pb_place_types.specs.Paths.{below}
use Rattle.pb_place_types.specs.World.{World, FilesHavePaths}
use Rattle.pb_workspace.specs.Assembled.{default_members_of}
use Rattle.pb_workspace.specs.Frames.{given_to}
use Rattle.pb_workspace.specs.declared.workspace_root.WorkspaceRoot.{WorkspaceRoot}
use Rattle.pb_workspace_package.specs.declared.settling.Given.{Given}
use Rattle.pb_workspace_laws.specs.Binaries.{IsBinary, HasBinaries}
use Rattle.pb_workspace_laws.specs.Files.{first_file, IsManifestAt}
use Rattle.pb_workspace_laws.specs.Laws.{frame_in, IsWorkspaceOf, WorkspacesAreOne}
use Rattle.pb_workspace_laws.specs.Members.{IsMember}
use Rattle.pb_workspace_laws.specs.Packages.{IsOwnOrTaken, IsText, IsPlainText, from_member, with_colons, library, script, IsEntry, IsPackageOf}
use Rattle.pb_workspace_laws.proofs.Folders.{Keyed, keyed_so, asks_one}
use Rattle.pb_workspace_laws.proofs.Keys.{IsAbout, own_readme, taken_readme}
use Rattle.pb_workspace_laws.proofs.Reading.{one_manifest}
use Rattle.pb_workspace_laws.proofs.Sorting.{Rises, below_apart, below_through, cmp, in_all, same_index}

-- lists in byte order of their keys with the same elements are one
ahead : {A : Type 0} (of : A → List ℕ) (x y : A) (xs ys : List A) → Rises (map of (x ∷ xs)) → Rises (map of (y ∷ ys)) → Contains (y ∷ ys) x → Contains (x ∷ xs) y → x ≡ y
unfolding IsStrictlySortedBy
ahead of x y xs ys up down first second = elim (cases y ys x first) [
  | inl here ↦ sym here
  | inr later ↦ (elim (cases x xs y second) [
    | inl there ↦ there
    | inr behind ↦ absurd (both (in_all of (λ z. cmp (of y) z ≡ Less) ys x down.0 later) (in_all of (λ z. cmp (of x) z ≡ Less) xs y up.0 behind))
  ])
]
  where
    both : cmp (of y) (of x) ≡ Less → cmp (of x) (of y) ≡ Less → ⊥
    both one other = below_apart (of y) (of y) (below_through (of y) (of x) (of y) one other) refl

pub one_list : {A : Type 0} (of : A → List ℕ) (xs ys : List A) → Rises (map of xs) → Rises (map of ys) → ((x : A) → Contains xs x ↔ Contains ys x) → xs ≡ ys
unfolding IsStrictlySortedBy
one_list of [] [] up down same = refl
one_list of [] (y ∷ ys) up down same = absurd (none y ((same y).1 (head y ys)))
one_list of (x ∷ xs) [] up down same = absurd (none x ((same x).0 (head x xs)))
one_list {A} of (x ∷ xs) (y ∷ ys) up down same =
    let first : x ≡ y = ahead of x y xs ys up down ((same x).0 (head x xs)) ((same y).1 (head y ys)) in
    ap (λ z. z ∷ xs) first ∙ ap (λ zs. y ∷ zs) (one_list of xs ys up.1 down.1 rest)
  where
    without : (a b : A) (cs bs : List A) → Rises (map of (a ∷ cs)) → a ≡ b → ((z : A) → Contains (a ∷ cs) z → Contains (b ∷ bs) z) → (z : A) → Contains cs z → Contains bs z
    without a b cs bs rises first into z there = elim (cases b bs z (into z (tail a cs z there))) [
      | inl here ↦ absurd (below_apart (of a) (of z) (in_all of (λ k. cmp (of a) k ≡ Less) cs z rises.0 there) (ap of (sym here ∙ sym first)))
      | inr later ↦ later
    ]

    rest : (z : A) → Contains xs z ↔ Contains ys z
    rest z =
        let first : x ≡ y = ahead of x y xs ys up down ((same x).0 (head x xs)) ((same y).1 (head y ys)) in
        (without x y xs ys up first (λ k. (same k).0) z, without y x ys xs down (sym first) (λ k. (same k).1) z)

-- lists with the same keys are one where things of one key are
pub one_each : {A B : Type 0} (of : A → B) (xs ys : List A) → map of xs ≡ map of ys → ((x y : A) → Contains xs x → Contains ys y → of x ≡ of y → x ≡ y) → xs ≡ ys
one_each of [] [] same each = refl
one_each of [] (y ∷ ys) same each = cc
one_each of (x ∷ xs) [] same each = cc
one_each of (x ∷ xs) (y ∷ ys) same each =
    let first : of x ≡ of y = cc in
    let later : map of xs ≡ map of ys = cc in
    ap (λ z. z ∷ xs) (each x y (head x xs) (head y ys) first) ∙ ap (λ zs. y ∷ zs) (one_each of xs ys later (λ a b there other. each a b (tail x xs a there) (tail y ys b other)))

-- two truth values that say the same
one_truth : (a b : Bool) (P : Type 0) → (a ≡ true) ↔ P → (b ≡ true) ↔ P → a ≡ b
one_truth true true P one other = refl
one_truth true false P one other = let no : false ≡ true = other.1 (one.0 refl) in cc
one_truth false true P one other = let no : false ≡ true = one.1 (other.0 refl) in cc
one_truth false false P one other = refl

-- keys
one_own : {A : Type 0} (i : Inherited A) (given : Option A) (x y : A) → IsOwnOrTaken i given x → IsOwnOrTaken i given y → x ≡ y
one_own (key.Written z) given x y one other = one ∙ sym other
one_own key.Workspace given x y one other = let both : Some x ≡ Some y = sym one ∙ other in cc

one_text : {A : Type 0} (own taken : A → List ℕ) (absent : List ℕ) (i : Inheritable A) (given : Option A) (x y : List ℕ) → IsText own taken absent i given x → IsText own taken absent i given y → x ≡ y
one_text own taken absent (text.Written z) given x y one other = one ∙ sym other
one_text own taken absent text.Workspace given x y one other =
    let both : Some one.0 ≡ Some other.0 = sym one.1 ∙ other.1 in
    let same : one.0 ≡ other.0 = cc in
    one.2 ∙ ap taken same ∙ sym other.2
one_text own taken absent text.Absent given x y one other = one ∙ sym other

-- entries
module _ (root folder : List ℕ) (entries : List WorkspaceDependency) (up : Keyed entries) (v w : Workspace) (v_up : Rises (map (λ (p : Package). p.folder) v.packages))
    (folders : map (λ (p : Package). p.folder) v.packages ≡ map (λ (p : Package). p.folder) w.packages) where
  one_entry : (kind : DependencyKind) (d : Dependency) (x y : Entry) → IsEntry root folder entries v kind d x → IsEntry root folder entries w kind d y → x ≡ y
  one_entry kind d x y one other =
      let asked = asks_one root folder entries up d one.found.folder other.found.folder one.s other.s x.default_features y.default_features x.features y.features one.asks other.asks in
      let key_same : x.key ≡ y.key = one.key_is ∙ sym other.key_is in
      let name_same : one.found.name ≡ other.found.name = one.name ∙ ap (λ (s : PathSource). unwrap_or s.package x.key) asked.source_is ∙ ap (λ k. unwrap_or other.s.package k) key_same ∙ sym other.name in
      let at_one : slice_get (map (λ (p : Package). p.folder) v.packages) x.to ≡ Some one.found.folder = slice_get-map (λ (p : Package). p.folder) v.packages x.to ∙ ap (option_map (λ (p : Package). p.folder)) one.there in
      let at_other : slice_get (map (λ (p : Package). p.folder) v.packages) y.to ≡ Some other.found.folder =
      ap (λ xs. slice_get xs y.to) folders ∙ slice_get-map (λ (p : Package). p.folder) w.packages y.to ∙ ap (option_map (λ (p : Package). p.folder)) other.there in
      let rises : Rises (map (λ z. z) (map (λ (p : Package). p.folder) v.packages)) = subst Rises (sym (map-id (map (λ (p : Package). p.folder) v.packages))) v_up in
      let to_same : x.to ≡ y.to = same_index (λ z. z) (map (λ (p : Package). p.folder) v.packages) x.to y.to one.found.folder other.found.folder rises at_one at_other asked.to_is in
      let kind_same : x.kind ≡ y.kind = one.kind_is ∙ sym other.kind_is in
      let renamed_same : x.renamed ≡ y.renamed = one.renamed ∙ ap (λ n. not (bytes_eq n x.key)) name_same ∙ ap (λ k. not (bytes_eq other.found.name k)) key_same ∙ sym other.renamed in
      let optional_same : x.optional ≡ y.optional = one.optional ∙ sym other.optional in
      let default_same : x.default_features ≡ y.default_features = asked.default_is in
      let features_same : x.features ≡ y.features = asked.features_are in
      λ i. record { key = key_same i; kind = kind_same i; to = to_same i; renamed = renamed_same i; optional = optional_same i; default_features = default_same i; features = features_same i }

  one_for_one : (asked : List (DependencyKind × Dependency)) (xs ys : List Entry) → AllZip (λ (a : DependencyKind × Dependency) e. IsEntry root folder entries v a.0 a.1 e) asked xs
      → AllZip (λ (a : DependencyKind × Dependency) e. IsEntry root folder entries w a.0 a.1 e) asked ys → xs ≡ ys
  one_for_one [] [] [] one other = refl
  one_for_one [] [] (y ∷ ys) one other = absurd other
  one_for_one [] (x ∷ xs) ys one other = absurd one
  one_for_one (a ∷ asked) [] ys one other = absurd one
  one_for_one (a ∷ asked) (x ∷ xs) [] one other = absurd other
  one_for_one (a ∷ asked) (x ∷ xs) (y ∷ ys) one other = ap (λ z. z ∷ xs) (one_entry a.0 a.1 x y one.0 other.0) ∙ ap (λ zs. y ∷ zs) (one_for_one asked xs ys one.1 other.1)

-- the dependencies of both tables
abbrev asked_in : Manifest → List (DependencyKind × Dependency)
asked_in m = map (λ d. (Normal, d)) m.dependencies ++ map (λ d. (ForScript, d)) m.build_dependencies

-- packages
one_about : (sources : World) (root folder : List ℕ) (given : WorkspacePackage) (t : Written) (x y : About) → IsAbout sources root folder t given x → IsAbout sources root folder t given y → x ≡ y
one_about sources root folder given t x y one other =
    let authors : x.authors ≡ y.authors = one_text with_colons with_colons [] t.authors given.authors x.authors y.authors one.authors other.authors in
    let description : x.description ≡ y.description = plain t.description given.description x.description y.description one.description other.description in
    let homepage : x.homepage ≡ y.homepage = plain t.homepage given.homepage x.homepage y.homepage one.homepage other.homepage in
    let license : x.license ≡ y.license = plain t.license given.license x.license y.license one.license other.license in
    let license_file : x.license_file ≡ y.license_file = one_text (λ path. path) (from_member root folder) [] t.license_file given.license_file x.license_file y.license_file one.license_file other.license_file in
    let readme : x.readme ≡ y.readme =
    one_text own_readme (taken_readme root folder) (unwrap_or (first_file sources folder (codes "README.md" ∷ codes "README.txt" ∷ codes "README" ∷ [])) []) t.readme given.readme x.readme y.readme one.readme other.readme in
    let repository : x.repository ≡ y.repository = plain t.repository given.repository x.repository y.repository one.repository other.repository in
    let rust_version : x.rust_version ≡ y.rust_version = plain t.rust_version given.rust_version x.rust_version y.rust_version one.rust_version other.rust_version in
    λ i. record {
      authors = authors i;
      description = description i;
      homepage = homepage i;
      license = license i;
      license_file = license_file i;
      readme = readme i;
      repository = repository i;
      rust_version = rust_version i;
    }
  where
    plain : (i : Inheritable (List ℕ)) (given : Option (List ℕ)) (x y : List ℕ) → IsPlainText i given x → IsPlainText i given y → x ≡ y
    plain = one_text (λ x. x) (λ x. x) []

-- what is said of a package, with its folder apart
record IsIn (sources : World) (root : List ℕ) (given : Given) (ws : Workspace) (m : Manifest) (t : Written) (folder : List ℕ) (p : Package) : Type 0 where
  about : IsAbout sources root folder t given.package p.about
  library_is : p.library ≡ library sources folder t.name m.library
  script_is : p.script ≡ script sources folder t.build
  entries : AllZip (λ (a : DependencyKind × Dependency) e. IsEntry root folder given.dependencies ws a.0 a.1 e) (asked_in m) p.entries

is_in : (sources : World) (root : List ℕ) (given : Given) (ws : Workspace) (m : Manifest) (t : Written) (p : Package) → IsPackageOf sources root given ws m t p → IsIn sources root given ws m t p.folder p
is_in sources root given ws m t p is = record {
  about = record {
    authors = is.authors;
    description = is.description;
    homepage = is.homepage;
    license = is.license;
    license_file = is.license_file;
    readme = is.readme;
    repository = is.repository;
    rust_version = is.rust_version;
  };
  library_is = is.library_is;
  script_is = is.script_is;
  entries = is.entries;
}

module _ (sources : World) (root : List ℕ) (v w : Workspace) (v_up : Rises (map (λ (p : Package). p.folder) v.packages)) (folders : map (λ (p : Package). p.folder) v.packages ≡ map (λ (p : Package). p.folder) w.packages)
    (given : Given) (up : Keyed given.dependencies) (m : Manifest) (t : Written) where
  one_package : (p q : Package) → p.folder ≡ q.folder → p.manifest ≡ q.manifest → p.is_member ≡ q.is_member → p.binaries ≡ q.binaries → IsPackageOf sources root given v m t p → IsPackageOf sources root given w m t q → p ≡ q
  one_package p q folder manifest is_member binaries one other =
      let a = is_in sources root given v m t p one in
      let b = subst (λ x. IsIn sources root given w m t x q) (sym folder) (is_in sources root given w m t q other) in
      let name : p.name ≡ q.name = one.name ∙ sym other.name in
      let version : p.version ≡ q.version = one_own t.version given.package.version p.version q.version one.version other.version in
      let edition : p.edition ≡ q.edition = one_own t.edition given.package.edition p.edition q.edition one.edition other.edition in
      let about : p.about ≡ q.about = one_about sources root p.folder given.package t p.about q.about a.about b.about in
      let links : p.links ≡ q.links = one.links ∙ sym other.links in
      let library : p.library ≡ q.library = a.library_is ∙ sym b.library_is in
      let script : p.script ≡ q.script = a.script_is ∙ sym b.script_is in
      let features : p.features ≡ q.features =
      one_list (λ (f : Feature). f.name) p.features q.features one.features_order other.features_order (λ f. (λ there. (other.features f).1 ((one.features f).0 there), λ there. (one.features f).1 ((other.features f).0 there))) in
      let entries : p.entries ≡ q.entries = one_for_one root p.folder given.dependencies up v w v_up folders (asked_in m) p.entries q.entries a.entries b.entries in
      let development : p.development ≡ q.development = one.development ∙ sym other.development in
      λ i. record {
        name = name i;
        version = version i;
        edition = edition i;
        folder = folder i;
        manifest = manifest i;
        is_member = is_member i;
        about = about i;
        links = links i;
        library = library i;
        binaries = binaries i;
        script = script i;
        entries = entries i;
        features = features i;
        development = development i;
      }

-- the workspace
module _ (sources : World) (manifest : List ℕ) (r : Manifest) (v w : Workspace) (paths : FilesHavePaths sources) (one : IsWorkspaceOf sources manifest r v) (other : IsWorkspaceOf sources manifest r w) where
  abbrev f : WorkspaceRoot
  f = frame_in manifest r

  abbrev folder : Package → List ℕ
  folder p = p.folder

  taken_up : (b : Bool) → Keyed (given_to f b).dependencies
  unfolding IsStrictlySortedBy
  taken_up true = keyed_so manifest r.workspace (manifest_is one.read.bytes r one.read.says).workspace
  taken_up false = tt

  folders_so : map folder v.packages ≡ map folder w.packages
  folders_so =
      let as_keys : (ps : List Package) → Rises (map folder ps) → Rises (map (λ z. z) (map folder ps)) = (λ ps up. subst Rises (sym (map-id (map folder ps))) up) in
      one_list (λ z. z) (map folder v.packages) (map folder w.packages) (as_keys v.packages one.order) (as_keys w.packages other.order)
      (λ x. (λ there. (other.folders x).1 ((one.folders x).0 there), λ there. (one.folders x).1 ((other.folders x).0 there)))

  each_one : (p q : Package) → Contains v.packages p → Contains w.packages q → p.folder ≡ q.folder → p ≡ q
  each_one p q there other_there same =
      let a = one.packages p there in
      let b = other.packages q other_there in
      let manifests : p.manifest ≡ q.manifest = a.manifest ∙ ap (λ x. below x (codes "Cargo.toml")) same ∙ sym b.manifest in
      let own : b.own ≡ a.own = one_manifest sources p.manifest b.own a.own (subst (λ x. IsManifestAt sources x b.own) (sym manifests) b.read) a.read in
      let tables : Some b.written ≡ Some a.written = sym b.is_package ∙ ap (λ (m : Manifest). m.package) own ∙ a.is_package in
      let written : b.written ≡ a.written = cc in
      let is_member : q.is_member ≡ p.is_member = one_truth q.is_member p.is_member (IsMember sources f p.folder) (subst (λ x. (q.is_member ≡ true) ↔ IsMember sources f x) (sym same) b.member) a.member in
      let says : IsPackageOf sources f.root (given_to f p.is_member) w a.own a.written q = subst (λ t. IsPackageOf sources f.root (given_to f p.is_member) w a.own t q) written
      (subst (λ m. IsPackageOf sources f.root (given_to f p.is_member) w m b.written q) own (subst (λ c. IsPackageOf sources f.root (given_to f c) w b.own b.written q) is_member b.says)) in
      let had : HasBinaries sources a.own a.written q = subst (λ t. HasBinaries sources a.own t q) written (subst (λ m. HasBinaries sources m b.written q) own (b.binaries paths)) in
      let has = a.binaries paths in
      let binaries : p.binaries ≡ q.binaries = one_list (λ (x : Binary). x.name) p.binaries q.binaries has.order had.order
      (λ x. (λ is. (had.are x).1 (subst (λ y. IsBinary sources y a.own a.written x) same ((has.are x).0 is)), λ is. (has.are x).1 (subst (λ y. IsBinary sources y a.own a.written x) (sym same) ((had.are x).0 is)))) in
      one_package sources f.root v w one.order folders_so (given_to f p.is_member) (taken_up p.is_member) a.own a.written p q same manifests (sym is_member) binaries a.says says

  packages_so : v.packages ≡ w.packages
  packages_so = one_each folder v.packages w.packages folders_so each_one

  root_so : v.root ≡ w.root
  root_so = one.root ∙ sym other.root

  index_so : v.root_package ≡ w.root_package
  index_so = one.root_package ∙ (λ i. position (λ (p : Package). bytes_eq p.folder (root_so i)) (packages_so i)) ∙ sym other.root_package

  members_so : v.default_members ≡ w.default_members
  members_so = one.default_members ∙ ap (λ x. default_members_of x v.packages f.default_members) root_so ∙ ap (λ ps. default_members_of w.root ps f.default_members) packages_so ∙ sym other.default_members

  whole_so : v.target ≡ w.target → v ≡ w
  whole_so target =
      let profiles : v.profiles ≡ w.profiles = one.profiles ∙ sym other.profiles in
      λ i. record { root = root_so i; target = target i; packages = packages_so i; root_package = index_so i; default_members = members_so i; profiles = profiles i }

pub workspaces_are_one : WorkspacesAreOne
workspaces_are_one sources manifest r s v w paths one other target =
    let same : s ≡ r = one_manifest sources manifest s r other.read one.read in
    whole_so sources manifest r v w paths one (subst (λ m. IsWorkspaceOf sources manifest m w) same other) target
