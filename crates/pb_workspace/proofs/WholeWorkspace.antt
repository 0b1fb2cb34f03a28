-- The packages of a workspace that was read, by its definition.
use Rattle.std.proofs.Common.{◌≡◌, ◌≢◌, inl, inr, ◌↔◌, ◌≤◌, ℕ, List, [], ◌∷◌, length, map, Contains, Bool, true, false, if◌then◌else◌, ◌||◌, Option, Some, None, Ok, Err, codes, refl, sym, ap, ◌∙◌, subst, arith}
use Rattle.std.specs.List.{AllByRecursion, flat_map}
use Rattle.std.specs.Str.{bytes_eq}
use Rattle.std.proofs.lemmas.Slice.Eq.{bytes_eq-Decides}
use Rattle.std.proofs.lemmas.List.Elements.{Contains-append_left, Contains-append_right, Contains-append_cases}
use Rattle.pb_graph.specs.Closure.{start, onward}
use Rattle.pb_graph.proofs.Membership.{none, head, tail, cases}
use Rattle.pb_data.specs.UnlessOom.{◌>>=◌}
use Rattle.pb_manifest_types.specs.declared.package.Package.{Package as WrittenPackage}
use Rattle.pb_place_types.specs.Paths.{below, folder_of, is_path, last_part}
use Rattle.pb_place_types.specs.World.{World, from_nothing}
use Rattle.pb_place_types.proofs.TakenApart.{ends_with_last_part}
use Rattle.pb_workspace_package.specs.declared.unresolved_package.UnresolvedPackage.{UnresolvedPackage}
use Rattle.pb_workspace_package.specs.declared.unresolved_package.Tables.{Tables}
use Rattle.pb_workspace_types.specs.declared.fault.LoadFault.{LoadFault}
use Rattle.pb_workspace_types.specs.declared.fault.LoadFault.TheVariants.{NoManifest}
use Rattle.pb_workspace.specs.declared.workspace_root.WorkspaceRoot.{WorkspaceRoot}
use Rattle.pb_workspace_types.specs.declared.package.Package.{Package}
use Rattle.pb_workspace.specs.declared.rounds.Parts.{Parts}
use Rattle.pb_workspace.specs.declared.rounds.LoadState.{LoadState}
use Rattle.pb_workspace_package.specs.declared.settling.Given.{Given}
use Rattle.pb_workspace_package.specs.declared.wanted.PackageLocation.{PackageLocation}
use Rattle.pb_workspace_package.specs.declared.wanted.Wanted.{Wanted}
use Rattle.pb_workspace_types.specs.declared.workspace.Workspace.{Workspace}
use Rattle.pb_workspace.specs.Assembled.{assembled, package_at, packages_of}
use Rattle.pb_workspace.specs.ByFolder.{folders_of, values_of}
use Rattle.pb_workspace.specs.Checks.{fault_of}
use Rattle.pb_workspace_package.specs.Drafts.{draft_of, draft_with, lists_of}
use Rattle.pb_manifest_types.specs.declared.manifest.WorkspaceTable.{WorkspaceTable}
use Rattle.pb_workspace.specs.Frames.{frame_of, given_to, is_member}
use Rattle.pb_workspace_package.specs.Keys.{keys_of}
use Rattle.pb_workspace.specs.Loaded.{at_root, nothing_read, others_read, packages_read, root_parts, root_read, unless, workspace_from, workspace_in, workspace_of}
use Rattle.pb_workspace.specs.MemberFolders.{folders_meant, is_manifest, member_folders}
use Rattle.pb_workspace.specs.Indices.{indices_of}
use Rattle.pb_workspace.specs.Rounds.{all_read, draft_at, draft_if, draft_in_file, leads_to, no_package, parts_at, rounds, standing_in, with_draft}
use Rattle.pb_workspace_package.proofs.Puttings.{map_twice}
use Rattle.pb_workspace.specs.PackageFolders.{package_in, LeadsTo, IsRootOrMember, root, member, IsPackageFolder, frame_at}
use Rattle.pb_workspace.proofs.FoldersPut.{Path, opened, with_only, with_new}
use Rattle.pb_workspace.proofs.FoldersFound.{IsKnown, Sofar, all_more, rounds_more, at_end}
use Rattle.pb_workspace.proofs.Fuel.{all_grow, nothing_ahead}

-- what is made for each of some, one after another
pub flat_only : {A B : Type 0} (f : A → List B) (xs : List A) (y : B) → Contains (flat_map f xs) y → (x : A) × Contains xs x × Contains (f x) y
flat_only f [] y is = absurd (none y is)
flat_only f (x ∷ xs) y is = elim (Contains-append_cases (f x) (flat_map f xs) y is) [
  | inl here ↦ (x, head x xs, here)
  | inr there ↦ (let h = flat_only f xs y there in (h.0, tail x xs h.0 h.1, h.2))
]

pub flat_each : {A B : Type 0} (f : A → List B) (xs : List A) (x : A) (y : B) → Contains xs x → Contains (f x) y → Contains (flat_map f xs) y
flat_each f [] x y is gives = absurd (none x is)
flat_each f (w ∷ xs) x y is gives = elim (cases w xs x is) [
  | inl here ↦ Contains-append_left (f w) (flat_map f xs) y (subst (λ v. Contains (f v) y) (sym here) gives)
  | inr there ↦ Contains-append_right (f w) (flat_map f xs) y (flat_each f xs x y there gives)
]

pub map_only : {A B : Type 0} (f : A → B) (xs : List A) (y : B) → Contains (map f xs) y → (x : A) × Contains xs x × (f x ≡ y)
map_only f [] y is = absurd (none y is)
map_only f (x ∷ xs) y is = elim (cases (f x) (map f xs) y is) [
  | inl here ↦ (x, head x xs, here)
  | inr there ↦ (let h = map_only f xs y there in (h.0, tail x xs h.0 h.1, h.2))
]

pub map_each : {A B : Type 0} (f : A → B) (xs : List A) (x : A) → Contains xs x → Contains (map f xs) (f x)
map_each f [] x is = absurd (none x is)
map_each f (w ∷ xs) x is = elim (cases w xs x is) [
  | inl here ↦ subst (λ v. Contains (map f (w ∷ xs)) (f v)) here (head (f w) (map f xs))
  | inr there ↦ tail (f w) (map f xs) (f x) (map_each f xs x there)
]

-- members
pub members_only : (sources : World) (f : WorkspaceRoot) (folder : Path) → Contains (folders_of (member_folders sources f)) folder → (text : Path) × Contains f.members text × Contains (folders_meant sources f text) folder
members_only sources f folder is = elim (with_only [] (flat_map (folders_meant sources f) f.members) folder is) [
  | inl old ↦ absurd (none folder old)
  | inr new ↦ flat_only (folders_meant sources f) f.members folder new
]

pub members_each : (sources : World) (f : WorkspaceRoot) (text folder : Path) → Contains f.members text → Contains (folders_meant sources f text) folder → Contains (folders_of (member_folders sources f)) folder
members_each sources f text folder written means = with_new [] (flat_map (folders_meant sources f) f.members) folder (flat_each (folders_meant sources f) f.members text folder written means)

-- the package of a folder stands there
pub stands_there : (sources : World) (at : PackageLocation) (b : Bool) (given : Given) (p : WrittenPackage) (t : Tables) (d : UnresolvedPackage) → draft_of sources at b given p t ≡ Ok d → d.folder ≡ at.folder
unfolding draft_of draft_with
stands_there sources at b given p t d is =
    let keys = opened (keys_of sources at given.package p) (λ k. draft_with sources at b given t k) d is in
    let lists = opened (lists_of at given t.dependencies t.build_dependencies t.features t.binaries) _ d keys.2 in
    cc (lists.2)

pub in_file_there : (sources : World) (f : WorkspaceRoot) (b : Bool) (at : PackageLocation) (d : UnresolvedPackage) → draft_in_file sources f b at ≡ Ok d → d.folder ≡ at.folder
unfolding draft_in_file draft_if
in_file_there sources f b at d is = let o = opened (parts_at sources at.manifest) (λ parts. draft_if sources f b at parts.tables parts.found) d is in by o.0.found o.0.tables o.2
  where
    by : (found : Option WrittenPackage) (t : Tables) → draft_if sources f b at t found ≡ Ok d → d.folder ≡ at.folder
    by None t h = cc
    by (Some p) t h = stands_there sources at b (given_to f b) p t d h

-- what is read of a folder is its package
pub reads_package : (sources : World) (f : WorkspaceRoot) (folder : Path) (d : UnresolvedPackage) → draft_at sources f (member_folders sources f) folder ≡ Ok d → package_in sources f folder ≡ Ok d
unfolding draft_at
reads_package sources f folder d is = by (bytes_eq folder f.root) is
  where
    by : (b : Bool) → (if b then Err (no_package f.manifest) else draft_in_file sources f (is_member f (member_folders sources f) folder) (standing_in f folder)) ≡ Ok d → package_in sources f folder ≡ Ok d
    by true h = cc
    by false h = h

or_on : (a b : Bool) → a ≡ true → (a || b) ≡ true
or_on true b on = refl
or_on false b on = cc

-- and the root package is that of the root folder
pub root_package : (sources : World) (f : WorkspaceRoot) (parts : Parts) (p : WrittenPackage) (d : UnresolvedPackage) → f.manifest ≡ below f.root (codes "Cargo.toml") → parts_at sources f.manifest ≡ Ok parts → parts.found ≡ Some p
    → draft_of sources (at_root f) true f.given p parts.tables ≡ Ok d → package_in sources f f.root ≡ Ok d
unfolding draft_in_file draft_if
root_package sources f parts p d at read found is =
    let own : bytes_eq f.root f.root ≡ true = (bytes_eq-Decides f.root f.root).1 refl in
    let is_one : is_member f (member_folders sources f) f.root ≡ true = or_on _ _ own in
    let stands : standing_in f f.root ≡ at_root f = ap (λ m. record { root = f.root; folder = f.root; manifest = m }) (sym at) in
    ap (λ b. draft_in_file sources f b (standing_in f f.root)) is_one ∙ ap (λ s. draft_in_file sources f true s) stands
    ∙ ap (λ r. r >>= (λ ps. draft_if sources f true (at_root f) ps.tables ps.found)) read ∙ ap (λ o. draft_if sources f true (at_root f) parts.tables o) found ∙ is

-- where a package leads
pub shows : (sources : World) (f : WorkspaceRoot) (x y : Path) (d : UnresolvedPackage) → package_in sources f x ≡ Ok d → LeadsTo sources f x y ↔ Contains (leads_to d.wanted) y
shows sources f x y d is = (there, back)
  where
    there : LeadsTo sources f x y → Contains (leads_to d.wanted) y
    there l = let same : l.owner ≡ d = cc (sym l.package_at ∙ is) in subst (λ z. Contains (leads_to d.wanted) z) l.leads (map_each (λ (w : Wanted). w.folder) d.wanted l.entry (subst (λ (o : UnresolvedPackage). Contains o.wanted l.entry) same l.is_there))

    back : Contains (leads_to d.wanted) y → LeadsTo sources f x y
    back has_it = let m = map_only (λ (w : Wanted). w.folder) d.wanted y has_it in record { owner = d; entry = m.0; package_at = is; is_there = m.1; leads = m.2 }

module _ (sources : World) (f : WorkspaceRoot) (parts : Parts) (at : f.manifest ≡ below f.root (codes "Cargo.toml")) (read : parts_at sources f.manifest ≡ Ok parts) where
  abbrev pub So : LoadState → List Path → Type 0
  So = Sofar (package_in sources f) (IsRootOrMember sources f parts.found) (LeadsTo sources f) (shows sources f)

  abbrev In : Path → Type 0
  In = IsPackageFolder sources f parts.found

  members_in : (x : Path) → Contains (folders_of (member_folders sources f)) x → In x
  members_in x is = let m = members_only sources f x is in start x (member m.0 x m.1 m.2)

  -- without a root package the members alone are to be read
  pub none_begun : parts.found ≡ None → So nothing_read (folders_of (member_folders sources f))
  none_begun absent = record {
    sound = sound;
    seeds = λ x first. inr (inl (seed x first));
    closed = λ x y found leads. absurd (none x found);
    packs = tt;
  }
    where
      sound : (x : Path) → IsKnown nothing_read (folders_of (member_folders sources f)) x → In x
      sound x (inl found) = absurd (none x found)
      sound x (inr (inl waits)) = members_in x waits
      sound x (inr (inr ahead)) = absurd (none x ahead)

      seed : (x : Path) → IsRootOrMember sources f parts.found x → Contains (folders_of (member_folders sources f)) x
      seed _ (root p is_p) = cc
      seed _ (member text x written means) = members_each sources f text x written means

  -- after it, what it leads to is read later
  pub one_begun : (p : WrittenPackage) (d : UnresolvedPackage) → parts.found ≡ Some p → package_in sources f f.root ≡ Ok d → So (with_draft nothing_read f.root d) (folders_of (member_folders sources f))
  one_begun p d some is = record {
    sound = sound;
    seeds = seed;
    closed = closed;
    packs = (is, tt);
  }
    where
      first : In f.root
      first = start f.root (root p some)

      sound : (x : Path) → IsKnown (with_draft nothing_read f.root d) (folders_of (member_folders sources f)) x → In x
      sound x (inl found) = elim (cases f.root [] x found) [ inl here ↦ subst In here first | inr there ↦ absurd (none x there) ]
      sound x (inr (inl waits)) = members_in x waits
      sound x (inr (inr ahead)) = elim (with_only [] (leads_to d.wanted) x ahead) [
        | inl old ↦ absurd (none x old)
        | inr new ↦ onward f.root x first ((shows sources f f.root x d is).1 new)
      ]

      seed : (x : Path) → IsRootOrMember sources f parts.found x → IsKnown (with_draft nothing_read f.root d) (folders_of (member_folders sources f)) x
      seed _ (root q is_q) = inl (head f.root [])
      seed _ (member text x written means) = inr (inl (members_each sources f text x written means))

      closed : (x y : Path) → Contains (folders_of (with_draft nothing_read f.root d).found) x → LeadsTo sources f x y → IsKnown (with_draft nothing_read f.root d) (folders_of (member_folders sources f)) y
      closed x y found leads = elim (cases f.root [] x found) [
        | inl here ↦ inr (inr (with_new [] (leads_to d.wanted) y ((shows sources f f.root y d is).0 (subst (λ z. LeadsTo sources f z y) (sym here) leads))))
        | inr there ↦ absurd (none x there)
      ]

  pub begun : (r : LoadState) → root_read sources f parts.tables parts.found ≡ Ok r → So r (folders_of (member_folders sources f)) × (length r.found ≤ 256)
  unfolding root_read
  begun r is = by parts.found refl is
    where
      by : (found : Option WrittenPackage) → parts.found ≡ found → root_read sources f parts.tables found ≡ Ok r → So r (folders_of (member_folders sources f)) × (length r.found ≤ 256)
      by None absent h = let same : nothing_read ≡ r = cc in subst (λ x. So x (folders_of (member_folders sources f)) × (length x.found ≤ 256)) same (none_begun absent, omega arith)
      by (Some p) some h =
          let o = opened (draft_of sources (at_root f) true f.given p parts.tables) (λ d. Ok (with_draft nothing_read f.root d)) r h in
          let same : with_draft nothing_read f.root o.0 ≡ r = cc (o.2) in
          subst (λ x. So x (folders_of (member_folders sources f)) × (length x.found ≤ 256)) same (one_begun p o.0 some (root_package sources f parts p o.0 at read some o.1), omega arith)

  -- all packages
  pub all_found : (r : LoadState) → packages_read sources f parts.tables parts.found ≡ Ok r → ((x : Path) → Contains (folders_of r.found) x ↔ In x) × AllByRecursion (λ e. package_in sources f e.0 ≡ Ok e.1) r.found
  unfolding packages_read others_read
  all_found r is =
      let o = opened (root_read sources f parts.tables parts.found) (λ begun. others_read sources f begun) r is in
      let b = begun o.0 o.1 in
      let q = opened (all_read (draft_at sources f (member_folders sources f)) o.0 (folders_of (member_folders sources f))) (λ now. rounds 257 (draft_at sources f (member_folders sources f)) now) r o.2 in
      let few = (all_grow (draft_at sources f (member_folders sources f)) (folders_of (member_folders sources f)) o.0 q.0 b.1 q.1).few in
      let so = all_more (package_in sources f) (IsRootOrMember sources f parts.found) (LeadsTo sources f) (shows sources f) (draft_at sources f (member_folders sources f)) (reads_package sources f) (folders_of (member_folders sources f)) o.0 q.0 b.0 q.1 in
      let end = rounds_more (package_in sources f) (IsRootOrMember sources f parts.found) (LeadsTo sources f) (shows sources f) (draft_at sources f (member_folders sources f)) (reads_package sources f) 257 q.0 r so q.2 in
      (at_end (package_in sources f) (IsRootOrMember sources f parts.found) (LeadsTo sources f) (shows sources f) r end (nothing_ahead (draft_at sources f (member_folders sources f)) q.0 r few q.2), end.packs)

-- the frame stands where its manifest does
frame_root : (manifest : Path) (parts : Parts) → ((frame_at manifest parts).root ≡ folder_of manifest) × ((frame_at manifest parts).manifest ≡ manifest)
frame_root manifest parts = by parts.workspace
  where
    by : (o : Option WorkspaceTable) → ((frame_of (folder_of manifest) manifest o).root ≡ folder_of manifest) × ((frame_of (folder_of manifest) manifest o).manifest ≡ manifest)
    by None = (refl, refl)
    by (Some t) = (refl, refl)

-- a manifest that is read is `Cargo.toml` in its folder
pub manifest_there : (sources : World) (manifest : Path) (parts : Parts) → is_path manifest ≡ true → root_parts sources manifest ≡ Ok parts
    → (manifest ≡ below (folder_of manifest) (codes "Cargo.toml")) × (parts_at sources manifest ≡ Ok parts)
manifest_there sources manifest parts path is = by (is_manifest manifest) refl is
  where
    by : (b : Bool) → is_manifest manifest ≡ b → (if b then parts_at sources manifest else Err (NoManifest manifest)) ≡ Ok parts → (manifest ≡ below (folder_of manifest) (codes "Cargo.toml")) × (parts_at sources manifest ≡ Ok parts)
    by true named h =
        let last : last_part manifest ≡ codes "Cargo.toml" = (bytes_eq-Decides (last_part manifest) (codes "Cargo.toml")).0 named in
        let deep : manifest ≢ codes "/" = λ at_top. absurd (not_top (sym (ap last_part at_top) ∙ last)) in
        (sym (ends_with_last_part manifest path deep) ∙ ap (below (folder_of manifest)) last, h)
      where
        not_top : last_part (codes "/") ≡ codes "Cargo.toml" → ⊥
        not_top e = cc
    by false named h = cc

-- what was read of a package
pub record IsOfItsFolder (sources : World) (f : WorkspaceRoot) (p : Package) : Type 0 where
  pub owner : UnresolvedPackage
  pub indices : List (List ℕ × ℕ)
  pub read : package_in sources f p.folder ≡ Ok owner
  pub same : p ≡ package_at indices owner

all_at : {A : Type 0} (P : A → Type 0) (xs : List A) (x : A) → AllByRecursion P xs → Contains xs x → P x
all_at P [] x all is = absurd (none x is)
all_at P (w ∷ xs) x all is = elim (cases w xs x is) [ inl here ↦ subst P here all.0 | inr there ↦ all_at P xs x all.1 there ]

module _ (sources : World) (f : WorkspaceRoot) where
  package_there : (folder : Path) (d : UnresolvedPackage) → package_in sources f folder ≡ Ok d → d.folder ≡ folder
  package_there folder d is = in_file_there sources f (is_member f (member_folders sources f) folder) (standing_in f folder) d is

  pub own_folders : (es : List (Path × UnresolvedPackage)) → AllByRecursion (λ e. package_in sources f e.0 ≡ Ok e.1) es → map (λ (d : UnresolvedPackage). d.folder) (values_of es) ≡ folders_of es
  own_folders [] all = refl
  own_folders (e ∷ es) all = ap (λ p. p ∷ map (λ (d : UnresolvedPackage). d.folder) (values_of es)) (package_there e.0 e.1 all.0) ∙ ap (λ ps. e.0 ∷ ps) (own_folders es all.1)

  pub each_theirs : (es : List (Path × UnresolvedPackage)) (indices : List (Path × ℕ)) (p : Package) → AllByRecursion (λ e. package_in sources f e.0 ≡ Ok e.1) es → Contains (map (package_at indices) (values_of es)) p
      → (d : UnresolvedPackage) × (package_in sources f p.folder ≡ Ok d) × (p ≡ package_at indices d)
  each_theirs es indices p all is =
      let m = map_only (package_at indices) (values_of es) p is in
      let v = map_only (λ (e : Path × UnresolvedPackage). e.1) es m.0 m.1 in
      let whole : package_in sources f v.0.0 ≡ Ok v.0.1 = all_at (λ e. package_in sources f e.0 ≡ Ok e.1) es v.0 all v.1 in
      let own : package_in sources f v.0.0 ≡ Ok m.0 = whole ∙ ap (λ d. Ok d) v.2 in
      let there : m.0.folder ≡ v.0.0 = package_there v.0.0 m.0 own in
      let same : p.folder ≡ m.0.folder = ap (λ (q : Package). q.folder) (sym m.2) in
      (m.0, ap (package_in sources f) (same ∙ there) ∙ own, sym m.2)

module _ (manifest target : Path) (w : World) (parts : Parts) (ws : Workspace) (path : is_path manifest ≡ true) (read : root_parts (from_nothing target w) manifest ≡ Ok parts) (made : workspace_of manifest target w ≡ Ok ws) where
  abbrev sources : World
  sources = from_nothing target w

  abbrev f : WorkspaceRoot
  f = frame_at manifest parts

  -- what was read of it
  record IsMadeOf (r : LoadState) : Type 0 where
    packages : packages_read sources f parts.tables parts.found ≡ Ok r
    whole : ws.packages ≡ packages_of (values_of r.found)

  made_of : (r : LoadState) × IsMadeOf r
  unfolding workspace_of workspace_in workspace_from assembled
  made_of =
      let here : workspace_in sources target f parts.profiles parts.tables parts.found ≡ Ok ws = sym (ap (λ x. x >>= (λ ps. workspace_in sources target (frame_of (folder_of manifest) manifest ps.workspace) ps.profiles ps.tables ps.found)) read) ∙ made in
      let o = opened (packages_read sources f parts.tables parts.found) (λ r. workspace_from target f parts.profiles (values_of r.found)) ws here in
      (o.0, record { packages = o.1; whole = by (fault_of (values_of o.0.found)) (values_of o.0.found) o.2 })
    where
      by : (o : Option LoadFault) (ds : List UnresolvedPackage) → unless o (assembled target (frame_of (folder_of manifest) manifest parts.workspace) parts.profiles ds) ≡ Ok ws → ws.packages ≡ packages_of ds
      by None ds h = let same : assembled target (frame_of (folder_of manifest) manifest parts.workspace) parts.profiles ds ≡ ws = cc in ap (λ (x : Workspace). x.packages) (sym same)
      by (Some fault) ds h = cc

  stands : f.manifest ≡ below f.root (codes "Cargo.toml")
  stands = let m = manifest_there sources manifest parts path read in let r = frame_root manifest parts in r.1 ∙ m.0 ∙ ap (λ x. below x (codes "Cargo.toml")) (sym r.0)

  there : parts_at sources f.manifest ≡ Ok parts
  there = ap (parts_at sources) (frame_root manifest parts).1 ∙ (manifest_there sources manifest parts path read).1

  pub least : (folder : Path) → Contains (map (λ (p : Package). p.folder) ws.packages) folder ↔ IsPackageFolder sources f parts.found folder
  least folder =
      let m = made_of in
      let all = all_found sources f parts stands there m.0 m.1.packages in
      let drafts : List UnresolvedPackage = values_of m.0.found in
      let same : map (λ (p : Package). p.folder) ws.packages ≡ folders_of m.0.found = ap (map (λ (p : Package). p.folder)) m.1.whole ∙ map_twice (λ (p : Package). p.folder) (package_at (indices_of drafts)) drafts ∙ own_folders sources f m.0.found all.1 in
      (λ is. (all.0 folder).0 (subst (λ xs. Contains xs folder) same is), λ is. subst (λ xs. Contains xs folder) (sym same) ((all.0 folder).1 is))

  pub theirs : (p : Package) → Contains ws.packages p → IsOfItsFolder sources f p
  theirs p is =
      let m = made_of in
      let all = all_found sources f parts stands there m.0 m.1.packages in
      let e = each_theirs sources f m.0.found (indices_of (values_of m.0.found)) p all.1 (subst (λ ps. Contains ps p) m.1.whole is) in
      record { owner = e.0; indices = indices_of (values_of m.0.found); read = e.1; same = e.2 }
