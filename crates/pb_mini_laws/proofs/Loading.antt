-- A workspace that is read: it is settled, and its root, the folders of its packages and their sources have normalised absolute paths.
use Rattle.std.proofs.Common.{◌≡◌, ◌∙◌, ◌≤◌, inl, inr, ℕ, Bool, true, false, codes, if◌then◌else◌, List, [], ◌∷◌, length, map, Contains, Option, Some, None, IfSome, Result, Ok, refl, sym, ap, subst}
use Rattle.std.specs.List.{AllByRecursion}
use Rattle.std.specs.List.Sorted.{IsStrictlySortedBy}
use Rattle.pb_graph.specs.Closure.{start, onward}
use Rattle.pb_manifest.specs.Promises.{IsPath, IsSharedDependency, IsWorkspaceTable}
use Rattle.pb_manifest_types.specs.declared.manifest.WorkspaceTable.{WorkspaceTable}
use Rattle.pb_manifest_types.specs.declared.package.Package.{Package as WrittenPackage}
use Rattle.pb_graph.proofs.Elements.{contains_cases, contains_head, contains_map, contains_none, contains_tail}
use Rattle.pb_workspace_types.specs.Settled.{IsAscending, IsSettled}
use Rattle.pb_workspace_types.specs.declared.fault.LoadFault.{LoadFault}
use Rattle.pb_workspace_types.specs.declared.package.Library.{Library}
use Rattle.pb_workspace_types.specs.declared.package.Package.{Package}
use Rattle.pb_workspace_types.specs.declared.workspace.Workspace.{Workspace}
use Rattle.pb_place_types.specs.Paths.{below, folder_of, is_path}
use Rattle.pb_place_types.specs.World.{World, from_nothing, FilesHavePaths}
use Rattle.pb_place_types.proofs.PathLemmas.{folder_is_path}
use Rattle.pb_workspace.specs.ByFolder.{folders_of, values_of}
use Rattle.pb_workspace.specs.Readings.{IsStoredAt}
use Rattle.pb_workspace_package.specs.Drafts.{draft_of}
use Rattle.pb_workspace.specs.Frames.{frame_of, is_member}
use Rattle.pb_workspace.specs.Globs.{is_glob}
use Rattle.pb_workspace.specs.Loaded.{at_root, nothing_read, others_read, packages_read, root_parts, root_read, workspace_from, workspace_in, workspace_of}
use Rattle.pb_workspace.specs.MemberFolders.{folders_meant, folders_taken, member_folders}
use Rattle.pb_workspace.specs.Members.{parts_meant}
use Rattle.pb_workspace.specs.PackageFolders.{frame_at, IsPackageFolder, IsRootOrMember, LeadsTo, package_in, root, member}
use Rattle.pb_workspace.specs.Rounds.{all_read, draft_at, manifest_at, parts_at, parts_in, rounds, standing_in, with_draft}
use Rattle.pb_workspace_package.specs.Sources.{resolved}
use Rattle.pb_workspace_package.specs.declared.unresolved_package.UnresolvedPackage.{UnresolvedPackage}
use Rattle.pb_workspace.specs.declared.workspace_root.WorkspaceRoot.{WorkspaceRoot}
use Rattle.pb_workspace.specs.declared.rounds.Parts.{Parts}
use Rattle.pb_workspace.specs.declared.rounds.LoadState.{LoadState}
use Rattle.pb_workspace.proofs.Accepted.{root_kept}
use Rattle.pb_workspace.proofs.FoldersPut.{opened}
use Rattle.pb_workspace.proofs.FoldersTaken.{taken_only}
use Rattle.pb_workspace.proofs.Fuel.{all_grow, ends_or_grows}
use Rattle.pb_workspace.proofs.Keeping.{workspace_settled}
use Rattle.pb_workspace.proofs.WholeWorkspace.{all_found, begun, least, manifest_there, theirs}
use Rattle.pb_mini_laws.proofs.Drafting.{IsWhole, promised_at, whole_in_file}
use Rattle.pb_mini_laws.proofs.PathsSaid.{resolved_is}
use Rattle.pb_mini_laws.proofs.Rising.{all_rise, rounds_rise}
use Rattle.pb_mini_laws.proofs.SourcesFound.{At, IsSourced}
use Rattle.pb_mini_laws.proofs.Wanting.{IsLed}

same_parts : (x y : Parts) → ◌≡◌ {A = Result Parts LoadFault} (Ok x) (Ok y) → x ≡ y
same_parts x y e = cc

-- what holds of all of some holds of each
all_in : {A : Type 0} (P : A → Type 0) (xs : List A) (x : A) → AllByRecursion P xs → Contains xs x → P x
all_in P [] x all is = absurd (contains_none x is)
all_in P (y ∷ xs) x all is = elim (contains_cases y xs x is) [ inl here ↦ subst P here all.0 | inr there ↦ all_in P xs x all.1 there ]

-- the frame of a manifest: where it stands, and what its texts promise
record IsFramed (manifest : List ℕ) (f : WorkspaceRoot) : Type 0 where
  root_is : f.root ≡ folder_of manifest
  manifest_is : f.manifest ≡ manifest
  members : AllByRecursion IsPath f.members
  shared : AllByRecursion IsSharedDependency f.given.dependencies

framed : (manifest : List ℕ) (o : Option WorkspaceTable) → IfSome o IsWorkspaceTable → IsFramed manifest (frame_of (folder_of manifest) manifest o)
framed manifest None promised = record { root_is = refl; manifest_is = refl; members = tt; shared = tt }
framed manifest (Some w) promised = record { root_is = refl; manifest_is = refl; members = promised.members; shared = promised.dependencies.each }

-- what a package that was read has: its folder and its sources
pub record HasSources (p : Package) : Type 0 where
  pub folder : At p.folder
  pub library : IfSome p.library (λ (l : Library). At l.source)
  pub binaries : AllByRecursion IsSourced p.binaries
  pub script : IfSome p.script At

pub record IsLaid (ws : Workspace) : Type 0 where
  pub settled : IsSettled ws
  pub root_at : At ws.root
  pub packages : (p : Package) → Contains ws.packages p → HasSources p

module _ (sources : World) (files : FilesHavePaths sources) (manifest : List ℕ) (f : WorkspaceRoot) (parts : Parts) (path : is_path manifest ≡ true) (is : IsFramed manifest f) where
  above : At f.root
  above = folder_is_path manifest f.root path is.root_is

  whole_in : (x : List ℕ) (d : UnresolvedPackage) → At x → package_in sources f x ≡ Ok d → IsWhole x d
  whole_in x d at made = whole_in_file sources files f above is.shared (standing_in f x) refl at (is_member f (member_folders sources f) x) d made

  -- the folders that a text of `members` means
  taken_at : (text x : List ℕ) → Contains (folders_taken sources f (parts_meant f.root text)) x → At x
  taken_at text x there = (taken_only sources files f text x there).path

  meant_at : (text x : List ℕ) → IsPath text → Contains (folders_meant sources f text) x → At x
  meant_at text x clean there = by (is_glob text) there
    where
      by : (b : Bool) → Contains (if b then folders_taken sources f (parts_meant f.root text) else resolved f.root text ∷ []) x → At x
      by true h = taken_at text x h
      by false h = elim (contains_cases (resolved f.root text) [] x h) [ inl here ↦ subst At here (resolved_is f.root text above clean) | inr none ↦ absurd (contains_none x none) ]

  first_at : (x : List ℕ) → IsRootOrMember sources f parts.found x → At x
  first_at _ (root p found) = above
  first_at _ (member text x written means) = meant_at text x (all_in IsPath f.members text is.members written) means

  led_at : (x y : List ℕ) → At x → LeadsTo sources f x y → At y
  led_at x y at leads = subst At leads.leads (all_in IsLed leads.owner.wanted leads.entry (whole_in x leads.owner at leads.package_at).wanted leads.is_there)

  -- each folder of a package
  folder_at : (x : List ℕ) → IsPackageFolder sources f parts.found x → At x
  folder_at _ (start x seed) = first_at x seed
  folder_at _ (onward x y before leads) = led_at x y (folder_at x before) leads

  all_put : (es : List (List ℕ × UnresolvedPackage)) → AllByRecursion (λ e. package_in sources f e.0 ≡ Ok e.1) es → ((x : List ℕ) → Contains (folders_of es) x → At x) → AllByRecursion IsStoredAt es
  all_put [] all at = tt
  all_put (e ∷ es) all at =
      let whole = whole_in e.0 e.1 (at e.0 (contains_head e.0 (folders_of es))) all.0 in
      ((whole.folder_is, whole.draft), all_put es all.1 (λ x there. at x (contains_tail e.0 (folders_of es) x there)))

  -- all that was read: at most 256 packages, in byte order of their folders
  record IsRead (r : LoadState) : Type 0 where
    few : length r.found ≤ 256
    rises : IsAscending (folders_of r.found)
    puts : AllByRecursion IsStoredAt r.found

  root_rises : (r : LoadState) → root_read sources f parts.tables parts.found ≡ Ok r → IsAscending (folders_of r.found)
  unfolding root_read IsStrictlySortedBy
  root_rises r read_so = by parts.found read_so
    where
      by : (found : Option WrittenPackage) → root_read sources f parts.tables found ≡ Ok r → IsAscending (folders_of r.found)
      by None h = let same : nothing_read ≡ r = cc in subst (λ (x : LoadState). IsAscending (folders_of x.found)) same tt
      by (Some p) h =
          let o = opened (draft_of sources (at_root f) true f.given p parts.tables) (λ d. Ok (with_draft nothing_read f.root d)) r h in
          let same : with_draft nothing_read f.root o.0 ≡ r = cc (o.2) in
          subst (λ (x : LoadState). IsAscending (folders_of x.found)) same (tt, tt)

  read_is : (r : LoadState) → f.manifest ≡ below f.root (codes "Cargo.toml") → parts_at sources f.manifest ≡ Ok parts → packages_read sources f parts.tables parts.found ≡ Ok r → IsRead r
  unfolding packages_read others_read
  read_is r stands there made =
      let all = all_found sources f parts stands there r made in
      let o = opened (root_read sources f parts.tables parts.found) (λ first. others_read sources f first) r made in
      let q = opened (all_read (draft_at sources f (member_folders sources f)) o.0 (folders_of (member_folders sources f))) (λ now. rounds 257 (draft_at sources f (member_folders sources f)) now) r o.2 in
      let few = (all_grow (draft_at sources f (member_folders sources f)) (folders_of (member_folders sources f)) o.0 q.0 (begun sources f parts stands there o.0 o.1).1 q.1).few in
      record {
        few = (ends_or_grows (draft_at sources f (member_folders sources f)) 257 q.0 r few q.2).1;
        rises = rounds_rise (draft_at sources f (member_folders sources f)) 257 q.0 r (all_rise (draft_at sources f (member_folders sources f)) (folders_of (member_folders sources f)) o.0 q.0 (root_rises o.0 o.1) q.1) q.2;
        puts = all_put r.found all.1 (λ x known. folder_at x ((all.0 x).0 known));
      }

-- what the manifest of a workspace promises of its `[workspace]`
workspace_promised : (sources : World) (path : List ℕ) (parts : Parts) → parts_at sources path ≡ Ok parts → IfSome parts.workspace IsWorkspaceTable
workspace_promised sources path parts read =
    let (m, found, same) = opened (manifest_at sources path) (λ m. Ok (parts_in m)) parts read in
    subst (λ (ps : Parts). IfSome ps.workspace IsWorkspaceTable) (same_parts (parts_in m) parts same) (promised_at sources path m found).workspace

pub workspace_laid : (manifest target : List ℕ) (w : World) (ws : Workspace) → is_path manifest ≡ true → FilesHavePaths (from_nothing target w) → workspace_of manifest target w ≡ Ok ws → IsLaid ws
unfolding workspace_of workspace_in
workspace_laid manifest target w ws path files made =
    let sources : World = from_nothing target w in
    let (parts, read, inside) = opened (root_parts sources manifest) (λ (ps : Parts). workspace_in sources target (frame_of (folder_of manifest) manifest ps.workspace) ps.profiles ps.tables ps.found) ws made in
    let f : WorkspaceRoot = frame_at manifest parts in
    let (r, packages, end) = opened (packages_read sources f parts.tables parts.found) (λ (r : LoadState). workspace_from target f parts.profiles (values_of r.found)) ws inside in
    let (stands, at) = manifest_there sources manifest parts path read in
    let is = framed manifest parts.workspace (workspace_promised sources manifest parts at) in
    let whole = read_is sources files manifest f parts path is r (is.manifest_is ∙ stands ∙ ap (λ x. below x (codes "Cargo.toml")) (sym is.root_is)) (ap (parts_at sources) is.manifest_is ∙ at) packages in
    record {
      settled = workspace_settled target f parts.profiles r ws (whole.few, whole.puts) whole.rises end;
      root_at = ap is_path (root_kept manifest target w ws made) ∙ folder_is_path manifest (folder_of manifest) path refl;
      packages = λ p there.
          let owner = theirs manifest target w parts ws path read made p there in
          let at_folder : At p.folder = folder_at sources files manifest f parts path is p.folder ((least manifest target w parts ws path read made p.folder).0 (folders_contain ws.packages p there)) in
          let sourced = whole_in sources files manifest f parts path is p.folder owner.owner at_folder owner.read in
          record {
            folder = at_folder;
            library = subst (λ (q : Package). IfSome q.library (λ (l : Library). At l.source)) (sym owner.same) sourced.library;
            binaries = subst (λ (q : Package). AllByRecursion IsSourced q.binaries) (sym owner.same) sourced.binaries;
            script = subst (λ (q : Package). IfSome q.script At) (sym owner.same) sourced.script;
          };
    }
  where
    folders_contain : (ps : List Package) (p : Package) → Contains ps p → Contains (map (λ (q : Package). q.folder) ps) p.folder
    folders_contain ps p there = contains_map (λ (q : Package). q.folder) ps p there
