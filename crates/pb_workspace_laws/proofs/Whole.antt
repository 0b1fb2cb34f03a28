-- Each package of a workspace that was read is what its manifest and its folder say.
use Rattle.std.proofs.Common.{◌≡◌, ◌↔◌, ◌∙◌, ◌≤◌, ℕ, Bool, true, false, List, [], ◌∷◌, ◌++◌, map, codes, length, Option, Some, None, Ok, IfSome, unwrap_or, slice_get, Contains, refl, sym, ap, subst}
use Rattle.std.proofs.lemmas.List.{map-append}
use Rattle.std.proofs.lemmas.Option.{slice_get-map}
use Rattle.std.proofs.lemmas.Slice.Eq.{bytes_eq-Decides}
use Rattle.std.specs.List.{AllByRecursion, AllZip, list_any}
use Rattle.std.specs.Option.{option_map}
use Rattle.std.specs.Str.{bytes_eq}
use Rattle.pb_graph.specs.Closure.{onward}
use Rattle.std.proofs.lemmas.List.Elements.{Contains-append_left, Contains-append_right}
use Rattle.pb_data.specs.UnlessOom.{◌>>=◌}
use Rattle.pb_manifest.proofs.Manifests.{manifest_is}
use Rattle.pb_manifest.specs.Promises.{IsManifest, IsPackage}
use Rattle.pb_manifest_types.specs.declared.dependency.Dependency.{Dependency}
use Rattle.pb_manifest_types.specs.declared.manifest.Manifest.{Manifest}
use Rattle.pb_manifest_types.specs.declared.manifest.WorkspacePackage.{WorkspacePackage}
use Rattle.pb_manifest_types.specs.declared.manifest.WorkspaceTable.{WorkspaceTable}
use Rattle.pb_manifest_types.specs.declared.package.Package.{Package as Written}
use Rattle.pb_workspace_types.specs.declared.fault.LoadFault.{LoadFault}
use Rattle.pb_workspace_types.specs.declared.package.DependencyKind.{DependencyKind}
use Rattle.pb_workspace_types.specs.declared.package.DependencyKind.TheVariants.{Normal, Build as ForScript}
use Rattle.pb_workspace_types.specs.declared.package.Entry.{Entry}
use Rattle.pb_workspace_types.specs.declared.package.Package.{Package}
use Rattle.pb_workspace_types.specs.declared.workspace.Workspace.{Workspace}
use Rattle.pb_place_types.specs.Paths.{below, folder_of, is_path}
use Rattle.pb_place_types.specs.World.{World, from_nothing, FilesHavePaths}
use Rattle.pb_workspace.specs.Assembled.{assembled, default_members_of, entry_at, package_at, packages_of}
use Rattle.pb_workspace.specs.ByFolder.{folders_of, value_of, values_of}
use Rattle.pb_workspace.specs.Checks.{fault_of, has_other_name, has_other_version, matches_if}
use Rattle.pb_workspace_package.specs.Drafts.{draft_from, draft_of, draft_with, lists_of}
use Rattle.pb_workspace_package.specs.Features.{features_of}
use Rattle.pb_workspace.specs.Frames.{frame_of, given_to, is_member}
use Rattle.pb_workspace_package.specs.Keys.{keys_of}
use Rattle.pb_workspace.specs.Loaded.{others_read, packages_read, root_parts, root_read, unless, workspace_from, workspace_in, workspace_of}
use Rattle.pb_workspace.specs.MemberFolders.{member_folders}
use Rattle.pb_workspace.specs.PackageFolders.{package_in, LeadsTo, IsPackageFolder, frame_at}
use Rattle.pb_workspace.specs.Indices.{at_index, draft_in, indices_of}
use Rattle.pb_workspace.specs.Rounds.{all_read, draft_at, parts_at, parts_in, rounds, standing_in, tables_in}
use Rattle.pb_workspace_package.specs.Settling.{discovered, has_same_binaries, readme_found, targets_of, wanted_in}
use Rattle.pb_workspace_package.specs.Sources.{library_of}
use Rattle.pb_workspace_package.specs.Taken.{about_of, own_or_given}
use Rattle.pb_workspace_package.specs.Wanted.{each_wanted, wanted_of}
use Rattle.pb_workspace_package.specs.declared.unresolved_package.UnresolvedPackage.{UnresolvedPackage}
use Rattle.pb_workspace_package.specs.declared.unresolved_package.Lists.{Lists}
use Rattle.pb_workspace.specs.declared.workspace_root.WorkspaceRoot.{WorkspaceRoot}
use Rattle.pb_workspace_package.specs.declared.keys.Keys.{Keys}
use Rattle.pb_workspace.specs.declared.rounds.Parts.{Parts}
use Rattle.pb_workspace.specs.declared.rounds.LoadState.{LoadState}
use Rattle.pb_workspace_package.specs.declared.settling.Given.{Given}
use Rattle.pb_workspace_package.specs.declared.wanted.PackageLocation.{PackageLocation}
use Rattle.pb_workspace_package.specs.declared.wanted.Wanted.{Wanted}
use Rattle.pb_workspace.proofs.Accepted.{root_kept, target_kept}
use Rattle.pb_workspace.proofs.FoldersNumbered.{index_there, indices_are}
use Rattle.pb_workspace.proofs.FoldersPut.{opened}
use Rattle.pb_workspace.proofs.Fuel.{all_grow, ends_or_grows}
use Rattle.pb_workspace.proofs.Keeping.{assembled_settled}
use Rattle.pb_workspace_package.proofs.Puttings.{map_twice}
use Rattle.pb_workspace.proofs.WholeWorkspace.{map_only, map_each, manifest_there, all_found, begun, own_folders}
use Rattle.pb_workspace_laws.specs.Files.{IsManifestAt}
use Rattle.pb_workspace_laws.specs.Folders as Folders
use Rattle.pb_workspace_laws.specs.Laws.{IsOfItsFolder, IsWorkspaceOf, WorkspacesAreRead, AllAreSettled}
use Rattle.pb_workspace_laws.specs.Members.{IsMember}
use Rattle.pb_workspace_laws.proofs.Members.{member_is}
use Rattle.pb_workspace_laws.specs.Binaries.{IsBinary, HasBinaries}
use Rattle.pb_workspace_laws.proofs.AllBinaries.{all_rise, all_are}
use Rattle.pb_workspace_package.specs.Binaries.{binaries_of, written_binary}
use Rattle.pb_workspace_types.specs.declared.package.Binary.{Binary}
use Rattle.pb_workspace_types.specs.Settled.{IsAscending, IsSettled}
use Rattle.pb_workspace.specs.Readings.{IsStoredAt}
use Rattle.pb_manifest_types.specs.Letters.{is_name}
use Rattle.pb_workspace_laws.specs.Packages.{IsOwnOrTaken, library, script, IsEntry, IsPackageOf}
use Rattle.pb_workspace_laws.proofs.Fine.{AreFine, fine_so, not_off, matched}
use Rattle.pb_workspace_laws.proofs.Entries.{Leads, beside, beside_one, entries_are}
use Rattle.pb_workspace_laws.proofs.Features.{none_meets, features_rise, features_are}
use Rattle.pb_workspace_laws.proofs.Folders.{keyed_so, folders_are}
use Rattle.pb_workspace_laws.proofs.Order.{packages_up}
use Rattle.pb_workspace_laws.proofs.Reading.{all_at, drafted, parts_read, wanted_so}
use Rattle.pb_workspace_laws.proofs.Settling.{draft_kept}
use Rattle.pb_workspace_laws.proofs.Sorting.{Rises, contained, same_index}
use Rattle.pb_workspace_laws.proofs.Keys.{own_or_taken, about_is, IsAbout, script_so, library_so}
use Rattle.pb_workspace_laws.proofs.Position.{position_is}

-- the keys
record AreKeys (sources : World) (at : PackageLocation) (given : WorkspacePackage) (w : Written) (k : Keys) : Type 0 where
  name : k.name ≡ w.name
  version : IsOwnOrTaken w.version given.version k.version
  edition : IsOwnOrTaken w.edition given.edition k.edition
  about : IsAbout sources at.root at.folder w given k.about
  links : k.links ≡ w.links
  autobins : k.autobins ≡ w.autobins
  build : k.build ≡ w.build

keys_are : (sources : World) (at : PackageLocation) (given : WorkspacePackage) (w : Written) (k : Keys) → keys_of sources at given w ≡ Ok k → AreKeys sources at given w k
keys_are sources at given w k h =
    let a = opened (own_or_given w.version given.version) (λ version. own_or_given w.edition given.edition >>= (λ edition. about_of at.root at.folder (readme_found at.folder sources w.readme) w given >>= (λ about.
    Ok record { name = w.name; version = version; edition = edition; about = about; links = w.links; autobins = w.autobins; build = w.build }))) k h in
    let b = opened (own_or_given w.edition given.edition) (λ edition. about_of at.root at.folder (readme_found at.folder sources w.readme) w given >>= (λ about.
    Ok record { name = w.name; version = a.0; edition = edition; about = about; links = w.links; autobins = w.autobins; build = w.build })) k a.2 in
    let c = opened (about_of at.root at.folder (readme_found at.folder sources w.readme) w given) (λ about. Ok record { name = w.name; version = a.0; edition = b.0; about = about; links = w.links; autobins = w.autobins; build = w.build }) k b.2 in
    let same : record { name = w.name; version = a.0; edition = b.0; about = c.0; links = w.links; autobins = w.autobins; build = w.build } ≡ k = cc (c.2) in
    subst (AreKeys sources at given w) same (record {
      name = refl;
      version = own_or_taken w.version given.version a.0 a.1;
      edition = own_or_taken w.edition given.edition b.0 b.1;
      about = about_is sources at.root at.folder w given c.0 c.1;
      links = refl;
      autobins = refl;
      build = refl;
    })

-- the package of a manifest
module _ (sources : World) (at : PackageLocation) (member : Bool) (given : Given) (ws : Workspace) (indices : List (List ℕ × ℕ)) (m : Manifest) (kept : IsManifest m) (w : Written) where
  abbrev Says : UnresolvedPackage → Type 0
  Says d = IsPackageOf sources at.root given ws m w (package_at indices d)

  abbrev Is : DependencyKind → Dependency → Entry → Type 0
  Is kind d e = IsEntry at.root at.folder given.dependencies ws kind d e

  abbrev Asked : DependencyKind × Dependency → Entry → Type 0
  Asked asked e = Is asked.0 asked.1 e

  draft_says : (d : UnresolvedPackage) → draft_of sources at member given w (tables_in m) ≡ Ok d → ((x : Wanted) → Contains d.wanted x → Leads indices ws x) → Says d
  unfolding draft_of draft_with
  draft_says d h leads =
      let k = opened (keys_of sources at given.package w) (λ k. draft_with sources at member given (tables_in m) k) d h in
      let keys = keys_are sources at given.package w k.0 k.1 in
      let l = opened (lists_of at given m.dependencies m.build_dependencies m.features m.binaries)
      (λ lists. Ok (draft_from at member k.0 lists m.dev_dependencies (targets_of at.folder sources k.0.name k.0.autobins k.0.build m.library m.binaries))) d k.2 in
      let o = opened (wanted_in at given m.dependencies m.build_dependencies) (λ wanted. Ok record { wanted = wanted; features = features_of m.features m.dependencies m.build_dependencies; has_same_binaries = has_same_binaries m.binaries }) l.0 l.1 in
      let n = opened (each_wanted (wanted_of at.root at.folder at.manifest given.dependencies Normal) m.dependencies)
      (λ normal. each_wanted (wanted_of at.root at.folder at.manifest given.dependencies ForScript) m.build_dependencies >>= (λ for_script. Ok (normal ++ for_script))) o.0 o.1 in
      let s = opened (each_wanted (wanted_of at.root at.folder at.manifest given.dependencies ForScript) m.build_dependencies) (λ for_script. Ok (n.0 ++ for_script)) o.0 n.2 in
      let both : n.0 ++ s.0 ≡ o.0 = cc (s.2) in
      let made : Lists = record { wanted = n.0 ++ s.0; features = features_of m.features m.dependencies m.build_dependencies; has_same_binaries = has_same_binaries m.binaries } in
      let lists : made ≡ l.0 = (λ i. record { wanted = both i; features = features_of m.features m.dependencies m.build_dependencies; has_same_binaries = has_same_binaries m.binaries }) ∙ cc (o.2) in
      let same : draft_from at member k.0 made m.dev_dependencies (targets_of at.folder sources k.0.name k.0.autobins k.0.build m.library m.binaries) ≡ d =
      (λ i. draft_from at member k.0 (lists i) m.dev_dependencies (targets_of at.folder sources k.0.name k.0.autobins k.0.build m.library m.binaries)) ∙ cc (l.2) in
      let all = subst (λ (x : UnresolvedPackage). (y : Wanted) → Contains x.wanted y → Leads indices ws y) (sym same) leads in
      subst Says same (record {
        name = keys.name;
        version = keys.version;
        edition = keys.edition;
        authors = keys.about.authors;
        description = keys.about.description;
        homepage = keys.about.homepage;
        license = keys.about.license;
        license_file = keys.about.license_file;
        readme = keys.about.readme;
        repository = keys.about.repository;
        rust_version = keys.about.rust_version;
        links = keys.links;
        library_is = library_so sources at.folder k.0.name m.library ∙ ap (λ name. library sources at.folder name m.library) keys.name;
        script_is = script_so sources at.folder k.0.build ∙ ap (script sources at.folder) keys.build;
        features_order = features_rise m kept.features.order;
        features = features_are m kept.features.order;
        entries = subst (AllZip Asked (map (λ d. (Normal, d)) m.dependencies ++ map (λ d. (ForScript, d)) m.build_dependencies)) (sym (map-append (entry_at indices) n.0 s.0))
            (beside Is Normal m.dependencies (map (entry_at indices) n.0) (map (entry_at indices) s.0) (map (λ d. (ForScript, d)) m.build_dependencies)
            (entries_are at.root at.folder at.manifest given.dependencies Normal indices ws m.dependencies n.0 n.1 (λ x there. all x (Contains-append_left n.0 s.0 x there)))
            (beside_one Is ForScript m.build_dependencies (map (entry_at indices) s.0)
            (entries_are at.root at.folder at.manifest given.dependencies ForScript indices ws m.build_dependencies s.0 s.1 (λ x there. all x (Contains-append_right n.0 s.0 x there)))));
        development = refl;
      })

-- it stands where it is said to, with these binaries
record Stands (sources : World) (at : PackageLocation) (member : Bool) (w : Written) (m : Manifest) (d : UnresolvedPackage) : Type 0 where
  folder : d.folder ≡ at.folder
  manifest : d.manifest ≡ at.manifest
  is_member : d.is_member ≡ member
  binaries : d.binaries ≡ binaries_of (discovered at.folder sources w.name w.autobins) (map (written_binary at.folder sources w.name) m.binaries)
  apart : d.has_same_binaries ≡ has_same_binaries m.binaries
  name : d.name ≡ w.name
  library : d.library ≡ library_of at.folder sources w.name m.library
  features : d.features ≡ features_of m.features m.dependencies m.build_dependencies

stands_so : (sources : World) (at : PackageLocation) (member : Bool) (given : Given) (w : Written) (m : Manifest) (d : UnresolvedPackage) → draft_of sources at member given w (tables_in m) ≡ Ok d → Stands sources at member w m d
unfolding draft_of draft_with
stands_so sources at member given w m d h =
    let k = opened (keys_of sources at given.package w) (λ k. draft_with sources at member given (tables_in m) k) d h in
    let keys = keys_are sources at given.package w k.0 k.1 in
    let l = opened (lists_of at given m.dependencies m.build_dependencies m.features m.binaries)
    (λ lists. Ok (draft_from at member k.0 lists m.dev_dependencies (targets_of at.folder sources k.0.name k.0.autobins k.0.build m.library m.binaries))) d k.2 in
    let o = opened (wanted_in at given m.dependencies m.build_dependencies) (λ wanted. Ok record { wanted = wanted; features = features_of m.features m.dependencies m.build_dependencies; has_same_binaries = has_same_binaries m.binaries }) l.0 l.1 in
    let lists : record { wanted = o.0; features = features_of m.features m.dependencies m.build_dependencies; has_same_binaries = has_same_binaries m.binaries } ≡ l.0 = cc (o.2) in
    let same : draft_from at member k.0 l.0 m.dev_dependencies (targets_of at.folder sources k.0.name k.0.autobins k.0.build m.library m.binaries) ≡ d = cc (l.2) in
    subst (Stands sources at member w m) same (record {
      folder = refl;
      manifest = refl;
      is_member = refl;
      binaries = λ i. binaries_of (discovered at.folder sources (keys.name i) (keys.autobins i)) (map (written_binary at.folder sources (keys.name i)) m.binaries);
      apart = ap (λ (x : Lists). x.has_same_binaries) (sym lists);
      name = keys.name;
      library = ap (λ n. library_of at.folder sources n m.library) keys.name;
      features = ap (λ (x : Lists). x.features) (sym lists);
    })

-- a package that was read
record IsMade (sources : World) (f : WorkspaceRoot) (ws : Workspace) (indices : List (List ℕ × ℕ)) (folder : List ℕ) (d : UnresolvedPackage) : Type 0 where
  own : Manifest
  read : IsManifestAt sources (below folder (codes "Cargo.toml")) own
  written : Written
  is_package : own.package ≡ Some written
  stands : Stands sources (standing_in f folder) (is_member f (member_folders sources f) folder) written own d
  says : IsPackageOf sources f.root (given_to f d.is_member) ws own written (package_at indices d)

package_says : (sources : World) (f : WorkspaceRoot) (ws : Workspace) (indices : List (List ℕ × ℕ)) (folder : List ℕ) (d : UnresolvedPackage) → package_in sources f folder ≡ Ok d → ((x : Wanted) → Contains d.wanted x → Leads indices ws x)
    → IsMade sources f ws indices folder d
package_says sources f ws indices folder d h leads =
    let b : Bool = is_member f (member_folders sources f) folder in
    let own = drafted sources f folder d h in
    let stands = stands_so sources (standing_in f folder) b (given_to f b) own.written own.own d own.made in
    record {
      own = own.own;
      read = own.read;
      written = own.written;
      is_package = own.is_package;
      stands = stands;
      says = subst (λ c. IsPackageOf sources f.root (given_to f c) ws own.own own.written (package_at indices d)) (sym stands.is_member)
          (draft_says sources (standing_in f folder) b (given_to f b) ws indices own.own (manifest_is own.read.bytes own.own own.read.says) own.written d own.made leads);
    }

module _ (sources : World) (f : WorkspaceRoot) (parts : Parts) (ws : Workspace) (r : LoadState) (drafts_are : ws.packages ≡ packages_of (values_of r.found)) (fine : AreFine (values_of r.found))
    (folders : (x : List ℕ) → Contains (folders_of r.found) x ↔ IsPackageFolder sources f parts.found x) (packages : AllByRecursion (λ (e : List ℕ × UnresolvedPackage). package_in sources f e.0 ≡ Ok e.1) r.found) where
  abbrev drafts : List UnresolvedPackage
  drafts = values_of r.found

  abbrev indices : List (List ℕ × ℕ)
  indices = indices_of drafts

  leads_so : (e : List ℕ × UnresolvedPackage) → Contains r.found e → (x : Wanted) → Contains e.1.wanted x → Leads indices ws x
  leads_so e among x there =
      let own : package_in sources f e.0 ≡ Ok e.1 = all_at (λ (e : List ℕ × UnresolvedPackage). package_in sources f e.0 ≡ Ok e.1) r.found e packages among in
      let from : IsPackageFolder sources f parts.found e.0 = (folders e.0).0 (map_each (λ (e : List ℕ × UnresolvedPackage). e.0) r.found e among) in
      let onto : LeadsTo sources f e.0 x.folder = record { owner = e.1; entry = x; package_at = own; is_there = there; leads = refl } in
      let known : Contains (folders_of r.found) x.folder = (folders x.folder).1 (onward e.0 x.folder from onto) in
      let h = index_there drafts x.folder (subst (λ xs. Contains xs x.folder) (sym (own_folders sources f r.found packages)) known) in
      let in_drafts : Contains drafts e.1 = map_each (λ (e : List ℕ × UnresolvedPackage). e.1) r.found e among in
      let drafted : draft_in drafts x.folder ≡ Some h.1 = ap (at_index drafts) h.2 ∙ h.3 in
      let same_name : has_other_name x (draft_in drafts x.folder) ≡ false =
      none_meets (λ (w : Wanted). has_other_name w (draft_in drafts w.folder)) e.1.wanted (none_meets (λ (d : UnresolvedPackage). list_any (λ (w : Wanted). has_other_name w (draft_in drafts w.folder)) d.wanted) drafts fine.names e.1 in_drafts) x there in
      let same_version : has_other_version x (draft_in drafts x.folder) ≡ false =
      none_meets (λ (w : Wanted). has_other_version w (draft_in drafts w.folder)) e.1.wanted (none_meets (λ (d : UnresolvedPackage). list_any (λ (w : Wanted). has_other_version w (draft_in drafts w.folder)) d.wanted) drafts fine.versions e.1 in_drafts) x there in
      let named : bytes_eq x.name h.1.name ≡ true = not_off (bytes_eq x.name h.1.name) (sym (ap (has_other_name x) drafted) ∙ same_name) in
      let right : matches_if x.version h.1.version ≡ true = not_off (matches_if x.version h.1.version) (sym (ap (has_other_version x) drafted) ∙ same_version) in
      record {
        found = package_at indices h.1;
        there = ap (λ o. slice_get ws.packages (unwrap_or o 0)) h.2 ∙ ap (λ ps. slice_get ps h.0) drafts_are ∙ slice_get-map (package_at indices) drafts h.0 ∙ ap (λ o. option_map (package_at indices) o) h.3;
        folder = h.4;
        name = sym ((bytes_eq-Decides x.name h.1.name).0 named);
        version = matched x.version h.1.version right;
      }

  all_made : (p : Package) → Contains ws.packages p → (folder : List ℕ) × (d : UnresolvedPackage) × IsMade sources f ws indices folder d × (package_at indices d ≡ p) × (d.has_same_binaries ≡ false)
  all_made p is =
      let m = map_only (package_at indices) drafts p (subst (λ ps. Contains ps p) drafts_are is) in
      let v = map_only (λ (e : List ℕ × UnresolvedPackage). e.1) r.found m.0 m.1 in
      let own : package_in sources f v.0.0 ≡ Ok v.0.1 = all_at (λ (e : List ℕ × UnresolvedPackage). package_in sources f e.0 ≡ Ok e.1) r.found v.0 packages v.1 in
      (v.0.0, v.0.1, package_says sources f ws indices v.0.0 v.0.1 own (leads_so v.0 v.1), ap (package_at indices) v.2 ∙ m.2, none_meets (λ (d : UnresolvedPackage). d.has_same_binaries) drafts fine.binaries v.0.1 (map_each (λ (e : List ℕ × UnresolvedPackage). e.1) r.found v.0 v.1))

frame_root : (manifest : List ℕ) (o : Option WorkspaceTable) → ((frame_of (folder_of manifest) manifest o).root ≡ folder_of manifest) × ((frame_of (folder_of manifest) manifest o).manifest ≡ manifest)
frame_root manifest None = (refl, refl)
frame_root manifest (Some t) = (refl, refl)

module _ (manifest target : List ℕ) (w : World) (ws : Workspace) (path : is_path manifest ≡ true) where
  abbrev sources : World
  sources = from_nothing target w

  module _ (root : Manifest) (there : IsManifestAt sources manifest root) (read : root_parts sources manifest ≡ Ok (parts_in root)) (made : workspace_of manifest target w ≡ Ok ws) where
    abbrev f : WorkspaceRoot
    f = frame_at manifest (parts_in root)

    record Came : Type 0 where
      r : LoadState
      packages : packages_read sources f (tables_in root) root.package ≡ Ok r
      whole : assembled target f root.profiles (values_of r.found) ≡ ws
      fine : AreFine (values_of r.found)

    came : Came
    unfolding workspace_of workspace_in workspace_from
    came =
        let here : workspace_in sources target f root.profiles (tables_in root) root.package ≡ Ok ws =
        sym (ap (λ x. x >>= (λ (ps : Parts). workspace_in sources target (frame_of (folder_of manifest) manifest ps.workspace) ps.profiles ps.tables ps.found)) read) ∙ made in
        let o = opened (packages_read sources f (tables_in root) root.package) (λ r. workspace_from target f root.profiles (values_of r.found)) ws here in
        let both = by (values_of o.0.found) (fault_of (values_of o.0.found)) refl o.2 in
        record { r = o.0; packages = o.1; whole = both.0; fine = both.1 }
      where
        by : (ds : List UnresolvedPackage) (o : Option LoadFault) → fault_of ds ≡ o → unless o (assembled target f root.profiles ds) ≡ Ok ws → (assembled target f root.profiles ds ≡ ws) × AreFine ds
        by ds None at h = (cc, fine_so ds at)
        by ds (Some fault) at h = cc

    abbrev r : LoadState
    r = came.r

    abbrev drafts_read : List UnresolvedPackage
    drafts_read = values_of r.found

    drafts_are : ws.packages ≡ packages_of drafts_read
    unfolding assembled
    drafts_are = ap (λ (x : Workspace). x.packages) (sym came.whole)

    members_are : ws.default_members ≡ default_members_of f.root ws.packages f.default_members
    unfolding assembled
    members_are = ap (λ (x : Workspace). x.default_members) (sym came.whole) ∙ ap (λ ps. default_members_of f.root ps f.default_members) (sym drafts_are)

    profiles_are : ws.profiles ≡ root.profiles
    unfolding assembled
    profiles_are = ap (λ (x : Workspace). x.profiles) (sym came.whole)

    root_index : ws.root_package ≡ value_of f.root (indices_of drafts_read)
    unfolding assembled
    root_index = ap (λ (x : Workspace). x.root_package) (sym came.whole)

    stands_there : (f.root ≡ folder_of manifest) × (f.manifest ≡ manifest)
    stands_there = frame_root manifest root.workspace

    all_so : ((x : List ℕ) → Contains (folders_of r.found) x ↔ IsPackageFolder sources f root.package x) × AllByRecursion (λ (e : List ℕ × UnresolvedPackage). package_in sources f e.0 ≡ Ok e.1) r.found
    all_so =
        let file = manifest_there sources manifest (parts_in root) path read in
        let at = stands_there in
        let stands : f.manifest ≡ below f.root (codes "Cargo.toml") = at.1 ∙ file.0 ∙ ap (λ x. below x (codes "Cargo.toml")) (sym at.0) in
        all_found sources f (parts_in root) stands (ap (parts_at sources) at.1 ∙ file.1) r came.packages

    few_so : length r.found ≤ 256
    unfolding packages_read others_read
    few_so =
        let file = manifest_there sources manifest (parts_in root) path read in
        let at = stands_there in
        let stands : f.manifest ≡ below f.root (codes "Cargo.toml") = at.1 ∙ file.0 ∙ ap (λ x. below x (codes "Cargo.toml")) (sym at.0) in
        let o = opened (root_read sources f (tables_in root) root.package) (λ first. others_read sources f first) r came.packages in
        let q = opened (all_read (draft_at sources f (member_folders sources f)) o.0 (folders_of (member_folders sources f))) (λ now. rounds 257 (draft_at sources f (member_folders sources f)) now) r o.2 in
        let few = (all_grow (draft_at sources f (member_folders sources f)) (folders_of (member_folders sources f)) o.0 q.0 (begun sources f (parts_in root) stands (ap (parts_at sources) at.1 ∙ file.1) o.0 o.1).1 q.1).few in
        (ends_or_grows (draft_at sources f (member_folders sources f)) 257 q.0 r few q.2).1

    -- the folders of the packages
    folders_so : map (λ (p : Package). p.folder) ws.packages ≡ folders_of r.found
    folders_so = ap (map (λ (p : Package). p.folder)) drafts_are ∙ map_twice (λ (p : Package). p.folder) (package_at (indices_of drafts_read)) drafts_read ∙ own_folders sources f r.found all_so.1

    rise_so : Rises (map (λ (p : Package). p.folder) ws.packages)
    rise_so = subst Rises (sym folders_so) (packages_up sources f (tables_in root) root.package r came.packages)

    set_so : (folder : List ℕ) → Contains (map (λ (p : Package). p.folder) ws.packages) folder ↔ Folders.IsPackageFolder sources f root folder
    set_so folder =
        subst (λ xs. Contains xs folder ↔ Folders.IsPackageFolder sources f root folder) (sym folders_so)
        (folders_are sources f (keyed_so manifest root.workspace (manifest_is there.bytes root there.says).workspace) root r all_so.0 all_so.1 folder)

    -- the root package
    abbrev at_root : Package → Bool
    at_root p = bytes_eq p.folder ws.root

    abbrev IsRootPackage : ℕ → Type 0
    IsRootPackage index = (p : Package) × (slice_get ws.packages index ≡ Some p) × (at_root p ≡ true)

    at_root_so : (index : ℕ) → (ws.root_package ≡ Some index) ↔ IsRootPackage index
    at_root_so index = (onto, back)
      where
        root_is : ws.root ≡ f.root
        root_is = root_kept manifest target w ws made ∙ sym stands_there.0

        package_so : (k : ℕ) (d : UnresolvedPackage) → slice_get drafts_read k ≡ Some d → slice_get ws.packages k ≡ Some (package_at (indices_of drafts_read) d)
        package_so k d at = ap (λ ps. slice_get ps k) drafts_are ∙ slice_get-map (package_at (indices_of drafts_read)) drafts_read k ∙ ap (option_map (package_at (indices_of drafts_read))) at

        onto : ws.root_package ≡ Some index → IsRootPackage index
        onto h =
            let a = indices_are drafts_read f.root index (sym root_index ∙ h) in
            (package_at (indices_of drafts_read) a.0, package_so index a.0 a.1, (bytes_eq-Decides a.0.folder ws.root).1 (a.2 ∙ sym root_is))

        back : IsRootPackage index → ws.root_package ≡ Some index
        back is =
            let in_folder : is.0.folder ≡ f.root = (bytes_eq-Decides is.0.folder ws.root).0 is.2 ∙ root_is in
            let known : Contains (map (λ (p : Package). p.folder) ws.packages) f.root = subst (Contains (map (λ (p : Package). p.folder) ws.packages)) in_folder (map_each (λ (p : Package). p.folder) ws.packages is.0 (contained ws.packages index is.0 is.1)) in
            let h = index_there drafts_read f.root (subst (λ xs. Contains xs f.root) (folders_so ∙ sym (own_folders sources f r.found all_so.1)) known) in
            let same : h.0 ≡ index = same_index (λ (p : Package). p.folder) ws.packages h.0 index (package_at (indices_of drafts_read) h.1) is.0 rise_so (package_so h.0 h.1 h.3) is.1 (h.4 ∙ sym in_folder) in
            root_index ∙ h.2 ∙ ap (λ k. Some k) same

    -- what is promised of each package
    put_so : (es : List (List ℕ × UnresolvedPackage)) → AllByRecursion (λ (e : List ℕ × UnresolvedPackage). package_in sources f e.0 ≡ Ok e.1) es → AllByRecursion IsStoredAt es
    put_so [] all = tt
    put_so (e ∷ es) all =
        let b : Bool = is_member f (member_folders sources f) e.0 in
        let own = drafted sources f e.0 e.1 all.0 in
        let stands = stands_so sources (standing_in f e.0) b (given_to f b) own.written own.own e.1 own.made in (
          (
            stands.folder,
            draft_kept sources (standing_in f e.0) (given_to f b) own.written own.own e.1 (manifest_is own.read.bytes own.own own.read.says) own.is_package stands.name stands.library stands.binaries stands.features
                (wanted_so sources (standing_in f e.0) b (given_to f b) own.written own.own e.1 own.made),
          ),
          put_so es all.1,
        )

    pub settled_so : IsSettled ws
    settled_so =
        let all = put_so r.found all_so.1 in
        subst IsSettled came.whole (assembled_settled target f root.profiles r.found few_so all (packages_up sources f (tables_in root) root.package r came.packages) came.fine.apart)

    abbrev Made : Package → Type 0
    Made p = (indices : List (List ℕ × ℕ)) × (folder : List ℕ) × (d : UnresolvedPackage) × IsMade sources f ws indices folder d × (package_at indices d ≡ p) × (d.has_same_binaries ≡ false)

    each_made : (p : Package) → Contains ws.packages p → Made p
    each_made p is =
        let a = all_made sources f (parts_in root) ws r drafts_are came.fine all_so.0 all_so.1 p is in
        (indices_of drafts_read, a.0, a.1, a.2, a.3, a.4)

    each_member : (p : Package) → Contains ws.packages p → (p.is_member ≡ true) ↔ IsMember sources f p.folder
    each_member p is =
        let a = each_made p is in
        subst (λ (q : Package). (q.is_member ≡ true) ↔ IsMember sources f q.folder) a.4
        (subst (λ b. (b ≡ true) ↔ IsMember sources f a.2.folder) (sym a.3.stands.is_member) (subst (λ x. (is_member f (member_folders sources f) a.1 ≡ true) ↔ IsMember sources f x) (sym a.3.stands.folder) (member_is sources f a.1)))

    binaries_so : FilesHavePaths sources → (at : List (List ℕ × ℕ)) (folder : List ℕ) (d : UnresolvedPackage) (m : IsMade sources f ws at folder d) → d.has_same_binaries ≡ false → HasBinaries sources m.own m.written (package_at at d)
    binaries_so paths at folder d m alone =
        let kept = manifest_is m.read.bytes m.own m.read.says in
        let named : is_name m.written.name ≡ true = (subst (λ o. IfSome o IsPackage) m.is_package kept.found).name in
        let apart : has_same_binaries m.own.binaries ≡ false = sym m.stands.apart ∙ alone in
        record {
          order = subst (λ (bs : List Binary). IsAscending (map (λ (b : Binary). b.name) bs)) (sym m.stands.binaries) (all_rise sources folder paths m.own m.written named apart);
          are = λ b. subst (λ x. Contains d.binaries b ↔ IsBinary sources x m.own m.written b) (sym m.stands.folder)
              (subst (λ (bs : List Binary). Contains bs b ↔ IsBinary sources folder m.own m.written b) (sym m.stands.binaries) (all_are sources folder paths m.own m.written named apart b));
        }

    each_read : (p : Package) → Contains ws.packages p → IsOfItsFolder sources f ws p
    each_read p is =
        let a = each_made p is in
        subst (IsOfItsFolder sources f ws) a.4 (record {
          manifest = a.3.stands.manifest ∙ ap (λ x. below x (codes "Cargo.toml")) (sym a.3.stands.folder);
          own = a.3.own;
          read = subst (λ x. IsManifestAt sources x a.3.own) (sym a.3.stands.manifest) a.3.read;
          written = a.3.written;
          is_package = a.3.is_package;
          member = subst (λ (q : Package). (q.is_member ≡ true) ↔ IsMember sources f q.folder) (sym a.4) (each_member p is);
          says = a.3.says;
          binaries = λ paths. binaries_so paths a.0 a.1 a.2 a.3 a.5;
        })

    pub whole_workspace : IsWorkspaceOf sources manifest root ws
    whole_workspace = record {
      read = there;
      root = root_kept manifest target w ws made;
      order = rise_so;
      folders = set_so;
      packages = each_read;
      root_package = position_is at_root ws.root_package ws.packages at_root_so;
      default_members = members_are ∙ ap (λ x. default_members_of x ws.packages f.default_members) (stands_there.0 ∙ sym (root_kept manifest target w ws made));
      profiles = profiles_are;
    }

pub workspaces_are_read : WorkspacesAreRead
unfolding workspace_of
workspaces_are_read manifest target w ws path made =
    let sources : World = from_nothing target w in
    let o = opened (root_parts sources manifest) (λ (ps : Parts). workspace_in sources target (frame_of (folder_of manifest) manifest ps.workspace) ps.profiles ps.tables ps.found) ws made in
    let there = manifest_there sources manifest o.0 path o.1 in
    let r = parts_read sources manifest o.0 there.1 in
    let read : root_parts sources manifest ≡ Ok (parts_in r.m) = o.1 ∙ ap (λ (ps : Parts). Ok ps) (sym r.same) in
    (target_kept manifest target w ws made, (r.m, whole_workspace manifest target w ws path r.m r.there read made))

pub all_are_settled : AllAreSettled
unfolding workspace_of
all_are_settled manifest target w ws path made =
    let sources : World = from_nothing target w in
    let o = opened (root_parts sources manifest) (λ (ps : Parts). workspace_in sources target (frame_of (folder_of manifest) manifest ps.workspace) ps.profiles ps.tables ps.found) ws made in
    let there = manifest_there sources manifest o.0 path o.1 in
    let r = parts_read sources manifest o.0 there.1 in
    let read : root_parts sources manifest ≡ Ok (parts_in r.m) = o.1 ∙ ap (λ (ps : Parts). Ok ps) (sym r.same) in
    settled_so manifest target w ws path r.m r.there read made
