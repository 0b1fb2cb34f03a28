-- What was read to make a package: its manifest, its tables, its entries.
use Rattle.std.proofs.Common.{inl, inr, ◌≡◌, ◌∙◌, ℕ, Bool, List, [], ◌∷◌, ◌++◌, codes, Option, Some, None, Ok, Err, Result, Contains, refl, sym, ap, subst}
use Rattle.std.specs.FinMap as finite
use Rattle.std.specs.List.{AllByRecursion}
use Rattle.pb_graph.proofs.Membership.{none, cases}
use Rattle.pb_data.specs.UnlessOom.{◌>>=◌, lifted}
use Rattle.pb_manifest.specs.Document.{manifest_of}
use Rattle.pb_manifest_types.specs.declared.manifest.Manifest.{Manifest}
use Rattle.pb_manifest_types.specs.declared.package.Package.{Package as Written}
use Rattle.pb_workspace_types.specs.declared.fault.LoadFault.TheVariants.{Manifest as InManifest}
use Rattle.pb_workspace_types.specs.declared.package.DependencyKind.TheVariants.{Normal, Build as ForScript}
use Rattle.pb_place_types.specs.Paths.{below}
use Rattle.pb_place_types.specs.World.{World}
use Rattle.pb_workspace_package.specs.Drafts.{draft_from, draft_of, draft_with, lists_of}
use Rattle.pb_workspace_package.specs.Features.{features_of}
use Rattle.pb_workspace.specs.Frames.{given_to, is_member}
use Rattle.pb_workspace_package.specs.Keys.{keys_of}
use Rattle.pb_workspace.specs.MemberFolders.{member_folders}
use Rattle.pb_workspace.specs.PackageFolders.{package_in}
use Rattle.pb_workspace.specs.Rounds.{draft_if, draft_in_file, manifest_at, parts_at, parts_in, read_found, standing_in, tables_in}
use Rattle.pb_workspace_package.specs.Settling.{has_same_binaries, targets_of, wanted_in}
use Rattle.pb_workspace_package.specs.Wanted.{each_wanted, wanted_of}
use Rattle.pb_workspace_package.specs.declared.unresolved_package.UnresolvedPackage.{UnresolvedPackage}
use Rattle.pb_workspace_package.specs.declared.unresolved_package.Lists.{Lists}
use Rattle.pb_workspace.specs.declared.workspace_root.WorkspaceRoot.{WorkspaceRoot}
use Rattle.pb_workspace.specs.declared.rounds.Parts.{Parts}
use Rattle.pb_workspace_package.specs.declared.settling.Given.{Given}
use Rattle.pb_workspace_package.specs.declared.wanted.PackageLocation.{PackageLocation}
use Rattle.pb_workspace_package.specs.declared.wanted.Wanted.{Wanted}
use Rattle.pb_workspace.proofs.FoldersPut.{opened}
use Rattle.pb_workspace_laws.specs.Files.{IsManifestAt}

pub all_at : {A : Type 0} (P : A → Type 0) (xs : List A) (x : A) → AllByRecursion P xs → Contains xs x → P x
all_at P [] x all is = absurd (none x is)
all_at P (w ∷ xs) x all is = elim (cases w xs x is) [ inl here ↦ subst P here all.0 | inr there ↦ all_at P xs x all.1 there ]

-- the manifest of a file
lifted_ok : {A E F : Type 0} (wrap : E → F) (r : Result A E) (x : A) → lifted wrap r ≡ Ok x → r ≡ Ok x
lifted_ok wrap (Ok y) x h = let same : y ≡ x = cc in ap (λ z. Ok z) same
lifted_ok wrap (Err e) x h = cc

in_file : (sources : World) (path : List ℕ) (m : Manifest) → manifest_at sources path ≡ Ok m → IsManifestAt sources path m
in_file sources path m h = by (finite.get sources.files path) refl h
  where
    by : (found : Option (List ℕ)) → finite.get sources.files path ≡ found → read_found path found ≡ Ok m → IsManifestAt sources path m
    by None at h = cc
    by (Some bytes) at h = record { bytes = bytes; file = at; says = lifted_ok (InManifest path) (manifest_of bytes) m h }

-- a file says one manifest
pub one_manifest : (sources : World) (file : List ℕ) (m n : Manifest) → IsManifestAt sources file m → IsManifestAt sources file n → m ≡ n
one_manifest sources file m n one other =
    let bytes : Some one.bytes ≡ Some other.bytes = sym one.file ∙ other.file in
    let same : one.bytes ≡ other.bytes = cc in
    let both : Ok m ≡ Ok n = sym one.says ∙ ap manifest_of same ∙ other.says in
    cc

pub record AreRead (sources : World) (path : List ℕ) (parts : Parts) : Type 0 where
  pub m : Manifest
  pub there : IsManifestAt sources path m
  pub same : parts_in m ≡ parts

pub parts_read : (sources : World) (path : List ℕ) (parts : Parts) → parts_at sources path ≡ Ok parts → AreRead sources path parts
parts_read sources path parts h =
    let o = opened (manifest_at sources path) (λ m. Ok (parts_in m)) parts h in
    let same : parts_in o.0 ≡ parts = cc (o.2) in
    record { m = o.0; there = in_file sources path o.0 o.1; same = same }

-- the manifest of a package in a folder
pub record IsDrafted (sources : World) (f : WorkspaceRoot) (folder : List ℕ) (member : Bool) (d : UnresolvedPackage) : Type 0 where
  pub own : Manifest
  pub read : IsManifestAt sources (below folder (codes "Cargo.toml")) own
  pub written : Written
  pub is_package : own.package ≡ Some written
  pub made : draft_of sources (standing_in f folder) member (given_to f member) written (tables_in own) ≡ Ok d

pub drafted : (sources : World) (f : WorkspaceRoot) (folder : List ℕ) (d : UnresolvedPackage) → package_in sources f folder ≡ Ok d → IsDrafted sources f folder (is_member f (member_folders sources f) folder) d
unfolding draft_in_file draft_if
drafted sources f folder d h =
    let member : Bool = is_member f (member_folders sources f) folder in
    let at : PackageLocation = standing_in f folder in
    let o = opened (parts_at sources at.manifest) (λ parts. draft_if sources f member at parts.tables parts.found) d h in
    let r = parts_read sources at.manifest o.0 o.1 in
    let again : draft_if sources f member at (tables_in r.m) r.m.package ≡ Ok d = ap (λ (parts : Parts). draft_if sources f member at parts.tables parts.found) r.same ∙ o.2 in
    by r.m r.there r.m.package refl again
  where
    by : (m : Manifest) → IsManifestAt sources (below folder (codes "Cargo.toml")) m → (found : Option Written) → m.package ≡ found → draft_if sources f (is_member f (member_folders sources f) folder) (standing_in f folder) (tables_in m) found ≡ Ok d
        → IsDrafted sources f folder (is_member f (member_folders sources f) folder) d
    by m there None is h = cc
    by m there (Some w) is h = record { own = m; read = there; written = w; is_package = is; made = h }

-- its entries
pub record AreWanted (at : PackageLocation) (given : Given) (m : Manifest) (wanted : List Wanted) : Type 0 where
  pub normal : List Wanted
  pub for_script : List Wanted
  pub of_dependencies : each_wanted (wanted_of at.root at.folder at.manifest given.dependencies Normal) m.dependencies ≡ Ok normal
  pub of_build_dependencies : each_wanted (wanted_of at.root at.folder at.manifest given.dependencies ForScript) m.build_dependencies ≡ Ok for_script
  pub whole : normal ++ for_script ≡ wanted

pub wanted_so : (sources : World) (at : PackageLocation) (member : Bool) (given : Given) (w : Written) (m : Manifest) (d : UnresolvedPackage) → draft_of sources at member given w (tables_in m) ≡ Ok d → AreWanted at given m d.wanted
unfolding draft_of draft_with
wanted_so sources at member given w m d h =
    let k = opened (keys_of sources at given.package w) (λ k. draft_with sources at member given (tables_in m) k) d h in
    let l = opened (lists_of at given m.dependencies m.build_dependencies m.features m.binaries)
    (λ lists. Ok (draft_from at member k.0 lists m.dev_dependencies (targets_of at.folder sources k.0.name k.0.autobins k.0.build m.library m.binaries))) d k.2 in
    let o = opened (wanted_in at given m.dependencies m.build_dependencies) (λ wanted. Ok record { wanted = wanted; features = features_of m.features m.dependencies m.build_dependencies; has_same_binaries = has_same_binaries m.binaries }) l.0 l.1 in
    let n = opened (each_wanted (wanted_of at.root at.folder at.manifest given.dependencies Normal) m.dependencies)
    (λ normal. each_wanted (wanted_of at.root at.folder at.manifest given.dependencies ForScript) m.build_dependencies >>= (λ for_script. Ok (normal ++ for_script))) o.0 o.1 in
    let s = opened (each_wanted (wanted_of at.root at.folder at.manifest given.dependencies ForScript) m.build_dependencies) (λ for_script. Ok (n.0 ++ for_script)) o.0 n.2 in
    let both : n.0 ++ s.0 ≡ o.0 = cc (s.2) in
    let lists : record { wanted = o.0; features = features_of m.features m.dependencies m.build_dependencies; has_same_binaries = has_same_binaries m.binaries } ≡ l.0 = cc (o.2) in
    let same : draft_from at member k.0 l.0 m.dev_dependencies (targets_of at.folder sources k.0.name k.0.autobins k.0.build m.library m.binaries) ≡ d = cc (l.2) in
    record {
      normal = n.0;
      for_script = s.0;
      of_dependencies = n.1;
      of_build_dependencies = s.1;
      whole = both ∙ ap (λ (x : Lists). x.wanted) lists ∙ ap (λ (x : UnresolvedPackage). x.wanted) same;
    }
