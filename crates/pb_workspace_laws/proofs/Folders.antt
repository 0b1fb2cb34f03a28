-- The folders of packages: what the loader's drafts lead to is what the dependencies of manifests ask for.
use Rattle.std.proofs.Common.{inl, inr, ◌≡◌, ◌↔◌, ◌∙◌, ℕ, Bool, true, false, Option, None, Some, IfSome, ◌||◌, List, ◌++◌, map, Contains, Ok, refl, sym, ap, subst}
use Rattle.std.proofs.lemmas.List.Elements.{Contains-append_left, Contains-append_right, Contains-append_cases}
use Rattle.std.specs.List.{AllByRecursion}
use Rattle.std.specs.List.Sorted.{IsStrictlySortedBy}
use Rattle.pb_graph.proofs.Membership.{none}
use Rattle.pb_graph.specs.Closure.{start, onward}
use Rattle.pb_manifest_types.specs.declared.dependency.Dependency.{Dependency}
use Rattle.pb_manifest_types.specs.declared.dependency.PathSource.{PathSource}
use Rattle.pb_manifest_types.specs.declared.dependency.Source.TheVariants as source
use Rattle.pb_manifest_types.specs.declared.dependency.WorkspaceDependency.{WorkspaceDependency}
use Rattle.pb_manifest_types.specs.declared.dependency.WorkspaceSource.TheVariants as shared
use Rattle.pb_manifest.specs.Promises.{IsWorkspaceTable}
use Rattle.pb_manifest_types.specs.declared.manifest.Manifest.{Manifest}
use Rattle.pb_manifest_types.specs.declared.manifest.WorkspaceTable.{WorkspaceTable}
use Rattle.pb_workspace_types.specs.declared.package.DependencyKind.TheVariants.{Normal, Build as ForScript}
use Rattle.pb_place_types.specs.Paths.{folder_of}
use Rattle.pb_place_types.specs.World.{World}
use Rattle.pb_workspace.specs.ByFolder.{folders_of}
use Rattle.pb_workspace.specs.Frames.{frame_of, given_to, is_member}
use Rattle.pb_workspace.specs.MemberFolders.{member_folders}
use Rattle.pb_workspace.specs.PackageFolders as drafts
use Rattle.pb_workspace.specs.Rounds.{standing_in}
use Rattle.pb_workspace_package.specs.Sources.{resolved}
use Rattle.pb_workspace_package.specs.declared.unresolved_package.UnresolvedPackage.{UnresolvedPackage}
use Rattle.pb_workspace.specs.declared.workspace_root.WorkspaceRoot.{WorkspaceRoot}
use Rattle.pb_workspace.specs.declared.rounds.LoadState.{LoadState}
use Rattle.pb_workspace_package.specs.declared.wanted.Wanted.{Wanted}
use Rattle.pb_workspace.proofs.WholeWorkspace.{map_only, map_each}
use Rattle.pb_workspace_laws.specs.Folders.{IsRootOrMember, LeadsTo, IsPackageFolder, root, member}
use Rattle.pb_workspace_laws.specs.Packages.{RequestsPackage, path, workspace}
use Rattle.pb_workspace_laws.proofs.Entries.{each_asked, each_has}
use Rattle.pb_workspace_laws.proofs.Reading.{all_at, one_manifest, drafted, wanted_so}
use Rattle.pb_workspace_laws.proofs.Sorting.{Rises, one_of_key}

abbrev pub Keyed : List WorkspaceDependency → Type 0
Keyed entries = Rises (map (λ (w : WorkspaceDependency). w.key) entries)

-- the workspace's entries stand in order of their keys
pub keyed_so : (manifest : List ℕ) (o : Option WorkspaceTable) → IfSome o IsWorkspaceTable → Keyed (frame_of (folder_of manifest) manifest o).given.dependencies
unfolding IsStrictlySortedBy
keyed_so manifest None is = tt
keyed_so manifest (Some t) is = is.dependencies.order

-- a dependency asks for one thing
pub record IsOne (to other : List ℕ) (s t : PathSource) (a b : Bool) (xs ys : List (List ℕ)) : Type 0 where
  pub to_is : to ≡ other
  pub source_is : s ≡ t
  pub default_is : a ≡ b
  pub features_are : xs ≡ ys

module _ (base folder : List ℕ) (entries : List WorkspaceDependency) (up : Keyed entries) (d : Dependency) where
  pub asks_one : (to other : List ℕ) (s t : PathSource) (a b : Bool) (xs ys : List (List ℕ)) → RequestsPackage base folder entries d to s a xs → RequestsPackage base folder entries d other t b ys → IsOne to other s t a b xs ys
  asks_one _ _ _ _ _ _ _ _ (path s is) (path t other) =
      let both : source.Path s ≡ source.Path t = sym is ∙ other in
      let same : s ≡ t = cc in
      record { to_is = ap (λ (u : PathSource). resolved folder u.path) same; source_is = same; default_is = ap (λ (u : PathSource). u.default_features) same; features_are = refl }
  asks_one _ _ _ _ _ _ _ _ (path s is) (workspace default other v there same t has) = let no : source.Path s ≡ source.Workspace default = sym is ∙ other in cc
  asks_one _ _ _ _ _ _ _ _ (workspace default is w there same s has) (path t other) = let no : source.Workspace default ≡ source.Path t = sym is ∙ other in cc
  asks_one _ _ _ _ _ _ _ _ (workspace a is w there same s has) (workspace b other v there_too same_too t has_too) =
      let both : source.Workspace a ≡ source.Workspace b = sym is ∙ other in
      let asked : a ≡ b = cc in
      let one : w ≡ v = one_of_key (λ (x : WorkspaceDependency). x.key) entries w v up there there_too (same ∙ sym same_too) in
      let sources_are : shared.Path s ≡ shared.Path t = sym has ∙ ap (λ (x : WorkspaceDependency). x.source) one ∙ has_too in
      let same_source : s ≡ t = cc in
      record {
        to_is = ap (λ (u : PathSource). resolved base u.path) same_source;
        source_is = same_source;
        default_is = ap (λ x. s.default_features || x) asked ∙ ap (λ (u : PathSource). u.default_features || b) same_source;
        features_are = ap (λ (x : WorkspaceDependency). x.features ++ d.features) one;
      }

module _ (sources : World) (f : WorkspaceRoot) (up : Keyed f.given.dependencies) where
  -- what is taken from the workspace is taken from its entries
  widened : (b : Bool) (x : List ℕ) (d : Dependency) (to : List ℕ) (s : PathSource) (default : Bool) (features : List (List ℕ)) → RequestsPackage f.root x (given_to f b).dependencies d to s default features
      → RequestsPackage f.root x f.given.dependencies d to s default features
  widened true x d to s default features asks = asks
  widened false x d _ _ _ _ (path s is) = path s is
  widened false x d _ _ _ _ (workspace default is w there same s has) = absurd (none w there)

  -- a draft leads where the dependencies of its manifest ask for
  leads_only : (x y : List ℕ) (d : UnresolvedPackage) → drafts.package_in sources f x ≡ Ok d → Contains (map (λ (w : Wanted). w.folder) d.wanted) y → LeadsTo sources f x y
  leads_only x y d is there =
      let own = drafted sources f x d is in
      let b : Bool = is_member f (member_folders sources f) x in
      let wanted = wanted_so sources (standing_in f x) b (given_to f b) own.written own.own d own.made in
      let m = map_only (λ (w : Wanted). w.folder) d.wanted y there in
      let leads : (dd : Dependency) → Contains (own.own.dependencies ++ own.own.build_dependencies) dd → (s : PathSource) → RequestsPackage f.root x (given_to f b).dependencies dd m.0.folder s m.0.default_features m.0.features → LeadsTo sources f x y =
      (λ dd among s asks. record {
        own = own.own;
        read = own.read;
        d = dd;
        is_there = among;
        s = s;
        default = m.0.default_features;
        features = m.0.features;
        asks = subst (λ z. RequestsPackage f.root x f.given.dependencies dd z s m.0.default_features m.0.features) m.2 (widened b x dd m.0.folder s m.0.default_features m.0.features asks);
      }) in
      elim (Contains-append_cases wanted.normal wanted.for_script m.0 (subst (λ ws. Contains ws m.0) (sym wanted.whole) m.1)) [
        | inl first ↦ (let e = each_asked f.root x (standing_in f x).manifest (given_to f b).dependencies Normal own.own.dependencies wanted.normal wanted.of_dependencies m.0 first in
            leads e.0 (Contains-append_left own.own.dependencies own.own.build_dependencies e.0 e.1) e.2.s e.2.asks)
        | inr second ↦ (let e = each_asked f.root x (standing_in f x).manifest (given_to f b).dependencies ForScript own.own.build_dependencies wanted.for_script wanted.of_build_dependencies m.0 second in
            leads e.0 (Contains-append_right own.own.dependencies own.own.build_dependencies e.0 e.1) e.2.s e.2.asks)
      ]

  leads_each : (x y : List ℕ) (d : UnresolvedPackage) → drafts.package_in sources f x ≡ Ok d → LeadsTo sources f x y → Contains (map (λ (w : Wanted). w.folder) d.wanted) y
  leads_each x y d is l =
      let own = drafted sources f x d is in
      let b : Bool = is_member f (member_folders sources f) x in
      let wanted = wanted_so sources (standing_in f x) b (given_to f b) own.written own.own d own.made in
      let same : l.own ≡ own.own = one_manifest sources _ l.own own.own l.read own.read in
      let there : Contains (own.own.dependencies ++ own.own.build_dependencies) l.d = subst (λ (m : Manifest). Contains (m.dependencies ++ m.build_dependencies) l.d) same l.is_there in
      let leads : (w : Wanted) → Contains d.wanted w → (s : PathSource) → RequestsPackage f.root x (given_to f b).dependencies l.d w.folder s w.default_features w.features → Contains (map (λ (w : Wanted). w.folder) d.wanted) y =
      (λ w among s asks. subst (Contains (map (λ (w : Wanted). w.folder) d.wanted))
      (asks_one f.root x f.given.dependencies up l.d w.folder y s l.s w.default_features l.default w.features l.features (widened b x l.d w.folder s w.default_features w.features asks) l.asks).to_is
      (map_each (λ (w : Wanted). w.folder) d.wanted w among)) in
      elim (Contains-append_cases own.own.dependencies own.own.build_dependencies l.d there) [
        | inl first ↦ (let e = each_has f.root x (standing_in f x).manifest (given_to f b).dependencies Normal own.own.dependencies wanted.normal wanted.of_dependencies l.d first in
            leads e.0 (subst (λ ws. Contains ws e.0) wanted.whole (Contains-append_left wanted.normal wanted.for_script e.0 e.1)) e.2.s e.2.asks)
        | inr second ↦ (let e = each_has f.root x (standing_in f x).manifest (given_to f b).dependencies ForScript own.own.build_dependencies wanted.for_script wanted.of_build_dependencies l.d second in
            leads e.0 (subst (λ ws. Contains ws e.0) wanted.whole (Contains-append_right wanted.normal wanted.for_script e.0 e.1)) e.2.s e.2.asks)
      ]

  -- so both sets of folders are one
  module _ (r : Manifest) (reading : LoadState) (found : (x : List ℕ) → Contains (folders_of reading.found) x ↔ drafts.IsPackageFolder sources f r.package x)
      (packs : AllByRecursion (λ (e : List ℕ × UnresolvedPackage). drafts.package_in sources f e.0 ≡ Ok e.1) reading.found) where
    its_draft : (x : List ℕ) → Contains (folders_of reading.found) x → (d : UnresolvedPackage) × (drafts.package_in sources f x ≡ Ok d)
    its_draft x there =
        let m = map_only (λ (e : List ℕ × UnresolvedPackage). e.0) reading.found x there in
        (m.0.1, ap (drafts.package_in sources f) (sym m.2) ∙ all_at (λ (e : List ℕ × UnresolvedPackage). drafts.package_in sources f e.0 ≡ Ok e.1) reading.found m.0 packs m.1)

    first_to : (x : List ℕ) → drafts.IsRootOrMember sources f r.package x → IsRootOrMember sources f r x
    first_to _ (drafts.root p is) = root p is refl
    first_to _ (drafts.member text x written means) = member text written means

    first_from : (x : List ℕ) → IsRootOrMember sources f r x → drafts.IsRootOrMember sources f r.package x
    first_from x (root p is here) = subst (drafts.IsRootOrMember sources f r.package) (sym here) (drafts.root p is)
    first_from x (member text written means) = drafts.member text x written means

    folders_to : (x : List ℕ) → drafts.IsPackageFolder sources f r.package x → IsPackageFolder sources f r x
    folders_to _ (start x first) = start x (first_to x first)
    folders_to _ (onward x y before leads) =
        onward x y (folders_to x before) (leads_only x y leads.owner leads.package_at (subst (Contains (map (λ (w : Wanted). w.folder) leads.owner.wanted)) leads.leads (map_each (λ (w : Wanted). w.folder) leads.owner.wanted leads.entry leads.is_there)))

    folders_from : (x : List ℕ) → IsPackageFolder sources f r x → drafts.IsPackageFolder sources f r.package x
    folders_from _ (start x first) = start x (first_from x first)
    folders_from _ (onward x y before leads) =
        let earlier = folders_from x before in
        let d = its_draft x ((found x).1 earlier) in
        let m = map_only (λ (w : Wanted). w.folder) d.0.wanted y (leads_each x y d.0 d.1 leads) in
        onward x y earlier (record { owner = d.0; entry = m.0; package_at = d.1; is_there = m.1; leads = m.2 })

    pub folders_are : (x : List ℕ) → Contains (folders_of reading.found) x ↔ IsPackageFolder sources f r x
    folders_are x = (λ there. folders_to x ((found x).0 there), λ is. (found x).1 (folders_from x is))
