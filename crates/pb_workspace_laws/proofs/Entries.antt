-- The entries of a package: each asks for what its table says, with what it takes from its workspace.
use Rattle.std.proofs.Common.{inl, inr, ◌≡◌, ◌∙◌, ℕ, Bool, true, false, not, ◌||◌, List, [], ◌∷◌, ◌++◌, map, Contains, Option, Some, None, Ok, IfSome, unwrap_or, slice_get, cond, refl, sym, ap, subst}
use Rattle.std.proofs.lemmas.Slice.Eq.{bytes_eq-Decides}
use Rattle.std.specs.List.{AllZip, find}
use Rattle.std.specs.Str.{bytes_eq}
use Rattle.pb_graph.proofs.Membership.{none, head, tail, cases}
use Rattle.pb_data.specs.UnlessOom.{◌>>=◌, some_or}
use Rattle.pb_manifest_types.specs.Versions.{matches}
use Rattle.pb_manifest_types.specs.declared.dependency.Dependency.{Dependency}
use Rattle.pb_manifest_types.specs.declared.dependency.PathSource.{PathSource}
use Rattle.pb_manifest_types.specs.declared.dependency.Source.{Source}
use Rattle.pb_manifest_types.specs.declared.dependency.Source.TheVariants as source
use Rattle.pb_manifest_types.specs.declared.dependency.WorkspaceDependency.{WorkspaceDependency}
use Rattle.pb_manifest_types.specs.declared.dependency.WorkspaceSource.{WorkspaceSource}
use Rattle.pb_manifest_types.specs.declared.dependency.WorkspaceSource.TheVariants as shared
use Rattle.pb_workspace_types.specs.declared.fault.LoadFault.TheVariants.{NoInherited}
use Rattle.pb_workspace_types.specs.declared.package.DependencyKind.{DependencyKind}
use Rattle.pb_workspace_types.specs.declared.package.Entry.{Entry}
use Rattle.pb_workspace_types.specs.declared.package.Package.{Package}
use Rattle.pb_workspace_types.specs.declared.workspace.Workspace.{Workspace}
use Rattle.pb_workspace.specs.Assembled.{entry_at}
use Rattle.pb_workspace.specs.ByFolder.{value_of}
use Rattle.pb_workspace_package.specs.Wanted.{is_renamed, wanted_at, shared_at, taken_from, wanted_by, wanted_of, each_wanted}
use Rattle.pb_workspace_package.specs.declared.wanted.Wanted.{Wanted}
use Rattle.pb_workspace.proofs.FoldersPut.{opened}
use Rattle.pb_workspace_laws.specs.Packages.{RequestsPackage, path, workspace, IsEntry}

-- the package to which an entry leads
pub record Leads (indices : List (List ℕ × ℕ)) (ws : Workspace) (w : Wanted) : Type 0 where
  pub found : Package
  pub there : slice_get ws.packages (unwrap_or (value_of w.folder indices) 0) ≡ Some found
  pub folder : found.folder ≡ w.folder
  pub name : found.name ≡ w.name
  pub version : IfSome w.version (λ requirement. matches requirement found.version ≡ true)

renamed_so : (key : List ℕ) (name : Option (List ℕ)) → is_renamed key name ≡ not (bytes_eq (unwrap_or name key) key)
renamed_so key None = ap not (sym ((bytes_eq-Decides key key).1 refl))
renamed_so key (Some name) = refl

-- the first that is found is one of them
pub found_one : {A : Type 0} (test : A → Bool) (xs : List A) (x : A) → find test xs ≡ Some x → Contains xs x × (test x ≡ true)
found_one test [] x is = cc
found_one {A} test (y ∷ xs) x is = by (test y) refl is (λ h. found_one test xs x h)
  where
    by : (b : Bool) → test y ≡ b → cond b (Some y) (find test xs) ≡ Some x → (find test xs ≡ Some x → Contains xs x × (test x ≡ true)) → Contains (y ∷ xs) x × (test x ≡ true)
    by true at h rest = let same : y ≡ x = cc in (subst (Contains (y ∷ xs)) same (head y xs), ap test (sym same) ∙ at)
    by false at h rest = let r = rest h in (tail y xs x r.0, r.1)

-- one for one, each beside its kind
pub beside : {K A B : Type 0} (R : K → A → B → Type 0) (k : K) (xs : List A) (ys more : List B) (rest : List (K × A)) → AllZip (R k) xs ys → AllZip (λ (x : K × A) y. R x.0 x.1 y) rest more
    → AllZip (λ (x : K × A) y. R x.0 x.1 y) (map (λ x. (k, x)) xs ++ rest) (ys ++ more)
beside R k [] [] more rest is later = later
beside R k [] (y ∷ ys) more rest is later = absurd is
beside R k (x ∷ xs) [] more rest is later = absurd is
beside R k (x ∷ xs) (y ∷ ys) more rest is later = (is.0, beside R k xs ys more rest is.1 later)

pub beside_one : {K A B : Type 0} (R : K → A → B → Type 0) (k : K) (xs : List A) (ys : List B) → AllZip (R k) xs ys → AllZip (λ (x : K × A) y. R x.0 x.1 y) (map (λ x. (k, x)) xs) ys
beside_one R k [] [] is = tt
beside_one R k [] (y ∷ ys) is = absurd is
beside_one R k (x ∷ xs) [] is = absurd is
beside_one R k (x ∷ xs) (y ∷ ys) is = (is.0, beside_one R k xs ys is.1)

module _ (root folder manifest : List ℕ) (given : List WorkspaceDependency) (kind : DependencyKind) where
  -- what an entry wants is what its dependency asks for
  pub record IsAsked (d : Dependency) (w : Wanted) : Type 0 where
    pub key_is : w.key ≡ d.key
    pub kind_is : w.kind ≡ kind
    pub optional : w.optional ≡ d.optional
    pub s : PathSource
    pub asks : RequestsPackage root folder given d w.folder s w.default_features w.features
    pub name : w.name ≡ unwrap_or s.package w.key
    pub renamed : w.renamed ≡ not (bytes_eq w.name w.key)
    pub version : w.version ≡ s.version

  pub asked_so : (d : Dependency) (w : Wanted) → wanted_of root folder manifest given kind d ≡ Ok w → IsAsked d w
  asked_so d w is = by d.source refl is
    where
      by_path : (s : PathSource) → d.source ≡ source.Path s → wanted_at folder kind d.key d.optional s.default_features d.features s ≡ w → IsAsked d w
      by_path s at same =
          subst (IsAsked d) same (record { key_is = refl; kind_is = refl; optional = refl; s = s; asks = path s at; name = refl; renamed = renamed_so d.key s.package; version = refl })

      by_shared : (default : Bool) (x : WorkspaceDependency) (s : PathSource) → d.source ≡ source.Workspace default → Contains given x → x.key ≡ d.key → x.source ≡ shared.Path s
          → wanted_at root kind d.key d.optional (s.default_features || default) (x.features ++ d.features) s ≡ w → IsAsked d w
      by_shared default x s at there key has same =
          subst (IsAsked d) same (record {
            key_is = refl;
            kind_is = refl;
            optional = refl;
            s = s;
            asks = workspace default at x there key s has;
            name = refl;
            renamed = renamed_so d.key s.package;
            version = refl;
          })

      by_source : (default : Bool) (x : WorkspaceDependency) (o : WorkspaceSource) → d.source ≡ source.Workspace default → Contains given x → x.key ≡ d.key → x.source ≡ o → taken_from root manifest kind d default x o ≡ Ok w
          → IsAsked d w
      by_source default x (shared.Path s) at there key has h = by_shared default x s at there key has (cc)
      by_source default x shared.Unsupported at there key has h = cc

      by : (o : Source) → d.source ≡ o → wanted_by root folder manifest given kind d o ≡ Ok w → IsAsked d w
      by (source.Path s) at h = by_path s at (cc)
      by (source.Workspace default) at h =
          let o = shared_there default w h in
          by_source default o.0 o.0.source at o.1 o.2 refl o.3
        where
          some_there : (found : Option WorkspaceDependency) (x : WorkspaceDependency) → some_or NoInherited found ≡ Ok x → found ≡ Some x
          some_there None x h = cc
          some_there (Some y) x h = let same : y ≡ x = cc in ap (λ z. Some z) same

          shared_there : (default : Bool) (w : Wanted) → wanted_by root folder manifest given kind d (source.Workspace default) ≡ Ok w
              → (x : WorkspaceDependency) × Contains given x × (x.key ≡ d.key) × (taken_from root manifest kind d default x x.source ≡ Ok w)
          shared_there default w h =
              let o = opened (some_or NoInherited (shared_at d.key given)) (λ (x : WorkspaceDependency). taken_from root manifest kind d default x x.source) w h in
              let f = found_one (λ (x : WorkspaceDependency). bytes_eq d.key x.key) given o.0 (some_there (shared_at d.key given) o.0 o.1) in
              (o.0, f.0, sym ((bytes_eq-Decides d.key o.0.key).0 f.1), o.2)

  -- each entry of a table is that of one of its dependencies, and each dependency has one
  pub each_asked : (ds : List Dependency) (wanted : List Wanted) → each_wanted (wanted_of root folder manifest given kind) ds ≡ Ok wanted → (w : Wanted) → Contains wanted w
      → (d : Dependency) × Contains ds d × IsAsked d w
  each_asked [] wanted is w there = let same : [] ≡ wanted = cc in absurd (none w (subst (λ (xs : List Wanted). Contains xs w) (sym same) there))
  each_asked (d ∷ ds) wanted is w there =
      let a = opened (wanted_of root folder manifest given kind d) (λ (w : Wanted). each_wanted (wanted_of root folder manifest given kind) ds >>= (λ rest. Ok (w ∷ rest))) wanted is in
      let b = opened (each_wanted (wanted_of root folder manifest given kind) ds) (λ (rest : List Wanted). Ok (a.0 ∷ rest)) wanted a.2 in
      let same : a.0 ∷ b.0 ≡ wanted = cc (b.2) in
      elim (cases a.0 b.0 w (subst (λ (xs : List Wanted). Contains xs w) (sym same) there)) [
        | inl here ↦ (d, head d ds, subst (IsAsked d) here (asked_so d a.0 a.1))
        | inr later ↦ (let r = each_asked ds b.0 b.1 w later in (r.0, tail d ds r.0 r.1, r.2))
      ]

  pub each_has : (ds : List Dependency) (wanted : List Wanted) → each_wanted (wanted_of root folder manifest given kind) ds ≡ Ok wanted → (d : Dependency) → Contains ds d
      → (w : Wanted) × Contains wanted w × IsAsked d w
  each_has [] wanted is d there = absurd (none d there)
  each_has (e ∷ ds) wanted is d there =
      let a = opened (wanted_of root folder manifest given kind e) (λ (w : Wanted). each_wanted (wanted_of root folder manifest given kind) ds >>= (λ rest. Ok (w ∷ rest))) wanted is in
      let b = opened (each_wanted (wanted_of root folder manifest given kind) ds) (λ (rest : List Wanted). Ok (a.0 ∷ rest)) wanted a.2 in
      let same : a.0 ∷ b.0 ≡ wanted = cc (b.2) in
      elim (cases e ds d there) [
        | inl here ↦ (a.0, subst (λ (xs : List Wanted). Contains xs a.0) same (head a.0 b.0), subst (λ (x : Dependency). IsAsked x a.0) here (asked_so e a.0 a.1))
        | inr later ↦ (let r = each_has ds b.0 b.1 d later in (r.0, subst (λ (xs : List Wanted). Contains xs r.0) same (tail a.0 b.0 r.0 r.1), r.2))
      ]

  module _ (indices : List (List ℕ × ℕ)) (ws : Workspace) where
    abbrev Is : Dependency → Entry → Type 0
    Is = IsEntry root folder given ws kind

    -- one entry
    entry_is : (d : Dependency) (w : Wanted) → IsAsked d w → Leads indices ws w → Is d (entry_at indices w)
    entry_is d w is leads = record {
      key_is = is.key_is;
      kind_is = is.kind_is;
      optional = is.optional;
      s = is.s;
      found = leads.found;
      asks = subst (λ x. RequestsPackage root folder given d x is.s w.default_features w.features) (sym leads.folder) is.asks;
      there = leads.there;
      name = leads.name ∙ is.name;
      renamed = is.renamed ∙ ap (λ x. not (bytes_eq x w.key)) (sym leads.name);
      version = subst (λ o. IfSome o (λ requirement. matches requirement leads.found.version ≡ true)) is.version leads.version;
    }

    -- all entries of a table
    pub entries_are : (ds : List Dependency) (wanted : List Wanted) → each_wanted (wanted_of root folder manifest given kind) ds ≡ Ok wanted → ((w : Wanted) → Contains wanted w → Leads indices ws w)
        → AllZip Is ds (map (entry_at indices) wanted)
    entries_are [] wanted is leads = let same : [] ≡ wanted = cc in subst (λ (xs : List Wanted). AllZip Is [] (map (entry_at indices) xs)) same tt
    entries_are (d ∷ ds) wanted is leads =
        let a = opened (wanted_of root folder manifest given kind d) (λ (w : Wanted). each_wanted (wanted_of root folder manifest given kind) ds >>= (λ rest. Ok (w ∷ rest))) wanted is in
        let b = opened (each_wanted (wanted_of root folder manifest given kind) ds) (λ (rest : List Wanted). Ok (a.0 ∷ rest)) wanted a.2 in
        let same : a.0 ∷ b.0 ≡ wanted = cc (b.2) in
        let all = subst (λ (xs : List Wanted). (w : Wanted) → Contains xs w → Leads indices ws w) (sym same) leads in
        subst (λ (xs : List Wanted). AllZip Is (d ∷ ds) (map (entry_at indices) xs)) same
        (entry_is d a.0 (asked_so d a.0 a.1) (all a.0 (head a.0 b.0)), entries_are ds b.0 b.1 (λ w there. all w (tail a.0 b.0 w there)))
