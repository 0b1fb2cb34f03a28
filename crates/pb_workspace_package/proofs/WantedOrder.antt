-- What entries ask for stands in the order of the entries, under their keys.
use Rattle.std.proofs.Common.{◌≡◌, ℕ, Less, Bool, true, List, [], ◌∷◌, ◌++◌, Option, Some, None, Result, Ok, Err, map, refl, sym, ◌∙◌, ap, subst}
use Rattle.std.specs.List.{AllByRecursion}
use Rattle.std.specs.List.Sorted.{IsStrictlySortedBy}
use Rattle.std.specs.Ordering.{nat_cmp}
use Rattle.std.specs.Cmp.Lexicographic.{slice_cmp}
use Rattle.pb_data.specs.UnlessOom.{◌>>=◌, some_or}
use Rattle.pb_manifest_types.specs.declared.dependency.Dependency.{Dependency}
use Rattle.pb_manifest_types.specs.declared.dependency.Source.{Source}
use Rattle.pb_manifest_types.specs.declared.dependency.Source.TheVariants.{Path, Workspace}
use Rattle.pb_manifest_types.specs.declared.dependency.WorkspaceDependency.{WorkspaceDependency}
use Rattle.pb_manifest_types.specs.declared.dependency.WorkspaceSource.{WorkspaceSource}
use Rattle.pb_manifest_types.specs.declared.dependency.WorkspaceSource.TheVariants as shared
use Rattle.pb_manifest_types.specs.Letters.{is_name}
use Rattle.pb_workspace_types.specs.ByKey.{table_key}
use Rattle.pb_workspace_package.specs.Drafted.{IsKeyed, IsWantedKeyed}
use Rattle.pb_workspace_types.specs.Settled.{IsAscending}
use Rattle.pb_workspace_package.specs.Wanted.{each_wanted, shared_at, taken_from, wanted_by, wanted_of}
use Rattle.pb_workspace_types.specs.declared.fault.LoadFault.{LoadFault}
use Rattle.pb_workspace_types.specs.declared.fault.LoadFault.TheVariants.{NoInherited}
use Rattle.pb_workspace_types.specs.declared.package.DependencyKind.{DependencyKind}
use Rattle.pb_workspace_types.specs.declared.package.DependencyKind.TheVariants.{Normal, Build}
use Rattle.pb_workspace_package.specs.declared.wanted.Wanted.{Wanted}

abbrev key_of : Wanted → List ℕ
key_of w = table_key w.kind w.key

abbrev keyed : DependencyKind → Dependency → List ℕ
keyed kind d = table_key kind d.key

same_ok : {A B : Type 0} (x y : A) → ◌≡◌ {A = Result A B} (Ok x) (Ok y) → x ≡ y
same_ok x y e = cc

module _ (root folder manifest : List ℕ) (given : List WorkspaceDependency) (kind : DependencyKind) where
  taken_key : (d : Dependency) (default : Bool) (s : WorkspaceDependency) (source : WorkspaceSource) (w : Wanted) → taken_from root manifest kind d default s source ≡ Ok w → key_of w ≡ keyed kind d
  taken_key d default s (shared.Path source) w is = ap key_of (sym (same_ok _ w is))
  taken_key d default s shared.Unsupported w is = cc

  one_key : (d : Dependency) (source : Source) (w : Wanted) → wanted_by root folder manifest given kind d source ≡ Ok w → key_of w ≡ keyed kind d
  one_key d (Path source) w is = ap key_of (sym (same_ok _ w is))
  one_key d (Workspace default) w is = by (shared_at d.key given) is
    where
      by : (found : Option WorkspaceDependency) → (some_or NoInherited found >>= (λ s. taken_from root manifest kind d default s s.source)) ≡ Ok w → key_of w ≡ keyed kind d
      by None h = cc
      by (Some s) h = taken_key d default s s.source w h

  keys_kept : (ds : List Dependency) (ws : List Wanted) → each_wanted (wanted_of root folder manifest given kind) ds ≡ Ok ws → map key_of ws ≡ map (keyed kind) ds
  keys_kept [] ws is = ap (map key_of) (sym (same_ok [] ws is))
  keys_kept (d ∷ ds) ws is = by (λ more at. keys_kept ds more at) (wanted_of root folder manifest given kind d) refl is
    where
      rest : ((more : List Wanted) → each_wanted (wanted_of root folder manifest given kind) ds ≡ Ok more → map key_of more ≡ map (keyed kind) ds)
          → (w : Wanted) (left : Result (List Wanted) LoadFault) → each_wanted (wanted_of root folder manifest given kind) ds ≡ left → wanted_of root folder manifest given kind d ≡ Ok w
          → (left >>= (λ more. Ok (w ∷ more))) ≡ Ok ws → map key_of ws ≡ map (keyed kind) (d ∷ ds)
      rest others w (Err e) at one h = cc
      rest others w (Ok more) at one h =
          ap (map key_of) (sym (same_ok (w ∷ more) ws h)) ∙ ap (λ k. k ∷ map key_of more) (one_key d d.source w one) ∙ ap (λ ks. keyed kind d ∷ ks) (others more at)

      by : ((more : List Wanted) → each_wanted (wanted_of root folder manifest given kind) ds ≡ Ok more → map key_of more ≡ map (keyed kind) ds)
          → (one : Result Wanted LoadFault) → wanted_of root folder manifest given kind d ≡ one
          → (one >>= (λ w. each_wanted (wanted_of root folder manifest given kind) ds >>= (λ more. Ok (w ∷ more)))) ≡ Ok ws → map key_of ws ≡ map (keyed kind) (d ∷ ds)
      by others (Err e) at h = cc
      by others (Ok w) at h = rest others w (each_wanted (wanted_of root folder manifest given kind) ds) refl at h

-- keys of one table
after_all : (kind : DependencyKind) (a : List ℕ) (ds : List Dependency) → AllByRecursion (λ y. slice_cmp nat_cmp a y ≡ Less) (map (λ (d : Dependency). d.key) ds) → AllByRecursion (λ y. slice_cmp nat_cmp (table_key kind a) y ≡ Less) (map (keyed kind) ds)
after_all kind a [] all = tt
after_all Normal a (d ∷ ds) all = (all.0, after_all Normal a ds all.1)
after_all Build a (d ∷ ds) all = (all.0, after_all Build a ds all.1)

of_table : (kind : DependencyKind) (ds : List Dependency) → IsAscending (map (λ (d : Dependency). d.key) ds) → IsAscending (map (keyed kind) ds)
unfolding IsStrictlySortedBy
of_table kind [] up = tt
of_table kind (d ∷ ds) up = (after_all kind d.key ds up.0, of_table kind ds up.1)

-- the keys of the second table come after those of the first
behind : (a : List ℕ) (bs : List Dependency) → AllByRecursion (λ y. slice_cmp nat_cmp (table_key Normal a) y ≡ Less) (map (keyed Build) bs)
behind a [] = tt
behind a (b ∷ bs) = (refl, behind a bs)

both_all : {A : Type 0} (P : A → Type 0) (xs ys : List A) → AllByRecursion P xs → AllByRecursion P ys → AllByRecursion P (xs ++ ys)
both_all P [] ys one two = two
both_all P (x ∷ xs) ys one two = (one.0, both_all P xs ys one.1 two)

of_both : (ds bs : List Dependency) → IsAscending (map (keyed Normal) ds) → IsAscending (map (keyed Build) bs) → IsAscending (map (keyed Normal) ds ++ map (keyed Build) bs)
unfolding IsStrictlySortedBy
of_both [] bs one two = two
of_both (d ∷ ds) bs one two = (both_all _ (map (keyed Normal) ds) (map (keyed Build) bs) one.0 (behind d.key bs), of_both ds bs one.1 two)

map_both : {A B : Type 0} (f : A → B) (xs ys : List A) → map f (xs ++ ys) ≡ map f xs ++ map f ys
map_both f [] ys = refl
map_both f (x ∷ xs) ys = ap (λ zs. f x ∷ zs) (map_both f xs ys)

pub wanted_ascend : (root folder manifest : List ℕ) (given : List WorkspaceDependency) (ds bs : List Dependency) (normal script made : List Wanted)
    → IsAscending (map (λ (d : Dependency). d.key) ds) → IsAscending (map (λ (d : Dependency). d.key) bs)
    → each_wanted (wanted_of root folder manifest given Normal) ds ≡ Ok normal → each_wanted (wanted_of root folder manifest given Build) bs ≡ Ok script
    → made ≡ normal ++ script → IsAscending (map (λ (w : Wanted). table_key w.kind w.key) made)
wanted_ascend root folder manifest given ds bs normal script made one two at then same =
    let first : map key_of normal ≡ map (keyed Normal) ds = keys_kept root folder manifest given Normal ds normal at in
    let second : map key_of script ≡ map (keyed Build) bs = keys_kept root folder manifest given Build bs script then in
    let e : map key_of made ≡ map (keyed Normal) ds ++ map (keyed Build) bs = ap (map key_of) same ∙ map_both key_of normal script ∙ ap (λ ks. ks ++ map key_of script) first ∙ ap (λ ks. map (keyed Normal) ds ++ ks) second in
    subst IsAscending (sym e) (of_both ds bs (of_table Normal ds one) (of_table Build bs two))

-- and their keys are names
abbrev EndsInName : List ℕ → Type 0
EndsInName [] = Unit {0}
EndsInName (table ∷ key) = is_name key ≡ true

named_keys : (kind : DependencyKind) (ds : List Dependency) → AllByRecursion IsKeyed ds → AllByRecursion EndsInName (map (keyed kind) ds)
named_keys kind [] all = tt
named_keys kind (d ∷ ds) all = (all.0, named_keys kind ds all.1)

own_keys : (ws : List Wanted) → AllByRecursion EndsInName (map key_of ws) → AllByRecursion IsWantedKeyed ws
own_keys [] all = tt
own_keys (w ∷ ws) all = (all.0, own_keys ws all.1)

pub wanted_named : (root folder manifest : List ℕ) (given : List WorkspaceDependency) (ds bs : List Dependency) (normal script made : List Wanted)
    → AllByRecursion IsKeyed ds → AllByRecursion IsKeyed bs
    → each_wanted (wanted_of root folder manifest given Normal) ds ≡ Ok normal → each_wanted (wanted_of root folder manifest given Build) bs ≡ Ok script
    → made ≡ normal ++ script → AllByRecursion IsWantedKeyed made
wanted_named root folder manifest given ds bs normal script made one two at then same =
    let first : AllByRecursion IsWantedKeyed normal = own_keys normal (subst (AllByRecursion EndsInName) (sym (keys_kept root folder manifest given Normal ds normal at)) (named_keys Normal ds one)) in
    let second : AllByRecursion IsWantedKeyed script = own_keys script (subst (AllByRecursion EndsInName) (sym (keys_kept root folder manifest given Build bs script then)) (named_keys Build bs two)) in
    subst (AllByRecursion IsWantedKeyed) (sym same) (both_all IsWantedKeyed normal script first second)
