-- The indices of packages, by their folders.
use Rattle.std.proofs.Common.{◌≡◌, ◌⊎◌, inl, inr, ◌+◌, ◌++◌, ℕ, List, [], ◌∷◌, length, map, Bool, true, false, cond, slice_get, Some, None, Contains, refl, sym, ap, ◌∙◌, subst, arith, append_assoc, Ordering, Less, Equal, Greater}
use Rattle.std.specs.BTreeMap.{insert_entry, is_at}
use Rattle.std.specs.Cmp.{eq_by_cmp_equiv}
use Rattle.std.specs.Map.{lookup}
use Rattle.std.specs.Cmp.Lexicographic.{nat_list_cmp_total}
use Rattle.std.specs.Ordering.{is_eq, match_ordering}
use Rattle.std.proofs.lemmas.List.{length-append}
use Rattle.pb_graph.proofs.Membership.{none, cases}
use Rattle.pb_place_types.proofs.MapLemmas.{exact}
use Rattle.pb_workspace_package.specs.declared.unresolved_package.UnresolvedPackage.{UnresolvedPackage}
use Rattle.pb_workspace.specs.ByFolder.{folders_of, value_of}
use Rattle.pb_workspace.specs.Indices.{numbered, indices_of}
use Rattle.pb_workspace_package.specs.Sorted.{with_entry}
use Rattle.pb_workspace.proofs.FoldersPut.{Path, cmp, put_old, put_new}

-- a value that is found among entries with one more is the new one's, or was found before
value_put : {V : Type 0} (es : List (Path × V)) (k : Path) (v : V) (q : Path) (x : V) → value_of q (with_entry es k v) ≡ Some x → ((q ≡ k) × (v ≡ x)) ⊎ (value_of q es ≡ Some x)
value_put {V} [] k v q x is = by (cmp q k) refl is
  where
    by : (o : Ordering) → cmp q k ≡ o → cond (is_eq o) (Some v) None ≡ Some x → ((q ≡ k) × (v ≡ x)) ⊎ (value_of {V = V} q [] ≡ Some x)
    by Less at h = cc
    by Equal at h = let same : v ≡ x = cc in inl (exact q k at, same)
    by Greater at h = cc
value_put {V} (e ∷ es) k v q x is = by (cmp k e.0) refl is (value_put es k v q x)
  where
    new : (o : Ordering) → cmp q k ≡ o → cond (is_eq o) (Some v) (value_of q (e ∷ es)) ≡ Some x → ((q ≡ k) × (v ≡ x)) ⊎ (value_of q (e ∷ es) ≡ Some x)
    new Less at h = inr h
    new Equal at h = let same : v ≡ x = cc in inl (exact q k at, same)
    new Greater at h = inr h

    again : (o : Ordering) → cmp q e.0 ≡ o → k ≡ e.0 → cond (is_eq o) (Some v) (lookup (is_at (cmp q)) es) ≡ Some x → ((q ≡ k) × (v ≡ x)) ⊎ (cond (is_eq o) (Some e.1) (lookup (is_at (cmp q)) es) ≡ Some x)
    again Less at same h = inr h
    again Equal at same h = let is_v : v ≡ x = cc in inl (exact q e.0 at ∙ sym same, is_v)
    again Greater at same h = inr h

    past : (o : Ordering) → cond (is_eq o) (Some e.1) (lookup (is_at (cmp q)) (insert_entry cmp es k v)) ≡ Some x
        → (lookup (is_at (cmp q)) (insert_entry cmp es k v) ≡ Some x → ((q ≡ k) × (v ≡ x)) ⊎ (value_of q es ≡ Some x))
        → ((q ≡ k) × (v ≡ x)) ⊎ (cond (is_eq o) (Some e.1) (lookup (is_at (cmp q)) es) ≡ Some x)
    past Less h rest = rest h
    past Equal h rest = inr h
    past Greater h rest = rest h

    by : (o : Ordering) → cmp k e.0 ≡ o → lookup (is_at (cmp q)) (match_ordering o ((k, v) ∷ e ∷ es) ((e.0, v) ∷ es) (e ∷ insert_entry cmp es k v)) ≡ Some x
        → (lookup (is_at (cmp q)) (insert_entry cmp es k v) ≡ Some x → ((q ≡ k) × (v ≡ x)) ⊎ (value_of q es ≡ Some x)) → ((q ≡ k) × (v ≡ x)) ⊎ (value_of q (e ∷ es) ≡ Some x)
    by Less at h rest = new (cmp q k) refl h
    by Equal at h rest = again (cmp q e.0) refl (exact k e.0 at) h
    by Greater at h rest = past (cmp q e.0) h rest

itself : (q : Path) → is_at (cmp q) q ≡ true
itself q = (eq_by_cmp_equiv nat_list_cmp_total).refl q

-- each folder among entries has a value
value_there : {V : Type 0} (es : List (Path × V)) (q : Path) → Contains (folders_of es) q → (x : V) × (value_of q es ≡ Some x)
value_there [] q is = absurd (none q is)
value_there {V} (e ∷ es) q is = elim (cases e.0 (folders_of es) q is) [
  | inl here ↦ (e.1, ap (λ b. cond b (Some e.1) (lookup (is_at (cmp q)) es)) (subst (λ z. is_at (cmp q) z ≡ true) (sym here) (itself q)))
  | inr there ↦ by (is_at (cmp q) e.0) (value_there es q there)
]
  where
    by : (b : Bool) → ((x : V) × (value_of q es ≡ Some x)) → (x : V) × (cond b (Some e.1) (lookup (is_at (cmp q)) es) ≡ Some x)
    by true rest = (e.1, refl)
    by false rest = rest

-- the place that a folder has is that of a package there
abbrev pub AreIndices : List UnresolvedPackage → List (Path × ℕ) → Type 0
AreIndices all indices = (q : Path) (k : ℕ) → value_of q indices ≡ Some k → (d : UnresolvedPackage) × (slice_get all k ≡ Some d) × (d.folder ≡ q)

here_in : (before : List UnresolvedPackage) (d : UnresolvedPackage) (ds : List UnresolvedPackage) → slice_get (before ++ d ∷ ds) (length before) ≡ Some d
here_in [] d ds = refl
here_in (b ∷ before) d ds = here_in before d ds

all_indices : (all before ds : List UnresolvedPackage) (n : ℕ) (indices : List (Path × ℕ)) → before ++ ds ≡ all → n ≡ length before → AreIndices all indices → AreIndices all (numbered indices n ds)
all_indices all before [] n indices parts long are = are
all_indices all before (d ∷ ds) n indices parts long are =
    let next : n + 1 ≡ length (before ++ d ∷ []) = omega (arith, length-append before (d ∷ [])) in
    all_indices all (before ++ d ∷ []) ds (n + 1) (with_entry indices d.folder n) (append_assoc before (d ∷ []) ds ∙ parts) next more
  where
    more : AreIndices all (with_entry indices d.folder n)
    more q k is = elim (value_put indices d.folder n q k is) [
      | inl new ↦ (d, ap (slice_get all) (sym new.1 ∙ long) ∙ ap (λ xs. slice_get xs (length before)) (sym parts) ∙ here_in before d ds, sym new.0)
      | inr old ↦ are q k old
    ]

some_index : (ds : List UnresolvedPackage) (n : ℕ) (indices : List (Path × ℕ)) (q : Path) → Contains (folders_of indices) q ⊎ Contains (map (λ (d : UnresolvedPackage). d.folder) ds) q → Contains (folders_of (numbered indices n ds)) q
some_index [] n indices q (inl is) = is
some_index [] n indices q (inr is) = absurd (none q is)
some_index (d ∷ ds) n indices q (inl is) = some_index ds (n + 1) (with_entry indices d.folder n) q (inl (put_old indices d.folder n q is))
some_index (d ∷ ds) n indices q (inr is) = elim (cases d.folder (map (λ (x : UnresolvedPackage). x.folder) ds) q is) [
  | inl here ↦ some_index ds (n + 1) (with_entry indices d.folder n) q (inl (subst (Contains (folders_of (with_entry indices d.folder n))) here (put_new indices d.folder n)))
  | inr there ↦ some_index ds (n + 1) (with_entry indices d.folder n) q (inr there)
]

-- where a folder has an index, a package in that folder stands there
pub indices_are : (ds : List UnresolvedPackage) → AreIndices ds (indices_of ds)
indices_are ds = all_indices ds [] ds 0 [] refl refl none_yet
  where
    none_yet : AreIndices ds []
    none_yet q k is = cc

-- a folder of one of the packages has the place of a package there
pub index_there : (ds : List UnresolvedPackage) (q : Path) → Contains (map (λ (d : UnresolvedPackage). d.folder) ds) q → (k : ℕ) × (d : UnresolvedPackage) × (value_of q (indices_of ds) ≡ Some k) × (slice_get ds k ≡ Some d) × (d.folder ≡ q)
index_there ds q is =
    let v = value_there (indices_of ds) q (some_index ds 0 [] q (inr is)) in
    let at = indices_are ds q v.0 v.1 in
    (v.0, at.0, v.1, at.1, at.2)
