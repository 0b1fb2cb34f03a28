-- Folders that are put in their places by byte order.
use Rattle.std.proofs.Common.{◌≡◌, ◌⊎◌, inl, inr, ℕ, suc, List, [], ◌∷◌, length, true, false, cond, is_some, Some, Result, Ok, Err, Contains, refl, sym, subst, arith, Ordering, Less, Equal, Greater}
use Rattle.std.specs.BTreeMap.{insert_entry, is_at}
use Rattle.std.specs.Map.{lookup}
use Rattle.std.specs.Cmp.Lexicographic.{slice_cmp}
use Rattle.std.specs.Ordering.{is_eq, nat_cmp, match_ordering}
use Rattle.pb_graph.proofs.Membership.{none, head, tail, cases}
use Rattle.pb_data.specs.UnlessOom.{◌>>=◌}
use Rattle.pb_place_types.proofs.MapLemmas.{exact}
use Rattle.pb_workspace.specs.ByFolder.{folders_of, has, with_folders}
use Rattle.pb_workspace_package.specs.Sorted.{with_entry}

abbrev pub Path : Type 0
Path = List ℕ

abbrev pub cmp : Path → Path → Ordering
cmp = slice_cmp nat_cmp

-- what came of two steps came of both
pub opened : {A B E : Type 0} (first : Result A E) (next : A → Result B E) (y : B) → (first >>= next) ≡ Ok y → (x : A) × (first ≡ Ok x) × (next x ≡ Ok y)
opened (Ok x) next y is = (x, refl, is)
opened (Err e) next y is = cc

-- a folder that has a value is among the folders
pub has_there : {V : Type 0} (es : List (Path × V)) (k : Path) → has k es ≡ true → Contains (folders_of es) k
has_there [] k is = cc
has_there {V} (e ∷ es) k is = by (cmp k e.0) refl is (has_there es k)
  where
    by : (o : Ordering) → cmp k e.0 ≡ o → is_some (cond (is_eq o) (Some e.1) (lookup (is_at (cmp k)) es)) ≡ true → (has k es ≡ true → Contains (folders_of es) k) → Contains (folders_of (e ∷ es)) k
    by Less at on rest = tail e.0 (folders_of es) k (rest on)
    by Equal at on rest = subst (Contains (folders_of (e ∷ es))) (sym (exact k e.0 at)) (head e.0 (folders_of es))
    by Greater at on rest = tail e.0 (folders_of es) k (rest on)

-- with one more
pub put_only : {V : Type 0} (es : List (Path × V)) (k : Path) (v : V) (q : Path) → Contains (folders_of (with_entry es k v)) q → (k ≡ q) ⊎ Contains (folders_of es) q
put_only [] k v q is = cases k [] q is
put_only {V} (e ∷ es) k v q is = by (cmp k e.0) is (put_only es k v q)
  where
    by : (o : Ordering) → Contains (folders_of (match_ordering o ((k, v) ∷ e ∷ es) ((e.0, v) ∷ es) (e ∷ insert_entry cmp es k v))) q → (Contains (folders_of (insert_entry cmp es k v)) q → (k ≡ q) ⊎ Contains (folders_of es) q) → (k ≡ q) ⊎ Contains (folders_of (e ∷ es)) q
    by Less on rest = cases k (e.0 ∷ folders_of es) q on
    by Equal on rest = inr on
    by Greater on rest = elim (cases e.0 (folders_of (insert_entry cmp es k v)) q on) [
      | inl here ↦ inr (subst (Contains (folders_of (e ∷ es))) here (head e.0 (folders_of es)))
      | inr there ↦ elim (rest there) [ inl new ↦ inl new | inr old ↦ inr (tail e.0 (folders_of es) q old) ]
    ]

pub put_old : {V : Type 0} (es : List (Path × V)) (k : Path) (v : V) (q : Path) → Contains (folders_of es) q → Contains (folders_of (with_entry es k v)) q
put_old [] k v q is = absurd (none q is)
put_old {V} (e ∷ es) k v q is = by (cmp k e.0) (put_old es k v q)
  where
    by : (o : Ordering) → (Contains (folders_of es) q → Contains (folders_of (insert_entry cmp es k v)) q) → Contains (folders_of (match_ordering o ((k, v) ∷ e ∷ es) ((e.0, v) ∷ es) (e ∷ insert_entry cmp es k v))) q
    by Less rest = tail k (folders_of (e ∷ es)) q is
    by Equal rest = is
    by Greater rest = elim (cases e.0 (folders_of es) q is) [
      | inl here ↦ subst (Contains (e.0 ∷ folders_of (insert_entry cmp es k v))) here (head e.0 (folders_of (insert_entry cmp es k v)))
      | inr there ↦ tail e.0 (folders_of (insert_entry cmp es k v)) q (rest there)
    ]

pub put_new : {V : Type 0} (es : List (Path × V)) (k : Path) (v : V) → Contains (folders_of (with_entry es k v)) k
put_new [] k v = head k []
put_new {V} (e ∷ es) k v = by (cmp k e.0) refl (put_new es k v)
  where
    by : (o : Ordering) → cmp k e.0 ≡ o → Contains (folders_of (insert_entry cmp es k v)) k → Contains (folders_of (match_ordering o ((k, v) ∷ e ∷ es) ((e.0, v) ∷ es) (e ∷ insert_entry cmp es k v))) k
    by Less at rest = head k (folders_of (e ∷ es))
    by Equal at rest = subst (Contains (folders_of (e ∷ es))) (sym (exact k e.0 at)) (head e.0 (folders_of es))
    by Greater at rest = tail e.0 (folders_of (insert_entry cmp es k v)) k rest

-- there is one folder more where it was not there
pub put_longer : {V : Type 0} (es : List (Path × V)) (k : Path) (v : V) → has k es ≡ false → length (with_entry es k v) ≡ suc (length es)
put_longer [] k v out = refl
put_longer {V} (e ∷ es) k v out = by (cmp k e.0) out (put_longer es k v)
  where
    by : (o : Ordering) → is_some (cond (is_eq o) (Some e.1) (lookup (is_at (cmp k)) es)) ≡ false → (has k es ≡ false → length (insert_entry cmp es k v) ≡ suc (length es))
        → length (match_ordering o ((k, v) ∷ e ∷ es) ((e.0, v) ∷ es) (e ∷ insert_entry cmp es k v)) ≡ suc (length (e ∷ es))
    by Less off rest = refl
    by Equal off rest = cc
    by Greater off rest = let h = rest off in omega arith

-- with several more
pub with_only : (es : List (Path × Unit {0})) (fs : List Path) (q : Path) → Contains (folders_of (with_folders es fs)) q → Contains (folders_of es) q ⊎ Contains fs q
with_only es [] q is = inl is
with_only es (f ∷ fs) q is = elim (with_only (with_entry es f tt) fs q is) [
  | inl old ↦ (elim (put_only es f tt q old) [ inl here ↦ inr (subst (Contains (f ∷ fs)) here (head f fs)) | inr there ↦ inl there ])
  | inr new ↦ inr (tail f fs q new)
]

pub with_old : (es : List (Path × Unit {0})) (fs : List Path) (q : Path) → Contains (folders_of es) q → Contains (folders_of (with_folders es fs)) q
with_old es [] q is = is
with_old es (f ∷ fs) q is = with_old (with_entry es f tt) fs q (put_old es f tt q is)

pub with_new : (es : List (Path × Unit {0})) (fs : List Path) (q : Path) → Contains fs q → Contains (folders_of (with_folders es fs)) q
with_new es [] q is = absurd (none q is)
with_new es (f ∷ fs) q is = elim (cases f fs q is) [
  | inl here ↦ with_old (with_entry es f tt) fs q (subst (Contains (folders_of (with_entry es f tt))) here (put_new es f tt))
  | inr there ↦ with_new (with_entry es f tt) fs q there
]
