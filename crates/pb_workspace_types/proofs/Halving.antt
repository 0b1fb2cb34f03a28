-- What a search by halving finds in a list whose keys ascend.
use Rattle.std.proofs.Common.{◌≡◌, inl, inr, ℕ, zero, suc, ◌+◌, ◌<◌, Ordering, Less, Equal, Greater, Bool, true, false, not, ◌||◌, cond, List, [], ◌∷◌, All, Some, None, length, map, get_or, refl, sym, ◌∙◌, ap, subst, arith, nat_lt}
use Rattle.std.specs.Prelude.{slice_get}
use Rattle.std.specs.List.{AllByRecursion, HoldsAt, find, list_any, position, position_or_len}
use Rattle.std.specs.List.Sorted.{IsNonDecreasingBy, IsPartitionPoint, IsSortedBy, IsStrictlySortedBy}
use Rattle.std.specs.Ordering.{nat_cmp, is_lt, is_eq, ordering_index}
use Rattle.std.specs.Cmp.Lexicographic.{slice_cmp}
use Rattle.std.specs.Str.{bytes_eq}
use Rattle.std.proofs.lemmas.Bool.{cases_Bool, cases_lt, lt-ltb, le-ltb, false≢true}
use Rattle.std.proofs.lemmas.Cmp.{nat_list_cmp_total, tied_itself}
use Rattle.std.proofs.lemmas.List.Folds.{find_at, list_any_none}
use Rattle.std.proofs.lemmas.List.Sorted.{searchable_from_sorted}
use Rattle.std.proofs.lemmas.Map.Text.{is_eq-slice_cmp}
use Rattle.std.proofs.lemmas.Option.{slice_get-get_or, slice_get_past, slice_get_cases}
use Rattle.std.proofs.lemmas.Slice.Eq.{bytes_eq-Decides}

less_is : (o : Ordering) → is_lt o ≡ true → o ≡ Less
less_is o e = elim o as (λ w. is_lt w ≡ true → w ≡ Less) [ Less ↦ λ h. refl | Equal ↦ λ h. absurd (false≢true h) | Greater ↦ λ h. absurd (false≢true h) ] e

itself : (a : List ℕ) → slice_cmp nat_cmp a a ≡ Equal
itself a = tied_itself nat_list_cmp_total a

not_back : (a b : List ℕ) → slice_cmp nat_cmp a b ≡ Less → is_lt (slice_cmp nat_cmp b a) ≡ false
not_back a b less = elim (cases_Bool (is_lt (slice_cmp nat_cmp b a))) [
  | inl back ↦ absurd (false≢true (sym (ap is_lt (itself a)) ∙ ap is_lt (nat_list_cmp_total.trans a b a less (less_is (slice_cmp nat_cmp b a) back))))
  | inr is ↦ is
]

same_name : (a b : List ℕ) → bytes_eq a b ≡ true → a ≡ b
same_name a b e = (bytes_eq-Decides a b).0 e

its_name : (a b : List ℕ) → a ≡ b → bytes_eq a b ≡ true
its_name a b e = (bytes_eq-Decides a b).1 e

-- a key that is not equal in order is another
other : (name k : List ℕ) → is_eq (slice_cmp nat_cmp k name) ≡ false → bytes_eq name k ≡ false
other name k e = elim (cases_Bool (bytes_eq name k)) [
  | inl is ↦ absurd (false≢true (sym e ∙ is_eq-slice_cmp k name ∙ its_name k name (sym (same_name name k is))))
  | inr is ↦ is
]

tied : (name k : List ℕ) → slice_cmp nat_cmp k name ≡ Equal → bytes_eq name k ≡ true
tied name k e = its_name name k (sym (same_name k name (sym (is_eq-slice_cmp k name) ∙ ap is_eq e)))

module _ {X : Type 0} (key : X → List ℕ) where
  abbrev Ascend : List X → Type 0
  Ascend xs = IsStrictlySortedBy (slice_cmp nat_cmp) (map key xs)

  abbrev has : List ℕ → X → Bool
  has name x = bytes_eq name (key x)

  adjacent : (xs : List X) (k : ℕ) (d : X) → Ascend xs → k + 1 < length xs → slice_cmp nat_cmp (key (get_or xs k d)) (key (get_or xs (k + 1) d)) ≡ Less
  unfolding IsStrictlySortedBy
  adjacent [] k d up lt = absurd (omega arith)
  adjacent (x ∷ []) k d up lt = absurd (omega arith)
  adjacent (x ∷ y ∷ xs) zero d up lt = up.0.0
  adjacent (x ∷ y ∷ xs) (suc k) d up lt =
      let e : suc (k + 1) ≡ suc k + 1 = omega arith in
      subst (λ j. slice_cmp nat_cmp (key (get_or (y ∷ xs) k d)) (key (get_or (x ∷ y ∷ xs) j d)) ≡ Less) e (adjacent (y ∷ xs) k d up.1 (omega arith))

  sorted : (xs : List X) → Ascend xs → IsSortedBy (λ a b. is_lt (slice_cmp nat_cmp (key a) (key b))) xs
  sorted xs up k d low lt = not_back (key (get_or xs k d)) (key (get_or xs (k + 1) d)) (adjacent xs k d up lt)

  rises : (xs : List X) (name : List ℕ) → Ascend xs → IsNonDecreasingBy (λ y. ordering_index (slice_cmp nat_cmp (key y) name)) xs
  rises xs name up = searchable_from_sorted nat_list_cmp_total key xs name (sorted xs up)

  -- what stands at an index comes after the head
  behind : (a : List ℕ) (xs : List X) (i : ℕ) (x : X) → AllByRecursion (λ y. slice_cmp nat_cmp a y ≡ Less) (map key xs) → slice_get xs i ≡ Some x → slice_cmp nat_cmp a (key x) ≡ Less
  behind a [] i x all at = cc
  behind a (y ∷ xs) zero x all at = let same : y ≡ x = cc in subst (λ z. slice_cmp nat_cmp a (key z) ≡ Less) same all.0
  behind a (y ∷ xs) (suc i) x all at = behind a xs i x all.1 at

  -- the first of a name stands at its one index
  first_at : (xs : List X) (name : List ℕ) (i : ℕ) (x : X) → Ascend xs → slice_get xs i ≡ Some x → key x ≡ name → position_or_len (has name) xs ≡ i
  unfolding IsStrictlySortedBy
  first_at [] name i x up at is = cc
  first_at (y ∷ xs) name zero x up at is =
      let same : y ≡ x = cc in
      let yes : has name y ≡ true = its_name name (key y) (sym is ∙ ap key (sym same)) in
      ap (λ b. cond (not b) (1 + position_or_len (has name) xs) 0) yes
  first_at (y ∷ xs) name (suc i) x up at is =
      let less : slice_cmp nat_cmp (key y) name ≡ Less = subst (λ n. slice_cmp nat_cmp (key y) n ≡ Less) is (behind (key y) xs i x up.0 at) in
      let no : has name y ≡ false = other name (key y) (ap is_eq less) in
      let rest : position_or_len (has name) xs ≡ i = first_at xs name i x up.1 at is in
      ap (λ b. cond (not b) (1 + position_or_len (has name) xs) 0) no ∙ (let e : 1 + position_or_len (has name) xs ≡ suc i = omega (arith, rest) in e)

  none_len : (xs : List X) (name : List ℕ) → list_any (has name) xs ≡ false → position_or_len (has name) xs ≡ length xs
  none_len [] name none = refl
  none_len (y ∷ xs) name none = by (has name y) refl (none_len xs name) none
    where
      by : (b : Bool) → has name y ≡ b → (list_any (has name) xs ≡ false → position_or_len (has name) xs ≡ length xs) → (b || list_any (has name) xs) ≡ false → position_or_len (has name) (y ∷ xs) ≡ suc (length xs)
      by true e rest h = absurd (false≢true (sym h))
      by false e rest h =
          let r : position_or_len (has name) xs ≡ length xs = rest h in
          ap (λ b. cond (not b) (1 + position_or_len (has name) xs) 0) e ∙ (let f : 1 + position_or_len (has name) xs ≡ suc (length xs) = omega (arith, r) in f)

  module _ (xs : List X) (name : List ℕ) (up : Ascend xs) where
    -- an element that ties
    at_tie : (i : ℕ) → i < length xs → HoldsAt (λ x. slice_cmp nat_cmp (key x) name ≡ Equal) xs i → position_or_len (has name) xs ≡ i
    at_tie i lt ties = elim (slice_get_cases xs i).1 [
      | inl h ↦
          (let e : slice_cmp nat_cmp (key (get_or xs i h.0)) name ≡ Equal = ties h.0 in
          first_at xs name i (get_or xs i h.0) up (slice_get-get_or xs i h.0 lt) (sym (same_name name (key (get_or xs i h.0)) (tied name (key (get_or xs i h.0)) e))))
      | inr past ↦ absurd (omega (arith, lt, past.0))
    ]

    pub found_there : (i : ℕ) → i < length xs → HoldsAt (λ x. slice_cmp nat_cmp (key x) name ≡ Equal) xs i → find (has name) xs ≡ slice_get xs i
    found_there i lt ties = find_at (has name) xs ∙ ap (slice_get xs) (at_tie i lt ties)

    pub position_there : (i : ℕ) → i < length xs → HoldsAt (λ x. slice_cmp nat_cmp (key x) name ≡ Equal) xs i → position (has name) xs ≡ Some i
    position_there i lt ties =
        ap (λ k. cond (nat_lt k (length xs)) (Some k) None) (at_tie i lt ties) ∙ ap (λ b. cond b (Some i) None) (lt-ltb i (length xs) lt)

    -- none ties
    abbrev Parted : ℕ → Type 0
    Parted i = IsNonDecreasingBy (λ y. ordering_index (slice_cmp nat_cmp (key y) name)) xs → IsPartitionPoint (λ y. slice_cmp nat_cmp (key y) name ≡ Less) (λ y. slice_cmp nat_cmp (key y) name ≡ Greater) xs i

    none_there : (i : ℕ) → Parted i → All (λ x. has name x ≡ false) xs
    none_there i parted k d lt =
        let both = parted (rises xs name up) in
        elim (cases_lt k i) [
          | inl less ↦ other name (key (get_or xs k d)) (ap is_eq (both.0 k d (omega arith) less))
          | inr more ↦ other name (key (get_or xs k d)) (ap is_eq (both.1 k d more lt))
        ]

    none_first : (i : ℕ) → Parted i → position_or_len (has name) xs ≡ length xs
    none_first i parted = none_len xs name (list_any_none (has name) xs (none_there i parted))

    pub found_nowhere : (i : ℕ) → Parted i → find (has name) xs ≡ None
    found_nowhere i parted = find_at (has name) xs ∙ ap (slice_get xs) (none_first i parted) ∙ slice_get_past xs (length xs) (omega arith)

    pub position_nowhere : (i : ℕ) → Parted i → position (has name) xs ≡ None
    position_nowhere i parted =
        ap (λ k. cond (nat_lt k (length xs)) (Some k) None) (none_first i parted) ∙ ap (λ b. cond b (Some (length xs)) None) (le-ltb (length xs) (length xs) (omega arith))

  pub none_ascend : (xs : List X) → xs ≡ [] → Ascend xs
  unfolding IsStrictlySortedBy
  none_ascend xs none = subst Ascend (sym none) tt

  -- the same, of a list that a type keeps
  module _ (self inside items : List X) (name : List ℕ) (same : items ≡ inside) (view : inside ≡ self) (up : Ascend inside) where
    abbrev pub ascends : Ascend items
    ascends = subst Ascend (sym same) up

    there : {A : Type 0} (f : List X → A) → f items ≡ f self
    there f = ap f (same ∙ view)

    pub told_there : (i : ℕ) (x : X) → i < length items → x ≡ get_or items i x → HoldsAt (λ y. slice_cmp nat_cmp (key y) name ≡ Equal) items i → Some x ≡ find (has name) self
    told_there i x lt is ties = sym (slice_get-get_or items i x lt ∙ ap (λ y. Some y) (sym is)) ∙ sym (found_there items name ascends i lt ties) ∙ there (find (has name))

    pub told_nowhere : (i : ℕ) → Parted items name ascends i → None ≡ find (has name) self
    told_nowhere i parted = sym (found_nowhere items name ascends i parted) ∙ there (find (has name))

    pub index_there : (i : ℕ) → i < length items → HoldsAt (λ y. slice_cmp nat_cmp (key y) name ≡ Equal) items i → Some i ≡ position (has name) self
    index_there i lt ties = sym (position_there items name ascends i lt ties) ∙ there (position (has name))

    pub index_nowhere : (i : ℕ) → Parted items name ascends i → None ≡ position (has name) self
    index_nowhere i parted = sym (position_nowhere items name ascends i parted) ∙ there (position (has name))
