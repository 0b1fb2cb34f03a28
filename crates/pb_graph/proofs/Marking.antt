-- What marking changes.
use Rattle.std.proofs.Common.{◌≡◌, ◌⊎◌, inl, inr, ℕ, ◌+◌, ◌<◌, Bool, true, false, not, cond, List, [], ◌∷◌, ◌++◌, All, Contains, length, get_or, set, refl, sym, ◌∙◌, ap, subst, arith, if◌then◌else◌, get_or-set_same, get_or-set_other, length-append, length-set, replicate}
use Rattle.std.proofs.lemmas.List.{get_or_past, get_or-replicate, length-replicate}
use Rattle.std.specs.List.{count_by}
use Rattle.std.proofs.lemmas.Bool.{cases_Bool, cases_eq, cases_lt, false≢true}
use Rattle.std.proofs.lemmas.List.Elements.{Contains-append_left, Contains-append_right, Contains-append_cases, Contains-push, All-head, All-tail}
use Rattle.std.proofs.lemmas.List.Sums.{sum_by-set}
use Rattle.pb_graph.specs.Closure.{is_on, with_mark, with_marks}
use Rattle.pb_graph.proofs.Membership.{none, single}

-- how many things are not marked
abbrev pub unmarked : List Bool → ℕ
unmarked marks = count_by not marks

pub record Marked (s t : List Bool × List ℕ) (given : List ℕ) : Type 0 where
  pub kept : (z : ℕ) → is_on s.0 z ≡ true → is_on t.0 z ≡ true
  pub only : (z : ℕ) → is_on t.0 z ≡ true → (is_on s.0 z ≡ true) ⊎ Contains given z
  pub each : (z : ℕ) → Contains given z → is_on t.0 z ≡ true
  pub more : (z : ℕ) → Contains s.1 z → Contains t.1 z
  pub fresh : (z : ℕ) → is_on t.0 z ≡ true → (is_on s.0 z ≡ true) ⊎ Contains t.1 z
  pub listed : (z : ℕ) → Contains t.1 z → Contains s.1 z ⊎ (is_on t.0 z ≡ true)
  pub count : unmarked t.0 + length t.1 ≡ unmarked s.0 + length s.1
  pub long : length t.0 ≡ length s.0

marked_nil : (s : List Bool × List ℕ) → Marked s s []
marked_nil s = record {
  kept = λ z on. on;
  only = λ z on. inl on;
  each = λ z is. absurd (none z is);
  more = λ z is. is;
  fresh = λ z on. inl on;
  listed = λ z is. inl is;
  count = refl;
  long = refl;
}

marked_then : (s t u : List Bool × List ℕ) (xs ys : List ℕ) → Marked s t xs → Marked t u ys → Marked s u (xs ++ ys)
marked_then s t u xs ys a b = record {
  kept = λ z on. b.kept z (a.kept z on);
  only = λ z on. elim (b.only z on) [
    | inl before ↦ (elim (a.only z before) [ inl on ↦ inl on | inr is ↦ inr (Contains-append_left xs ys z is) ])
    | inr is ↦ inr (Contains-append_right xs ys z is)
  ];
  each = λ z is. elim (Contains-append_cases xs ys z is) [ inl first ↦ b.kept z (a.each z first) | inr second ↦ b.each z second ];
  more = λ z is. b.more z (a.more z is);
  fresh = λ z on. elim (b.fresh z on) [
    | inl before ↦ (elim (a.fresh z before) [ inl on ↦ inl on | inr is ↦ inr (b.more z is) ])
    | inr is ↦ inr is
  ];
  listed = λ z is. elim (b.listed z is) [
    | inl before ↦ (elim (a.listed z before) [ inl was ↦ inl was | inr on ↦ inr (b.kept z on) ])
    | inr on ↦ inr on
  ];
  count = b.count ∙ a.count;
  long = b.long ∙ a.long;
}

marked_old : (s : List Bool × List ℕ) (x : ℕ) → is_on s.0 x ≡ true → Marked s s (x ∷ [])
marked_old s x old = record {
  kept = λ z on. on;
  only = λ z on. inl on;
  each = λ z is. subst (λ y. is_on s.0 y ≡ true) (single x z is) old;
  more = λ z is. is;
  fresh = λ z on. inl on;
  listed = λ z is. inl is;
  count = refl;
  long = refl;
}

-- the mark of a thing after one is set
one_set : (marks : List Bool) (x z : ℕ) → is_on (set marks x true) z ≡ true → (is_on marks z ≡ true) ⊎ (x ≡ z)
one_set marks x z on = elim (cases_eq z x) [
  | inl same ↦ inr (sym same)
  | inr other ↦ inl (sym (get_or-set_other marks x z true false other) ∙ on)
]

marked_new : (s : List Bool × List ℕ) (x : ℕ) → x < length s.0 → is_on s.0 x ≡ false → Marked s (set s.0 x true, s.1 ++ x ∷ []) (x ∷ [])
marked_new s x in_range is_new = record {
  kept = λ z on. elim (cases_eq z x) [
    | inl same ↦ ap (is_on (set s.0 x true)) same ∙ get_or-set_same s.0 x true false in_range
    | inr other ↦ get_or-set_other s.0 x z true false other ∙ on
  ];
  only = λ z on. elim (one_set s.0 x z on) [ inl old ↦ inl old | inr same ↦ inr (subst (λ y. Contains (x ∷ []) y) same (Contains-push [] x)) ];
  each = λ z is. subst (λ y. is_on (set s.0 x true) y ≡ true) (single x z is) (get_or-set_same s.0 x true false in_range);
  more = λ z is. Contains-append_left s.1 (x ∷ []) z is;
  fresh = λ z on. elim (one_set s.0 x z on) [ inl old ↦ inl old | inr same ↦ inr (subst (λ y. Contains (s.1 ++ x ∷ []) y) same (Contains-push s.1 x)) ];
  listed = λ z is. elim (Contains-append_cases s.1 (x ∷ []) z is) [
    | inl was ↦ inl was
    | inr same ↦ inr (subst (λ y. is_on (set s.0 x true) y ≡ true) (single x z same) (get_or-set_same s.0 x true false in_range))
  ];
  count =
      let tells : Bool → ℕ = λ b. cond (not b) 1 0 in
      let was : tells (get_or s.0 x false) ≡ 1 = ap tells is_new in
      omega (arith, was, sum_by-set tells s.0 x true false in_range, length-append s.1 (x ∷ []));
  long = length-set s.0 x true;
}

marked_one : (s : List Bool × List ℕ) (x : ℕ) → x < length s.0 → Marked s (with_mark s x) (x ∷ [])
marked_one s x in_range =
    let to : Bool → List Bool × List ℕ = λ b. if b then s else (set s.0 x true, s.1 ++ x ∷ []) in
    elim (cases_Bool (is_on s.0 x)) [
      | inl old ↦ subst (λ b. Marked s (to b) (x ∷ [])) (sym old) (marked_old s x old)
      | inr is_new ↦ subst (λ b. Marked s (to b) (x ∷ [])) (sym is_new) (marked_new s x in_range is_new)
    ]

-- what marking several things changes
pub marked_all : (s : List Bool × List ℕ) (xs : List ℕ) → All (λ x. x < length s.0) xs → Marked s (with_marks s xs) xs
marked_all s [] all = marked_nil s
marked_all s (x ∷ xs) all =
    let one : Marked s (with_mark s x) (x ∷ []) = marked_one s x (All-head (λ y. y < length s.0) x xs all) in
    marked_then s (with_mark s x) (with_marks (with_mark s x) xs) (x ∷ []) xs one
    (marked_all (with_mark s x) xs (subst (λ n. All (λ y. y < n) xs) (sym one.long) (All-tail (λ y. y < length s.0) x xs all)))

-- only things in range are marked
pub on-below : (marks : List Bool) (z : ℕ) → is_on marks z ≡ true → z < length marks
on-below marks z on = elim (cases_lt z (length marks)) [
  | inl below ↦ below
  | inr above ↦ absurd (false≢true (sym (get_or_past marks z false above) ∙ on))
]

-- nothing is marked at first
pub none_on : (n z : ℕ) → is_on (replicate n false) z ≡ true → ⊥
none_on n z on =
    let below : z < n = subst (λ m. z < m) (length-replicate n false) (on-below (replicate n false) z on) in
    false≢true (sym (get_or-replicate n z false false below) ∙ on)
