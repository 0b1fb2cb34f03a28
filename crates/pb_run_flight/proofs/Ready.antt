-- Which units may begin.
use Rattle.std.proofs.Common.{◌&&◌, ◌≡◌, ◌∙◌, ◌++◌, ◌<◌, ◌≤◌, ◌+◌, ◌⊎◌, inl, inr, if◌then◌else◌, Bool, true, false, List, [], ◌∷◌, ℕ, zero, suc, Some, None, refl, sym, ap, subst, arith, slice_get, drop, length, Contains, map, is_none, is_some, Option}
use Rattle.std.specs.Prelude.{slice_index}
use Rattle.std.specs.List.Sorted.{IsStrictlyIncreasing}
use Rattle.std.proofs.lemmas.Bool.{cases_eq, ne_eqb, false≢true}
use Rattle.std.proofs.lemmas.List.Elements.{Contains-append_cases, Contains-append_left, Contains-append_right}
use Rattle.pb_run_flight.specs.declared.flight.State.{State}
use Rattle.pb_run_flight.specs.declared.flight.State.TheVariants.{Untouched, Begun, Answered}
use Rattle.pb_run_flight.specs.Table.{is_untouched, is_bad, is_good_at, are_good, is_open, if_so, ready_from, ready_of}
use Rattle.pb_run_flight.specs.Table.{count_due}
use Rattle.pb_run_flight.specs.Working.{count_met, units_at, IsFar, ends_badly, opening, opening_by}
use Rattle.pb_run_flight.proofs.Meeting.{met_all}
use Rattle.pb_run_flight.proofs.Keeping.{index_map}
use Rattle.std.proofs.lemmas.Option.{slice_get_within, get_or_from_slice_get}
use Rattle.pb_run_flight.specs.Events.{MayBegin}
use Rattle.pb_run_flight.proofs.Lists.{injective, clash, and_left, and_right, both, contains_none, contains_head, contains_tail, contains_cases}

pub head_of : {X : Type 0} (xs : List X) (i : ℕ) (x : X) (ys : List X) → drop i xs ≡ x ∷ ys → slice_get xs i ≡ Some x
head_of [] zero x ys e = cc
head_of [] (suc i) x ys e = cc
head_of (z ∷ xs) zero x ys e = ap (λ zs. slice_get zs 0) e
head_of (z ∷ xs) (suc i) x ys e = head_of xs i x ys e

pub tail_of : {X : Type 0} (xs : List X) (i : ℕ) (x : X) (ys : List X) → drop i xs ≡ x ∷ ys → drop (suc i) xs ≡ ys
tail_of [] zero x ys e = cc
tail_of [] (suc i) x ys e = cc
tail_of (z ∷ xs) zero x ys e = cc
tail_of (z ∷ xs) (suc i) x ys e = tail_of xs i x ys e

pub below : (i j : ℕ) → j < suc i → (j < i) ⊎ (j ≡ i)
below i j lt = elim (cases_eq j i) [
  | inl same ↦ inr same
  | inr ne ↦ inl (omega (arith, lt, ne))
]

drop_none : {X : Type 0} (xs : List X) (k : ℕ) → slice_get xs k ≡ None → drop k xs ≡ []
drop_none [] zero e = refl
drop_none [] (suc k) e = refl
drop_none (x ∷ xs) zero e = absurd (clash (sym e))
drop_none (x ∷ xs) (suc k) e = drop_none xs k e

drop_some : {X : Type 0} (xs : List X) (k : ℕ) (x : X) → slice_get xs k ≡ Some x → drop k xs ≡ x ∷ drop (k + 1) xs
drop_some [] k x e = absurd (clash e)
drop_some (y ∷ xs) zero x e = ap (λ z. z ∷ xs) (injective e)
drop_some (y ∷ xs) (suc k) x e =
    let f : k + 1 ≡ suc k = omega arith in
    let g : suc (suc k) ≡ suc k + 1 = omega arith in
    drop_some xs k x e ∙ ap (λ n. x ∷ drop n xs) f ∙ ap (λ n. x ∷ drop n (y ∷ xs)) g

single : (i u : ℕ) (b : Bool) → Contains (if_so b i) u → (b ≡ true) × (i ≡ u)
single i u true h = elim (contains_cases i [] u h) [ inl e ↦ (refl, e) | inr none ↦ absurd (contains_none u none) ]
single i u false h = absurd (contains_none u h)

rises_cons : (x : ℕ) (xs : List ℕ) → ((u : ℕ) → Contains xs u → x < u) → IsStrictlyIncreasing xs → IsStrictlyIncreasing (x ∷ xs)
rises_cons x [] above rises k lt = absurd (omega (arith, lt))
rises_cons x (y ∷ xs) above rises zero lt = above y (contains_head y xs)
rises_cons x (y ∷ xs) above rises (suc k) lt =
    let e : suc (k + 1) ≡ suc k + 1 = omega arith in
    subst (λ n. slice_index (y ∷ xs) k < slice_index (x ∷ y ∷ xs) n) e (rises k (omega (arith, lt)))

module _ {F : Type 0} where
  untouched : (s : State F) → is_untouched s ≡ true → s ≡ Untouched
  untouched Untouched h = refl
  untouched Begun h = absurd (false≢true h)
  untouched (Answered a) h = absurd (false≢true h)

  pub good_at : (states : List (State F)) (us : List ℕ) (u : ℕ) → are_good states us ≡ true → Contains us u → is_good_at (slice_get states u) ≡ true
  good_at states [] u all h = absurd (contains_none u h)
  good_at states (v ∷ us) u all h = elim (contains_cases v us u h) [
    | inl e ↦ ap (λ w. is_good_at (slice_get states w)) (sym e) ∙ and_left (is_good_at (slice_get states v)) (are_good states us) all
    | inr more ↦ good_at states us u (and_right (is_good_at (slice_get states v)) (are_good states us) all) more
  ]

  pub all_good : (states : List (State F)) (us : List ℕ) → ((u : ℕ) → Contains us u → is_good_at (slice_get states u) ≡ true) → are_good states us ≡ true
  all_good states [] each = refl
  all_good states (v ∷ us) each = both (is_good_at (slice_get states v)) (are_good states us) (each v (contains_head v us)) (all_good states us (λ u h. each u (contains_tail v us u h)))

  -- what is said to be ready may begin
  may_from : (needs : List (List ℕ)) (whole : List (State F)) (i : ℕ) (ns : List (List ℕ)) (ss : List (State F)) (u : ℕ) → drop i needs ≡ ns → drop i whole ≡ ss
      → ((v : ℕ) (s : State F) → v < i → slice_get whole v ≡ Some s → is_bad s ≡ false) → Contains (ready_from whole i ns ss) u → MayBegin needs whole u
  may_from needs whole i [] [] u e f before h = absurd (contains_none u h)
  may_from needs whole i [] (s ∷ ss) u e f before h = absurd (contains_none u h)
  may_from needs whole i (n ∷ ns) [] u e f before h = absurd (contains_none u h)
  may_from needs whole i (n ∷ ns) (s ∷ ss) u e f before h = by (is_bad s) refl (λ fine more. may_from needs whole (suc i) ns ss u (tail_of needs i n ns e) (tail_of whole i s ss f) (next fine) more) h
    where
      next : is_bad s ≡ false → (v : ℕ) (r : State F) → v < suc i → slice_get whole v ≡ Some r → is_bad r ≡ false
      next fine v r lt is = elim (below i v lt) [
        | inl less ↦ before v r less is
        | inr same ↦ ap is_bad (injective (sym is ∙ ap (slice_get whole) same ∙ head_of whole i s ss f)) ∙ fine
      ]

      here : is_open whole s n ≡ true → i ≡ u → MayBegin needs whole u
      here opened same = subst (MayBegin needs whole) same record {
        wanted = n;
        unit = head_of needs i n ns e;
        untouched = head_of whole i s ss f ∙ ap Some (untouched s (and_left (is_untouched s) (are_good whole n) opened));
        good = λ v need. good_at whole n v (and_right (is_untouched s) (are_good whole n) opened) need;
        first = before;
      }

      by : (b : Bool) → is_bad s ≡ b → (is_bad s ≡ false → Contains (ready_from whole (suc i) ns ss) u → MayBegin needs whole u)
          → Contains (if b then [] else (if_so (is_open whole s n) i ++ ready_from whole (suc i) ns ss)) u → MayBegin needs whole u
      by true bad more is = absurd (contains_none u is)
      by false bad more is = elim (Contains-append_cases (if_so (is_open whole s n) i) (ready_from whole (suc i) ns ss) u is) [
        | inl a ↦ here (single i u (is_open whole s n) a).0 (single i u (is_open whole s n) a).1
        | inr b ↦ more bad b
      ]

  pub ready_may : (needs : List (List ℕ)) (states : List (State F)) (u : ℕ) → Contains (ready_of needs states) u → MayBegin needs states u
  ready_may needs states u h = may_from needs states 0 needs states u refl refl (λ v s lt is. absurd (omega (arith, lt))) h

  -- and what may begin is ready
  ready_from_may : (needs : List (List ℕ)) (whole : List (State F)) (i : ℕ) (ns : List (List ℕ)) (ss : List (State F)) (u : ℕ) → drop i needs ≡ ns → drop i whole ≡ ss → i ≤ u → MayBegin needs whole u → Contains (ready_from whole i ns ss) u
  ready_from_may needs whole i [] ss u e f le may = absurd (clash (sym (past needs i u e le) ∙ may.unit))
    where
      past : {X : Type 0} (xs : List X) (i u : ℕ) → drop i xs ≡ [] → i ≤ u → slice_get xs u ≡ None
      past [] i u e le = refl
      past (x ∷ xs) zero u e le = absurd (cc)
      past (x ∷ xs) (suc i) zero e le = absurd (omega (arith, le))
      past (x ∷ xs) (suc i) (suc u) e le = past xs i u e (omega (arith, le))
  ready_from_may needs whole i (n ∷ ns) [] u e f le may = absurd (clash (sym (past whole i u f le) ∙ may.untouched))
    where
      past : {X : Type 0} (xs : List X) (i u : ℕ) → drop i xs ≡ [] → i ≤ u → slice_get xs u ≡ None
      past [] i u e le = refl
      past (x ∷ xs) zero u e le = absurd (cc)
      past (x ∷ xs) (suc i) zero e le = absurd (omega (arith, le))
      past (x ∷ xs) (suc i) (suc u) e le = past xs i u e (omega (arith, le))
  ready_from_may needs whole i (n ∷ ns) (s ∷ ss) u e f le may = subst (λ b. Contains (if b then [] else (if_so (is_open whole s n) i ++ ready_from whole (suc i) ns ss)) u) (sym fine) (elim (cases_eq i u) [
    | inl same ↦ Contains-append_left (if_so (is_open whole s n) i) (ready_from whole (suc i) ns ss) u (subst (λ b. Contains (if_so b i) u) (sym (opened same)) (subst (Contains (i ∷ [])) same (contains_head i [])))
    | inr ne ↦ Contains-append_right (if_so (is_open whole s n) i) (ready_from whole (suc i) ns ss) u (ready_from_may needs whole (suc i) ns ss u (tail_of needs i n ns e) (tail_of whole i s ss f) (omega (arith, le, ne)) may)
  ])
    where
      fine : is_bad s ≡ false
      fine = elim (cases_eq i u) [
        | inl same ↦ ap is_bad (injective (sym (head_of whole i s ss f) ∙ ap (slice_get whole) same ∙ may.untouched))
        | inr ne ↦ may.first i s (omega (arith, le, ne)) (head_of whole i s ss f)
      ]

      opened : i ≡ u → is_open whole s n ≡ true
      opened same =
          let a : s ≡ Untouched = injective (sym (head_of whole i s ss f) ∙ ap (slice_get whole) same ∙ may.untouched) in
          let b : may.wanted ≡ n = injective (sym may.unit ∙ ap (slice_get needs) (sym same) ∙ head_of needs i n ns e) in
          both (is_untouched s) (are_good whole n) (ap is_untouched a) (all_good whole n (λ v h. may.good v (subst (λ ws. Contains ws v) (sym b) h)))

  pub may_ready : (needs : List (List ℕ)) (states : List (State F)) (u : ℕ) → MayBegin needs states u → Contains (ready_of needs states) u
  may_ready needs states u may = ready_from_may needs states 0 needs states u refl refl (omega arith) may

  nothing_needed : (states : List (State F)) (i : ℕ) (ss : List (State F)) → ready_from states i [] ss ≡ []
  nothing_needed states i [] = refl
  nothing_needed states i (s ∷ ss) = refl

  -- the next unit
  pub opens_none : (needs : List (List ℕ)) (states : List (State F)) (i : ℕ) → opening needs states i ≡ None → ready_from states i (drop i needs) (drop i states) ≡ []
  opens_none needs states i h = by (slice_get needs i) (slice_get states i) refl refl h
    where
      by : (n : Option (List ℕ)) (s : Option (State F)) → slice_get needs i ≡ n → slice_get states i ≡ s → opening_by states n s ≡ None → ready_from states i (drop i needs) (drop i states) ≡ []
      by None s e f h = ap (λ ns. ready_from states i ns (drop i states)) (drop_none needs i e) ∙ nothing_needed states i (drop i states)
      by (Some n) None e f h = ap (ready_from states i (drop i needs)) (drop_none states i f) ∙ nothing_left (drop i needs)
        where
          nothing_left : (ns : List (List ℕ)) → ready_from states i ns [] ≡ []
          nothing_left [] = refl
          nothing_left (m ∷ ns) = refl
      by (Some n) (Some s) e f h =
          ap (λ ns. ready_from states i ns (drop i states)) (drop_some needs i n e) ∙ ap (ready_from states i (n ∷ drop (i + 1) needs)) (drop_some states i s f) ∙ bad (is_bad s) h
        where
          bad : (b : Bool) → (if b then None else Some (is_open states s n)) ≡ None → (if b then [] else (if_so (is_open states s n) i ++ ready_from states (suc i) (drop (i + 1) needs) (drop (i + 1) states))) ≡ []
          bad true h = refl
          bad false h = absurd (clash (sym h))

  pub opens_some : (needs : List (List ℕ)) (states : List (State F)) (i : ℕ) (o : Bool) → opening needs states i ≡ Some o → ready_from states i (drop i needs) (drop i states) ≡ if_so o i ++ ready_from states (i + 1) (drop (i + 1) needs) (drop (i + 1) states)
  opens_some needs states i o h = by (slice_get needs i) (slice_get states i) refl refl h
    where
      by : (n : Option (List ℕ)) (s : Option (State F)) → slice_get needs i ≡ n → slice_get states i ≡ s → opening_by states n s ≡ Some o → ready_from states i (drop i needs) (drop i states) ≡ if_so o i ++ ready_from states (i + 1) (drop (i + 1) needs) (drop (i + 1) states)
      by None s e f h = absurd (clash h)
      by (Some n) None e f h = absurd (clash h)
      by (Some n) (Some s) e f h =
          ap (λ ns. ready_from states i ns (drop i states)) (drop_some needs i n e) ∙ ap (ready_from states i (n ∷ drop (i + 1) needs)) (drop_some states i s f) ∙ good (is_bad s) h
        where
          next : suc i ≡ i + 1
          next = omega arith

          good : (b : Bool) → (if b then None else Some (is_open states s n)) ≡ Some o → (if b then [] else (if_so (is_open states s n) i ++ ready_from states (suc i) (drop (i + 1) needs) (drop (i + 1) states))) ≡ if_so o i ++ ready_from states (i + 1) (drop (i + 1) needs) (drop (i + 1) states)
          good true h = absurd (clash h)
          good false h = ap (λ b. if_so b i ++ ready_from states (suc i) (drop (i + 1) needs) (drop (i + 1) states)) (injective h) ∙ ap (λ k. if_so o i ++ ready_from states k (drop (i + 1) needs) (drop (i + 1) states)) next

  -- nothing is ready after a bad one
  pub ready_bad : (whole : List (State F)) (i n : ℕ) (ns : List (List ℕ)) (ss : List (State F)) → n ≤ count_due ss → ends_badly n ss ≡ true → ready_from whole i ns ss ≡ []
  ready_bad whole i zero ns ss le h = absurd (false≢true h)
  ready_bad whole i (suc n) ns [] le h = absurd (omega (arith, le))
  ready_bad whole i (suc n) ns (Untouched ∷ ss) le h = absurd (omega (arith, le))
  ready_bad whole i (suc n) ns (Begun ∷ ss) le h = absurd (omega (arith, le))
  ready_bad whole i (suc n) [] (Answered a ∷ ss) le h = refl
  ready_bad whole i (suc zero) (m ∷ ns) (Answered a ∷ ss) le h = ap (λ b. if b then [] else ([] ++ ready_from whole (suc i) ns ss)) h
  ready_bad whole i (suc (suc n)) (m ∷ ns) (Answered a ∷ ss) le h = by a.fault le (λ l. ready_bad whole (suc i) (suc n) ns ss l h)
    where
      by : (f : Option F) → suc (suc n) ≤ suc (if is_none f then count_due ss else 0) → (suc n ≤ count_due ss → ready_from whole (suc i) ns ss ≡ []) → (if is_some f then [] else ([] ++ ready_from whole (suc i) ns ss)) ≡ []
      by None l more = more (omega (arith, l))
      by (Some f) l more = refl

  -- good ones at the start are not ready
  pub ready_skip : (whole : List (State F)) (i n : ℕ) (ns : List (List ℕ)) (ss : List (State F)) → n ≤ count_due ss → ends_badly n ss ≡ false → ready_from whole (n + i) (drop n ns) (drop n ss) ≡ ready_from whole i ns ss
  ready_skip whole i zero ns ss le h = let e : 0 + i ≡ i = omega arith in ap (λ k. ready_from whole k ns ss) e
  ready_skip whole i (suc n) ns [] le h = absurd (omega (arith, le))
  ready_skip whole i (suc n) ns (Untouched ∷ ss) le h = absurd (omega (arith, le))
  ready_skip whole i (suc n) ns (Begun ∷ ss) le h = absurd (omega (arith, le))
  ready_skip whole i (suc n) [] (Answered a ∷ ss) le h = nothing_needed whole (suc n + i) (drop n ss)
  ready_skip whole i (suc zero) (m ∷ ns) (Answered a ∷ ss) le h = let e : 1 + i ≡ suc i = omega arith in ap (λ k. ready_from whole k ns ss) e ∙ ap (λ b. if b then [] else ([] ++ ready_from whole (suc i) ns ss)) (sym h)
  ready_skip whole i (suc (suc n)) (m ∷ ns) (Answered a ∷ ss) le h =
      let e : suc (suc n) + i ≡ suc n + suc i = omega arith in
      ap (λ k. ready_from whole k (drop (suc n) ns) (drop (suc n) ss)) e ∙ by a.fault le (λ l. ready_skip whole (suc i) (suc n) ns ss l h)
    where
      by : (f : Option F) → suc (suc n) ≤ suc (if is_none f then count_due ss else 0) → (suc n ≤ count_due ss → ready_from whole (suc n + suc i) (drop (suc n) ns) (drop (suc n) ss) ≡ ready_from whole (suc i) ns ss)
          → ready_from whole (suc n + suc i) (drop (suc n) ns) (drop (suc n) ss) ≡ (if is_some f then [] else ([] ++ ready_from whole (suc i) ns ss))
      by None l more = more (omega (arith, l))
      by (Some f) l more = absurd (omega (arith, l))

  -- and none from the place on from which none has all it needs
  far_from : (needs : List (List ℕ)) (states : List (State F)) (met : List ℕ) (reach : ℕ) → met ≡ map (count_met states) needs → IsFar needs met reach → (i : ℕ) (ns : List (List ℕ)) (ss : List (State F)) → drop i needs ≡ ns → reach ≤ i → ready_from states i ns ss ≡ []
  far_from needs states met reach counted far i [] ss e le = nothing_needed states i ss
  far_from needs states met reach counted far i (n ∷ ns) [] e le = refl
  far_from needs states met reach counted far i (n ∷ ns) (s ∷ ss) e le = by (is_bad s) (far_from needs states met reach counted far (suc i) ns ss (tail_of needs i n ns e) (omega (arith, le)))
    where
      at : slice_get needs i ≡ Some n
      at = head_of needs i n ns e

      within : i < length needs
      within = slice_get_within needs i n at

      less : count_met states n < length n
      less = subst (λ m. m < length n) (ap (λ ms. slice_index ms i) counted ∙ index_map (count_met states) needs i within ∙ ap (count_met states) here) (subst (λ ws. slice_index met i < length ws) here (far.each i le within))
        where
          here : units_at needs i ≡ n
          here = get_or_from_slice_get needs i n [] at

      shut : is_open states s n ≡ false
      shut = ap (λ b. is_untouched s && b) (met_all states n ∙ ne_eqb (count_met states n) (length n) (λ e. omega (arith, less, e))) ∙ none (is_untouched s)
        where
          none : (b : Bool) → (b && false) ≡ false
          none true = refl
          none false = refl

      by : (b : Bool) → ready_from states (suc i) ns ss ≡ [] → (if b then [] else (if_so (is_open states s n) i ++ ready_from states (suc i) ns ss)) ≡ []
      by true more = refl
      by false more = ap (λ o. if_so o i ++ ready_from states (suc i) ns ss) shut ∙ more

  pub ready_far : (needs : List (List ℕ)) (states : List (State F)) (met : List ℕ) (reach i : ℕ) → met ≡ map (count_met states) needs → IsFar needs met reach → reach ≤ i → ready_from states i (drop i needs) (drop i states) ≡ []
  ready_far needs states met reach i counted far le = far_from needs states met reach counted far i (drop i needs) (drop i states) refl le

  -- in plan order
  from_least : (whole : List (State F)) (i : ℕ) (ns : List (List ℕ)) (ss : List (State F)) (u : ℕ) → Contains (ready_from whole i ns ss) u → i ≤ u
  from_least whole i [] [] u h = absurd (contains_none u h)
  from_least whole i [] (s ∷ ss) u h = absurd (contains_none u h)
  from_least whole i (n ∷ ns) [] u h = absurd (contains_none u h)
  from_least whole i (n ∷ ns) (s ∷ ss) u h = by (is_bad s) (λ k. from_least whole (suc i) ns ss u k) h
    where
      by : (b : Bool) → (Contains (ready_from whole (suc i) ns ss) u → suc i ≤ u) → Contains (if b then [] else (if_so (is_open whole s n) i ++ ready_from whole (suc i) ns ss)) u → i ≤ u
      by true more is = absurd (contains_none u is)
      by false more is = elim (Contains-append_cases (if_so (is_open whole s n) i) (ready_from whole (suc i) ns ss) u is) [
        | inl a ↦ let e = (single i u (is_open whole s n) a).1 in omega (arith, e)
        | inr b ↦ let le = more b in omega (arith, le)
      ]

  from_rises : (whole : List (State F)) (i : ℕ) (ns : List (List ℕ)) (ss : List (State F)) → IsStrictlyIncreasing (ready_from whole i ns ss)
  from_rises whole i [] [] = λ k lt. absurd (omega (arith, lt))
  from_rises whole i [] (s ∷ ss) = λ k lt. absurd (omega (arith, lt))
  from_rises whole i (n ∷ ns) [] = λ k lt. absurd (omega (arith, lt))
  from_rises whole i (n ∷ ns) (s ∷ ss) = by (is_bad s) (is_open whole s n) (from_rises whole (suc i) ns ss)
    where
      by : (b o : Bool) → IsStrictlyIncreasing (ready_from whole (suc i) ns ss) → IsStrictlyIncreasing (if b then [] else (if_so o i ++ ready_from whole (suc i) ns ss))
      by true o more = λ k lt. absurd (omega (arith, lt))
      by false true more = rises_cons i (ready_from whole (suc i) ns ss) (λ u h. let le = from_least whole (suc i) ns ss u h in omega (arith, le)) more
      by false false more = more

  pub ready_rises : (needs : List (List ℕ)) (states : List (State F)) → IsStrictlyIncreasing (ready_of needs states)
  ready_rises needs states = from_rises states 0 needs states
