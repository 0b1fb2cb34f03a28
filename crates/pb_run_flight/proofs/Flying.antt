-- What is in flight, and what it reaches.
use Rattle.std.proofs.Common.{◌≡◌, ◌≢◌, ◌∙◌, ◌++◌, ◌<◌, ◌≤◌, ◌+◌, ◌⊎◌, ◌==◌, inl, inr, if◌then◌else◌, Bool, true, false, List, [], ◌∷◌, ℕ, zero, suc, Option, Some, None, is_none, is_some, refl, sym, ap, subst, arith, slice_get, map, length, drop, Contains, eq-eqb}
use Rattle.std.specs.Prelude.{slice_set, AllPairs, slice_index_or}
use Rattle.std.proofs.lemmas.Bool.{cases_eq, ne_eqb, false≢true}
use Rattle.pb_run_flight.specs.declared.flight.Answer.{Answer}
use Rattle.pb_run_flight.specs.declared.flight.State.{State}
use Rattle.pb_run_flight.specs.declared.flight.State.TheVariants.{Untouched, Begun, Answered}
use Rattle.pb_run_flight.specs.Table.{is_untouched, is_good_at, are_good, if_so, ready_from, ready_of, is_finished}
use Rattle.pb_run_flight.specs.Events.{Event, Began, Gave, Lawful, nothing, begin, answer, MayBegin, Reaches, direct, onward, states_after, flying_after, without}
use Rattle.pb_run_flight.specs.Laws.{HasBegun, IsInPlanOrder}
use Rattle.pb_run_flight.proofs.Lists.{injective, clash, get_set_same, get_set_other, length_set, contains_none, contains_head, contains_tail, contains_cases}
use Rattle.pb_run_flight.proofs.Meeting.{good_begun, good_answered}
use Rattle.pb_run_flight.proofs.Ready.{head_of, tail_of, below, all_good}

-- How often a number stands in a list.

abbrev one_if : Bool → ℕ
one_if true = 1
one_if false = 0

abbrev occurs : ℕ → List ℕ → ℕ
occurs u [] = 0
occurs u (v ∷ vs) = one_if (v == u) + occurs u vs

once : (v u : ℕ) → v ≡ u → one_if (v == u) ≡ 1
once v u e = ap (λ b. one_if b) (eq-eqb v u e)

never : (v u : ℕ) → (v ≡ u → ⊥) → one_if (v == u) ≡ 0
never v u ne = ap (λ b. one_if b) (ne_eqb v u ne)

occurs_push : (u : ℕ) (vs : List ℕ) (w : ℕ) → occurs u (vs ++ w ∷ []) ≡ occurs u vs + one_if (w == u)
occurs_push u [] w = omega arith
occurs_push u (v ∷ vs) w = let e = occurs_push u vs w in omega (arith, e)

occurs_less : (u : ℕ) (vs : List ℕ) → 1 ≤ occurs u vs → occurs u (without u vs) + 1 ≡ occurs u vs
occurs_less u [] le = absurd (omega (arith, le))
occurs_less u (v ∷ vs) le = elim (cases_eq v u) [
  | inl same ↦ let e = eq-eqb v u same in subst (λ b. occurs u (if b then vs else (v ∷ without u vs)) + 1 ≡ one_if b + occurs u vs) (sym e) (omega arith)
  | inr ne ↦
      let e = ne_eqb v u ne in
      let n = never v u ne in
      let more = occurs_less u vs (omega (arith, le, n)) in
      subst (λ b. occurs u (if b then vs else (v ∷ without u vs)) + 1 ≡ one_if b + occurs u vs) (sym e) (omega (arith, more, n))
]

occurs_other : (u w : ℕ) (vs : List ℕ) → (w ≡ u → ⊥) → occurs u (without w vs) ≡ occurs u vs
occurs_other u w [] ne = refl
occurs_other u w (v ∷ vs) ne = elim (cases_eq v w) [
  | inl same ↦
      let n : one_if (v == u) ≡ 0 = never v u (λ e. ne (sym same ∙ e)) in
      let more : occurs u vs ≡ one_if (v == u) + occurs u vs = omega (arith, n) in
      ap (λ b. occurs u (if b then vs else (v ∷ without w vs))) (eq-eqb v w same) ∙ more
  | inr other ↦ ap (λ b. occurs u (if b then vs else (v ∷ without w vs))) (ne_eqb v w other) ∙ ap (λ n. one_if (v == u) + n) (occurs_other u w vs ne)
]

occurs_there : (u : ℕ) (vs : List ℕ) → Contains vs u → 1 ≤ occurs u vs
occurs_there u [] h = absurd (contains_none u h)
occurs_there u (v ∷ vs) h = elim (contains_cases v vs u h) [
  | inl same ↦ let n = once v u same in omega (arith, n)
  | inr more ↦ let le = occurs_there u vs more in omega (arith, le)
]

there_occurs : (u : ℕ) (vs : List ℕ) → 1 ≤ occurs u vs → Contains vs u
there_occurs u [] le = absurd (omega (arith, le))
there_occurs u (v ∷ vs) le = elim (cases_eq v u) [
  | inl same ↦ subst (Contains (v ∷ vs)) same (contains_head v vs)
  | inr ne ↦ let n = never v u ne in contains_tail v vs u (there_occurs u vs (omega (arith, le, n)))
]

apart_from : (vs : List ℕ) → ((u : ℕ) → occurs u vs ≤ 1) → AllPairs (λ u v. u ≢ v) vs
apart_from [] each i j d lt within = absurd (omega (arith, within))
apart_from (v ∷ vs) each zero zero d lt within = absurd (omega (arith, lt))
apart_from (v ∷ vs) each zero (suc j) d lt within = λ e.
    let le = occurs_there v vs (j, omega (arith, within), any j (omega (arith, within)) (sym e)) in
    let n = once v v refl in
    absurd (omega (arith, each v, le, n))
  where
    any : (k : ℕ) → k < length vs → slice_index_or vs k d ≡ v → slice_index_or vs k v ≡ v
    any k less e = same vs k less ∙ e
      where
        same : (xs : List ℕ) (m : ℕ) → m < length xs → slice_index_or xs m v ≡ slice_index_or xs m d
        same [] m l = absurd (omega (arith, l))
        same (x ∷ xs) zero l = refl
        same (x ∷ xs) (suc m) l = same xs m (omega (arith, l))
apart_from (v ∷ vs) each (suc i) zero d lt within = absurd (omega (arith, lt))
apart_from (v ∷ vs) each (suc i) (suc j) d lt within = apart_from vs (λ u. let e = each u in omega (arith, e)) i j d (omega (arith, lt)) (omega (arith, within))

module _ {F : Type 0} where
  abbrev is_begun_at : Option (State F) → Bool
  is_begun_at None = false
  is_begun_at (Some Untouched) = false
  is_begun_at (Some Begun) = true
  is_begun_at (Some (Answered a)) = false

  begun_at : (o : Option (State F)) → is_begun_at o ≡ true → o ≡ Some Begun
  begun_at None h = absurd (false≢true h)
  begun_at (Some Untouched) h = absurd (false≢true h)
  begun_at (Some Begun) h = refl
  begun_at (Some (Answered a)) h = absurd (false≢true h)

  fresh_at : (needs : List (List ℕ)) (states : List (State F)) (u : ℕ) (s : State F) → states ≡ map (λ _. Untouched) needs → slice_get states u ≡ Some s → s ≡ Untouched
  fresh_at needs [] u s e at = absurd (clash at)
  fresh_at [] (t ∷ states) u s e at = absurd (cc)
  fresh_at (n ∷ needs) (t ∷ states) zero s e at = cc
  fresh_at (n ∷ needs) (t ∷ states) (suc u) s e at = fresh_at needs states u s (cc) at

  fresh_begun : (needs : List (List ℕ)) (states : List (State F)) (u : ℕ) → states ≡ map (λ _. Untouched) needs → is_begun_at (slice_get states u) ≡ false
  fresh_begun needs states u e = by (slice_get states u) refl
    where
      by : (o : Option (State F)) → slice_get states u ≡ o → is_begun_at o ≡ false
      by None at = refl
      by (Some s) at = ap (λ t. is_begun_at (Some t)) (fresh_at needs states u s e at)

  module _ (needs : List (List ℕ)) (Gives : ℕ → Answer F → Type 0) where
    -- the units in flight are those that have begun and not answered
    pub flying_as : (es : List (Event F)) → Lawful needs Gives es → (u : ℕ) → occurs u (flying_after es) ≡ one_if (is_begun_at (slice_get (states_after needs es) u))
    flying_as _ nothing u = sym (ap (λ b. one_if b) (fresh_begun needs (states_after needs []) u refl))
    flying_as _ (begin es w spawned before may) u =
        let more = flying_as es before u in
        occurs_push u (flying_after es) w ∙ elim (cases_eq w u) [
          | inl same ↦
              let n = once w u same in
              let z : occurs u (flying_after es) ≡ 0 = more ∙ ap (λ o. one_if (is_begun_at o)) (ap (slice_get (states_after needs es)) (sym same) ∙ may.untouched) in
              let one : one_if (is_begun_at (slice_get (slice_set (states_after needs es) w Begun) u)) ≡ 1 = ap (λ o. one_if (is_begun_at o)) (ap (slice_get (slice_set (states_after needs es) w Begun)) (sym same) ∙ get_set_same (states_after needs es) w Untouched Begun may.untouched) in
              omega (arith, n, z, one)
          | inr ne ↦
              let n = never w u ne in
              let same : one_if (is_begun_at (slice_get (slice_set (states_after needs es) w Begun) u)) ≡ one_if (is_begun_at (slice_get (states_after needs es) u)) = ap (λ o. one_if (is_begun_at o)) (get_set_other (states_after needs es) w u Begun ne) in
              omega (arith, n, more, same)
        ]
    flying_as _ (answer es w given before flying gives) u =
        let more = flying_as es before u in
        elim (cases_eq w u) [
          | inl same ↦
              let one : occurs u (flying_after es) ≡ 1 = more ∙ ap (λ o. one_if (is_begun_at o)) (ap (slice_get (states_after needs es)) (sym same) ∙ flying) in
              let less : occurs u (without u (flying_after es)) + 1 ≡ occurs u (flying_after es) = occurs_less u (flying_after es) (omega (arith, one)) in
              let zer : one_if (is_begun_at (slice_get (slice_set (states_after needs es) w (Answered given)) u)) ≡ 0 = ap (λ o. one_if (is_begun_at o)) (ap (slice_get (slice_set (states_after needs es) w (Answered given))) (sym same) ∙ get_set_same (states_after needs es) w Begun (Answered given) flying) in
              ap (λ v. occurs u (without v (flying_after es))) same ∙ omega (arith, one, less, zer)
          | inr ne ↦
              let same : one_if (is_begun_at (slice_get (slice_set (states_after needs es) w (Answered given)) u)) ≡ one_if (is_begun_at (slice_get (states_after needs es) u)) = ap (λ o. one_if (is_begun_at o)) (get_set_other (states_after needs es) w u (Answered given) ne) in
              occurs_other u w (flying_after es) ne ∙ more ∙ sym same
        ]

    pub flying_begun : (es : List (Event F)) → Lawful needs Gives es → (u : ℕ) → Contains (flying_after es) u → slice_get (states_after needs es) u ≡ Some Begun
    flying_begun es lawful u h = begun_at (slice_get (states_after needs es) u) (by (is_begun_at (slice_get (states_after needs es) u)) (flying_as es lawful u))
      where
        by : (b : Bool) → occurs u (flying_after es) ≡ one_if b → b ≡ true
        by true e = refl
        by false e = let le = occurs_there u (flying_after es) h in absurd (omega (arith, le, e))

    pub begun_flying : (es : List (Event F)) → Lawful needs Gives es → (u : ℕ) → slice_get (states_after needs es) u ≡ Some Begun → Contains (flying_after es) u
    begun_flying es lawful u at = let e : occurs u (flying_after es) ≡ 1 = flying_as es lawful u ∙ ap (λ o. one_if (is_begun_at o)) at in there_occurs u (flying_after es) (omega (arith, e))

    pub flying_apart : (es : List (Event F)) → Lawful needs Gives es → AllPairs (λ u v. u ≢ v) (flying_after es)
    flying_apart es lawful = apart_from (flying_after es) (λ u. by (is_begun_at (slice_get (states_after needs es) u)) u (flying_as es lawful u))
      where
        by : (b : Bool) (u : ℕ) → occurs u (flying_after es) ≡ one_if b → occurs u (flying_after es) ≤ 1
        by true u e = omega (arith, e)
        by false u e = omega (arith, e)

    -- what a unit needs that has begun has answered and is good
    closed : (es : List (Event F)) → Lawful needs Gives es → (u v : ℕ) (s : State F) (wanted : List ℕ) → slice_get (states_after needs es) u ≡ Some s → is_untouched s ≡ false → slice_get needs u ≡ Some wanted → Contains wanted v
        → is_good_at (slice_get (states_after needs es) v) ≡ true
    closed _ nothing u v s wanted at not unit need = absurd (false≢true (sym not ∙ ap is_untouched (fresh_at needs (states_after needs []) u s refl at)))
    closed _ (begin es w spawned before may) u v s wanted at not unit need = sym (good_begun (states_after needs es) w v may.untouched) ∙ elim (cases_eq w u) [
      | inl same ↦ may.good v (subst (λ ws. Contains ws v) (injective (sym unit ∙ ap (slice_get needs) (sym same) ∙ may.unit)) need)
      | inr ne ↦ closed es before u v s wanted (sym (get_set_other (states_after needs es) w u Begun ne) ∙ at) not unit need
    ]
    closed _ (answer es w given before flying gives) u v s wanted at not unit need = good_answered (states_after needs es) w v (Answered given) flying (elim (cases_eq w u) [
      | inl same ↦ closed es before u v Begun wanted (ap (slice_get (states_after needs es)) (sym same) ∙ flying) refl unit need
      | inr ne ↦ closed es before u v s wanted (sym (get_set_other (states_after needs es) w u (Answered given) ne) ∙ at) not unit need
    ])

    good_stands : (states : List (State F)) (v : ℕ) → is_good_at (slice_get states v) ≡ true → HasBegun states v
    good_stands states v good = by (slice_get states v) refl good
      where
        by : (o : Option (State F)) → slice_get states v ≡ o → is_good_at o ≡ true → HasBegun states v
        by None at h = absurd (false≢true h)
        by (Some Untouched) at h = absurd (false≢true h)
        by (Some Begun) at h = absurd (false≢true h)
        by (Some (Answered a)) at h = (Answered a, at, refl)

    begun_reaches : (es : List (Event F)) → Lawful needs Gives es → (u v : ℕ) → HasBegun (states_after needs es) u → Reaches needs u v → is_good_at (slice_get (states_after needs es) v) ≡ true
    begun_reaches es lawful _ _ (s, at, not) (direct u v wanted unit need) = closed es lawful u v s wanted at not unit need
    begun_reaches es lawful _ _ (s, at, not) (onward u v w wanted unit need more) = begun_reaches es lawful v w (good_stands (states_after needs es) v (closed es lawful u v s wanted at not unit need)) more

    pub may_reach : (es : List (Event F)) → Lawful needs Gives es → (u v : ℕ) → MayBegin needs (states_after needs es) u → Reaches needs u v → is_good_at (slice_get (states_after needs es) v) ≡ true
    may_reach es lawful _ _ may (direct u v wanted unit need) = may.good v (subst (λ ws. Contains ws v) (injective (sym unit ∙ may.unit)) need)
    may_reach es lawful _ _ may (onward u v w wanted unit need more) =
        begun_reaches es lawful v w (good_stands (states_after needs es) v (may.good v (subst (λ ws. Contains ws v) (injective (sym unit ∙ may.unit)) need))) more

    pub reached_is_good : (es : List (Event F)) → Lawful needs Gives es → (u v : ℕ) → MayBegin needs (states_after needs es) u ⊎ HasBegun (states_after needs es) u → Reaches needs u v → is_good_at (slice_get (states_after needs es) v) ≡ true
    reached_is_good es lawful u v (inl may) more = may_reach es lawful u v may more
    reached_is_good es lawful u v (inr has) more = begun_reaches es lawful u v has more

  -- where something is left and nothing is in flight, a unit may begin
  some_from : (needs : List (List ℕ)) (whole : List (State F)) (i : ℕ) (ns : List (List ℕ)) (ss : List (State F)) → drop i needs ≡ ns → drop i whole ≡ ss → length ns ≡ length ss
      → IsInPlanOrder needs → ((u : ℕ) → slice_get whole u ≡ Some Begun → ⊥) → ((j : ℕ) → j < i → is_good_at (slice_get whole j) ≡ true) → is_finished ss ≡ false → 0 < length (ready_from whole i ns ss)
  some_from needs whole i ns [] e f long order none good left = absurd (false≢true (sym left))
  some_from needs whole i [] (s ∷ ss) e f long order none good left = absurd (omega (arith, long))
  some_from needs whole i (n ∷ ns) (Untouched ∷ ss) e f long order none good left =
      let met : are_good whole n ≡ true = all_good whole n (λ v need. good v (order i v n (head_of needs i n ns e) need)) in
      subst (λ b. 0 < length (if_so b i ++ ready_from whole (suc i) ns ss)) (sym met) (omega arith)
  some_from needs whole i (n ∷ ns) (Begun ∷ ss) e f long order none good left = absurd (none i (head_of whole i Begun ss f))
  some_from needs whole i (n ∷ ns) (Answered a ∷ ss) e f long order none good left =
      by a.fault refl (λ is h. some_from needs whole (suc i) ns ss (tail_of needs i n ns e) (tail_of whole i (Answered a) ss f) (omega (arith, long)) order none (λ j lt. elim (below i j lt) [
        | inl less ↦ good j less
        | inr same ↦ ap (λ m. is_good_at (slice_get whole m)) same ∙ ap is_good_at (head_of whole i (Answered a) ss f) ∙ ap is_none is
      ]) h) left
    where
      by : (o : Option F) → a.fault ≡ o → (a.fault ≡ None → is_finished ss ≡ false → 0 < length (ready_from whole (suc i) ns ss)) → (if is_none o then is_finished ss else true) ≡ false
          → 0 < length (if is_some o then [] else ([] ++ ready_from whole (suc i) ns ss))
      by (Some fault) is more h = absurd (false≢true (sym h))
      by None is more h = more is h

  states_long : (needs : List (List ℕ)) (es : List (Event F)) → length (states_after needs es) ≡ length needs
  states_long needs [] = by needs (states_after needs []) refl
    where
      by : (ns : List (List ℕ)) (ss : List (State F)) → ss ≡ map (λ _. Untouched) ns → length ss ≡ length ns
      by [] [] e = refl
      by [] (s ∷ ss) e = absurd (cc)
      by (n ∷ ns) [] e = absurd (cc)
      by (n ∷ ns) (s ∷ ss) e = ap suc (by ns ss (cc))
  states_long needs (Began u spawned ∷ es) = length_set (states_after needs es) u Begun ∙ states_long needs es
  states_long needs (Gave u given ∷ es) = length_set (states_after needs es) u (Answered given) ∙ states_long needs es

  pub something_is_left : (needs : List (List ℕ)) (Gives : ℕ → Answer F → Type 0) (es : List (Event F)) → IsInPlanOrder needs → Lawful needs Gives es → is_finished (states_after needs es) ≡ false
      → 0 < length (ready_of needs (states_after needs es)) + length (flying_after es)
  something_is_left needs Gives es order lawful left = by (flying_after es) refl
    where
      by : (fs : List ℕ) → flying_after es ≡ fs → 0 < length (ready_of needs (states_after needs es)) + length fs
      by [] none = let lt = some_from needs (states_after needs es) 0 needs (states_after needs es) refl refl (sym (states_long needs es)) order
          (λ u at. contains_none u (subst (λ fs. Contains fs u) none (begun_flying needs Gives es lawful u at))) (λ j less. absurd (omega (arith, less))) left in omega (arith, lt)
      by (f ∷ fs) some = omega arith
