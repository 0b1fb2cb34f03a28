-- Steps by jobs, of which the first unit that may begin does, are the events in turn.
use Rattle.std.proofs.Common.{◌≡◌, ◌∙◌, ◌<◌, ◌≤◌, ◌+◌, ◌⊎◌, max, inl, inr, List, [], ◌∷◌, ℕ, suc, Some, refl, ap, subst, arith, slice_get, length, Contains}
use Rattle.std.specs.Prelude.{slice_index}
use Rattle.std.specs.List.Sorted.{IsStrictlyIncreasing}
use Rattle.pb_run_flight.proofs.Lists.{at_contains, clash, contains_cases, contains_head, contains_none, injective}
use Rattle.pb_run_flight.proofs.Ready.{may_ready, ready_may, ready_rises}
use Rattle.pb_run_flight.specs.Events.{Event, Began, Gave, Anything, MayBegin, flying_after, states_after}
use Rattle.pb_run_flight.specs.Steps.{Flies, nothing, begin, answer, Anyhow, TurnsOfJobs}
use Rattle.pb_run_flight.specs.Table.{ready_of}
use Rattle.pb_run_flight.specs.declared.flight.State.{State}
use Rattle.pb_run_flight.specs.declared.turn.First.{First}
use Rattle.pb_run_flight.specs.declared.turn.Jobs.{Jobs}
use Rattle.pb_run_flight.specs.declared.turn.Step.{Step}
use Rattle.pb_build.specs.Ending.{PicksFirstOf}
use Rattle.pb_build_turns.specs.Executor.{needs_of}
use Rattle.pb_build_laws.specs.Schedules.{IsFirstToBegin, BuildsGoInTurn, AreInTurn}

-- the first of a list that rises is the least

rises_on : (x y : ℕ) (xs : List ℕ) → IsStrictlyIncreasing (x ∷ y ∷ xs) → IsStrictlyIncreasing (y ∷ xs)
rises_on x y xs rises k lt =
    let e : suc k + 1 ≡ suc (k + 1) = omega arith in
    subst (λ n. slice_index (y ∷ xs) k < slice_index (x ∷ y ∷ xs) n) e (rises (suc k) (omega (arith, lt)))

above_first : (x : ℕ) (xs : List ℕ) → IsStrictlyIncreasing (x ∷ xs) → (u : ℕ) → Contains xs u → x < u
above_first x [] rises u has = absurd (contains_none u has)
above_first x (y ∷ xs) rises u has =
    let lt : x < y = rises 0 (omega arith) in
    elim (contains_cases y xs u has) [
      | inl e ↦ subst (λ n. x < n) e lt
      | inr more ↦ omega (arith, lt, above_first y xs (rises_on x y xs rises) u more)
    ]

module _ (Begins : ℕ → Type 0) where
  pub least_of : (units : List ℕ) → IsStrictlyIncreasing units → ((v : ℕ) → Begins v → Contains units v) → (u : ℕ) → slice_get units 0 ≡ Some u → (v : ℕ) → v < u → Begins v → ⊥
  least_of [] rises each u at v lt may = clash at
  least_of (x ∷ xs) rises each u at v lt may =
      let e : x ≡ u = injective at in
      elim (contains_cases x xs v (each v may)) [
        | inl same ↦ omega (arith, lt, e, same)
        | inr more ↦ omega (arith, lt, e, above_first x xs rises v more)
      ]

  pub first_of : (units : List ℕ) → IsStrictlyIncreasing units → ((v : ℕ) → Contains units v → Begins v) → (u : ℕ) → Contains units u → ((v : ℕ) → v < u → Begins v → ⊥) → (0 < length units) × (slice_get units 0 ≡ Some u)
  first_of [] rises each u has least = absurd (contains_none u has)
  first_of (x ∷ xs) rises each u has least = elim (contains_cases x xs u has) [
    | inl same ↦ (omega arith, ap Some same)
    | inr more ↦ absurd (least x (above_first x xs rises u more) (each x (contains_head x xs)))
  ]

  pub none_of : (units : List ℕ) → ((v : ℕ) → Begins v → Contains units v) → length units ≡ 0 → (v : ℕ) → Begins v → ⊥
  none_of [] each none v may = contains_none v (each v may)
  none_of (x ∷ xs) each none v may = absurd (omega (arith, none))

  pub empty_of : (units : List ℕ) → ((v : ℕ) → Contains units v → Begins v) → ((v : ℕ) → Begins v → ⊥) → length units ≡ 0
  empty_of [] each never = refl
  empty_of (x ∷ xs) each never = absurd (never x (each x (contains_head x xs)))

abbrev Turns : Jobs First → List ℕ → List ℕ → Step → Jobs First → Type 0
Turns = TurnsOfJobs PicksFirstOf

module _ {F : Type 0} (needs : List (List ℕ)) (from : Jobs First) where
  begins_first : (states : List (State F)) (i u : ℕ) → i ≡ 0 → slice_get (ready_of needs states) i ≡ Some u → IsFirstToBegin needs states u
  begins_first states i u first unit = (
    ready_may needs states u (at_contains (ready_of needs states) i u unit),
    least_of (MayBegin needs states) (ready_of needs states) (ready_rises needs states) (λ v may. may_ready needs states v may) u (subst (λ k. slice_get (ready_of needs states) k ≡ Some u) first unit),
  )

  waits : (states : List (State F)) (flying now : ℕ) → now ≡ from.jobs → (length (ready_of needs states) ≡ 0) ⊎ (max now 1 ≤ flying) → ((v : ℕ) → MayBegin needs states v → ⊥) ⊎ (max from.jobs 1 ≤ flying)
  waits states flying now same (inl none) = inl (none_of (MayBegin needs states) (ready_of needs states) (λ v may. may_ready needs states v may) none)
  waits states flying now same (inr many) = inr (subst (λ n. max n 1 ≤ flying) same many)

  pub in_turn : (es : List (Event F)) (now : Jobs First) → Flies Turns needs Anyhow Anything from es now → (now.jobs ≡ from.jobs) × AreInTurn (max from.jobs 1) needs es
  in_turn _ _ nothing = (refl, tt)
  in_turn _ _ (begin es now next i u spawned before missing (after, some, room, picked) unit child) =
      let (same, turns) = in_turn es now before in
      (after ∙ same, (turns, missing, (subst (λ n. length (flying_after es) < max n 1) same room, begins_first (states_after needs es) i u picked unit)))
  in_turn _ _ (answer es now next i u given before missing (after, first, stays, why) unit gives) =
      let (same, turns) = in_turn es now before in
      (after ∙ same, (turns, missing, (waits (states_after needs es) (length (flying_after es)) now.jobs same why, subst (λ k. slice_get (flying_after es) k ≡ Some u) first unit)))

  none_may : (states : List (State F)) (flying : ℕ) → ((v : ℕ) → MayBegin needs states v → ⊥) ⊎ (max from.jobs 1 ≤ flying) → (length (ready_of needs states) ≡ 0) ⊎ (max from.jobs 1 ≤ flying)
  none_may states flying (inl never) = inl (empty_of (MayBegin needs states) (ready_of needs states) (λ v has. ready_may needs states v has) never)
  none_may states flying (inr many) = inr many

  pub by_turns : (es : List (Event F)) → AreInTurn (max from.jobs 1) needs es → Flies Turns needs Anyhow Anything from es from
  by_turns [] turns = nothing
  by_turns (Began u spawned ∷ es) (turns, missing, (room, (may, least))) =
      let states = states_after needs es in
      let (some, unit) = first_of (MayBegin needs states) (ready_of needs states) (ready_rises needs states) (λ v has. ready_may needs states v has) u (may_ready needs states u may) least in
      begin es from from 0 u spawned (by_turns es turns) missing (refl, some, room, refl) unit tt
  by_turns (Gave u given ∷ es) (turns, missing, (why, unit)) =
      answer es from from 0 u given (by_turns es turns) missing (refl, refl, refl, none_may (states_after needs es) (length (flying_after es)) why) unit tt

pub go_in_turn : BuildsGoInTurn
go_in_turn options project es =
    let from : Jobs First = record { pick = record {}; jobs = options.jobs } in
    (λ (last, flies). (in_turn (needs_of project) from es last flies).1, λ turns. (from, by_turns (needs_of project) from es turns))
