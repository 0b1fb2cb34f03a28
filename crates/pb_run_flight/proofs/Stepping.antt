-- Chains of steps.
use Rattle.std.proofs.Common.{◌≡◌, ◌∙◌, ◌++◌, ◌≤◌, ◌⊎◌, ◌==◌, max, inl, inr, if◌then◌else◌, Bool, true, false, List, [], ◌∷◌, ℕ, suc, Some, refl, sym, ap, subst, arith, slice_get, length, Contains, eq-eqb, append-nil, length-append}
use Rattle.std.proofs.lemmas.List.Elements.{Contains-append_cases, Contains-append_left, Contains-append_right}
use Rattle.pb_run_flight.specs.declared.flight.Answer.{Answer}
use Rattle.pb_run_flight.specs.declared.turn.Step.{Step}
use Rattle.pb_run_flight.specs.declared.turn.Jobs.{Jobs}
use Rattle.pb_run_flight.specs.Table.{if_so, is_finished}
use Rattle.pb_run_flight.specs.Events as events
use Rattle.pb_run_flight.specs.Events.{Event, Began, Gave, Lawful, begun_by, started_by, flying_after, without}
use Rattle.pb_run_flight.specs.Steps.{Flies, nothing, begin, answer, SpawnsAs, TurnsOfJobs}
use Rattle.pb_run_flight.specs.Laws as laws
use Rattle.pb_run_flight.specs.Laws.{OneByOne}
use Rattle.pb_run_flight.proofs.Lists.{injective, clash, contains_none, contains_head, contains_cases, at_contains}
use Rattle.pb_run_flight.proofs.Ready.{ready_may}
use Rattle.pb_run_flight.proofs.Ending.{missing_begun}
use Rattle.pb_run_flight.proofs.Flying.{flying_begun}

module _ {F S : Type 0} (Turns : S → List ℕ → List ℕ → Step → S → Type 0) (needs : List (List ℕ)) where
  pub steps_are_lawful : (Spawns : ℕ → Bool → Type 0) (Gives : ℕ → Answer F → Type 0) (from : S) (es : List (Event F)) (now : S) → Flies Turns needs Spawns Gives from es now → Lawful needs Gives es
  steps_are_lawful Spawns Gives from _ _ nothing = events.nothing
  steps_are_lawful Spawns Gives from _ _ (begin es now next i u spawned before missing turned unit child) =
      events.begin es u spawned (steps_are_lawful Spawns Gives from es now before) (ready_may needs (events.states_after needs es) u (at_contains _ i u unit))
  steps_are_lawful Spawns Gives from _ _ (answer es now next i u given before missing turned unit gives) =
      let lawful = steps_are_lawful Spawns Gives from es now before in
      events.answer es u given lawful (flying_begun needs Gives es lawful u (at_contains (flying_after es) i u unit)) gives

  module _ (Differs : ℕ → Type 0) (Gives : ℕ → Answer F → Type 0) (from : S) where
    pub started_differs : (es : List (Event F)) (now : S) → Flies Turns needs (SpawnsAs Differs) Gives from es now → (u : ℕ) → Contains (started_by es) u → Contains (begun_by es) u × Differs u
    started_differs _ _ nothing u h = absurd (contains_none u h)
    started_differs _ _ (answer es now next i v given before missing turned unit gives) u h = started_differs es now before u h
    started_differs _ _ (begin es now next i v false before missing turned unit child) u h =
        let (a, b) = started_differs es now before u (subst (λ xs. Contains xs u) (append-nil (started_by es)) h) in
        (Contains-append_left (begun_by es) (v ∷ []) u a, b)
    started_differs _ _ (begin es now next i v true before missing turned unit child) u h = by (Contains-append_cases (started_by es) (v ∷ []) u h) (λ k. started_differs es now before u k)
      where
        by : Contains (started_by es) u ⊎ Contains (v ∷ []) u → (Contains (started_by es) u → Contains (begun_by es) u × Differs u) → Contains (begun_by es ++ v ∷ []) u × Differs u
        by (inl k) more = let (a, b) = more k in (Contains-append_left (begun_by es) (v ∷ []) u a, b)
        by (inr k) more = elim (contains_cases v [] u k) [
          | inl e ↦ (Contains-append_right (begun_by es) (v ∷ []) u k, subst Differs e child)
          | inr none ↦ absurd (contains_none u none)
        ]

    pub differs_started : (es : List (Event F)) (now : S) → Flies Turns needs (SpawnsAs Differs) Gives from es now → (u : ℕ) → Contains (begun_by es) u → Differs u → Contains (started_by es) u
    differs_started _ _ nothing u h d = absurd (contains_none u h)
    differs_started _ _ (answer es now next i v given before missing turned unit gives) u h d = differs_started es now before u h d
    differs_started _ _ (begin es now next i v spawned before missing turned unit child) u h d = elim (Contains-append_cases (begun_by es) (v ∷ []) u h) [
      | inl k ↦ Contains-append_left (started_by es) (if_so spawned v) u (differs_started es now before u k d)
      | inr k ↦ elim (contains_cases v [] u k) [
        | inl e ↦ Contains-append_right (started_by es) (if_so spawned v) u (by spawned child e)
        | inr none ↦ absurd (contains_none u none)
      ]
    ]
      where
        by : (b : Bool) → SpawnsAs Differs v b → v ≡ u → Contains (if_so b v) u
        by true c e = subst (Contains (v ∷ [])) e (contains_head v [])
        by false c e = absurd (c (subst Differs (sym e) d))

  -- where the last step is a beginning units are missing behind it too
  pub begun_missing : (Spawns : ℕ → Bool → Type 0) (Gives : ℕ → Answer F → Type 0) (from : S) (es : List (Event F)) (now : S) → Flies Turns needs Spawns Gives from es now
      → (u : ℕ) (spawned : Bool) (before : List (Event F)) → es ≡ Began u spawned ∷ before → is_finished (events.states_after needs es) ≡ false
  begun_missing Spawns Gives from _ _ nothing u spawned before is = cc
  begun_missing Spawns Gives from _ _ (begin es now next i v child earlier missing turned unit spawns) u spawned before is = missing_begun (events.states_after needs es) v missing
  begun_missing Spawns Gives from _ _ (answer es now next i v given earlier missing turned unit gives) u spawned before is = cc

fewer : (u : ℕ) (vs : List ℕ) → length (without u vs) ≤ length vs
fewer u [] = omega arith
fewer u (v ∷ vs) = by (v == u) (fewer u vs)
  where
    by : (b : Bool) → length (without u vs) ≤ length vs → length (if b then vs else (v ∷ without u vs)) ≤ suc (length vs)
    by true le = omega arith
    by false le = omega (arith, le)

module _ {F S : Type 0} (Picks : S → List ℕ → ℕ → S → Type 0) (needs : List (List ℕ)) (Spawns : ℕ → Bool → Type 0) (Gives : ℕ → Answer F → Type 0) (from : Jobs S) where
  -- the number of jobs stays, and no more units fly
  pub jobs_bound : (es : List (Event F)) (now : Jobs S) → Flies (TurnsOfJobs Picks) needs Spawns Gives from es now → (now.jobs ≡ from.jobs) × (length (flying_after es) ≤ max from.jobs 1)
  jobs_bound _ _ nothing = (refl, omega arith)
  jobs_bound _ _ (begin es now next i u spawned before missing (after, some, room, picked) unit child) =
      let (same, le) = jobs_bound es now before in
      (after ∙ same, omega (arith, same, room, length-append (flying_after es) (u ∷ [])))
  jobs_bound _ _ (answer es now next i u given before missing (after, first, stays, why) unit gives) =
      let (same, le) = jobs_bound es now before in
      (after ∙ same, omega (arith, le, fewer u (flying_after es)))

  none_from : (xs : List ℕ) → length xs ≡ 0 → xs ≡ []
  none_from [] e = refl
  none_from (x ∷ xs) e = absurd (omega (arith, e))

  answered_next : (es : List (Event F)) (u : ℕ) (given : Answer F) → OneByOne es → slice_get (flying_after es) 0 ≡ Some u → OneByOne (Gave u given ∷ es)
  answered_next _ u given laws.nothing at = absurd (clash at)
  answered_next _ u given (laws.begin es w spawned before none) at =
      let e : w ≡ u = injective (ap (λ fs. slice_get (fs ++ w ∷ []) 0) (sym none) ∙ at) in
      subst (λ v. OneByOne (Gave v given ∷ Began w spawned ∷ es)) e (laws.answer es w spawned given before none)
  answered_next _ u given (laws.answer es w spawned other before none) at =
      absurd (clash (sym (ap (λ fs. slice_get (without w (fs ++ w ∷ [])) 0) none ∙ ap (λ b. slice_get (if b then [] else (w ∷ [])) 0) (eq-eqb w w refl)) ∙ at))

  pub one_by_one : (es : List (Event F)) (now : Jobs S) → from.jobs ≤ 1 → Flies (TurnsOfJobs Picks) needs Spawns Gives from es now → OneByOne es
  one_by_one _ _ one nothing = laws.nothing
  one_by_one _ _ one (begin es now next i u spawned before missing (after, some, room, picked) unit child) =
      let (same, le) = jobs_bound es now before in
      laws.begin es u spawned (one_by_one es now one before) (none_from (flying_after es) (omega (arith, same, room, one)))
  one_by_one _ _ one (answer es now next i u given before missing (after, first, stays, why) unit gives) =
      answered_next es u given (one_by_one es now one before) (subst (λ k. slice_get (flying_after es) k ≡ Some u) first unit)
