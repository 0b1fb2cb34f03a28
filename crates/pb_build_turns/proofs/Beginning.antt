-- The story of a crew, where a unit begins.
use Rattle.std.proofs.Common.{◌≡◌, ◌++◌, Bool, false, List, [], ◌∷◌, ℕ, Option, Some, None, IsTrue, refl, sym, subst, slice_set, is_some}
use Rattle.std.specs.Prelude.{MatchOption}
use Rattle.pb_directive.specs.declared.directive.Directive.{Directive}
use Rattle.pb_run_flight.specs.declared.flight.State.{State}
use Rattle.pb_run_flight.specs.declared.flight.State.TheVariants.{Begun}
use Rattle.pb_run_flight.specs.Events.{Event, Began, MayBegin}
use Rattle.pb_place_types.specs.World.{World, Answers}
use Rattle.pb_command_types.specs.Targets.{unit_at}
use Rattle.pb_build_result.specs.declared.bad_unit.BadUnit.{BadUnit}
use Rattle.pb_command_types.specs.declared.project.Project.{Project}
use Rattle.pb_run.specs.UnitSteps.{Premise, BuildContext, build_context, BuildInvariant, IsBegun, CanBegin, BeginsApart, child_of}
use Rattle.pb_run.specs.Invariants.{IsInOrder}
use Rattle.pb_run.specs.declared.begun.Begun.{Begun as unit_begun}
use Rattle.pb_run.specs.declared.begun.SpawnedChild.{SpawnedChild}
use Rattle.pb_run.proofs.Halving.{keeps_same}
use Rattle.pb_store_soundness.specs.Numbers.{after}
use Rattle.pb_build_turns.specs.Executor.{needs_of, BuildState}
use Rattle.pb_build_turns.specs.History.{states_in, CountersSoFar, HistoryHolds, FromFirst, History}
use Rattle.pb_build_turns.specs.declared.executor.RunningUnit.{RunningUnit}
use Rattle.pb_build_turns.specs.declared.executor.UnitExecutor.{UnitExecutor}
use Rattle.pb_build_turns.proofs.Happening as happening
use Rattle.pb_unit.specs.declared.plan.Planned.{Planned}

-- the same lists
pub goes_lists : (project : Project) (first now : BuildState) (started started' : List ℕ) (running running' : List RunningUnit) (es : List (Event BadUnit)) (given : ℕ) → started' ≡ started → running' ≡ running → CountersSoFar project first now started running es given → CountersSoFar project first now started' running' es given
goes_lists project first now started started' running running' es given s a goes =
    subst (λ xs. CountersSoFar project first now xs running' es given) (sym s) (subst (λ (xs : List RunningUnit). CountersSoFar project first now started xs es given) (sym a) goes)

-- the run number of a child that was spawned
pub by_number : (next next' : Option ℕ) (o : Option SpawnedChild) → MatchOption o (next' ≡ next) (λ launched. (next ≡ Some launched.number) × (next' ≡ after launched.number)) → (l : SpawnedChild) → o ≡ Some l → (next ≡ Some l.number) × (next' ≡ after l.number)
by_number next next' o number l is = subst (λ o. MatchOption o (next' ≡ next) (λ launched. (next ≡ Some launched.number) × (next' ≡ after launched.number))) is number

module _ (is_modelled : Bool) (child : Answers) (first old : UnitExecutor) (at now new : BuildState) (still still' : ℕ → Type 0) (es : List (Event BadUnit)) (given unit : ℕ) (u : Planned)
    (order : IsInOrder old.project) (there : unit_at old.project unit ≡ Some u) (story : History is_modelled child first at old now still es given) (may : MayBegin (needs_of old.project) (states_in old.project es) unit) where
  abbrev Of : Premise → World → BuildContext
  Of premise sources = build_context premise child old.setup old.project sources

  -- nothing has changed
  pub refused_happened : (running' : List RunningUnit) → running' ≡ old.running.items → IsTrue is_modelled → FromFirst child first at old (λ b. HistoryHolds b old.done.items running' old.store.next (Began unit false ∷ es) now.world now.counts.starts.flying still)
  refused_happened running' same t f s k =
      let h = story.happened t f s k in
      let could = happening.can (Of f s) order old.done.items old.running.items old.store.next old.store.next es now.world now.world now.counts.starts.flying now.counts.starts.flying still still h unit u there may in
      subst (λ (items : List RunningUnit). HistoryHolds (Of f s) old.done.items items old.store.next (Began unit false ∷ es) now.world now.counts.starts.flying still) (sym same)
      (happening.happened_begun (Of f s) order old.done.items old.running.items old.store.next old.store.next es now.world now.world now.counts.starts.flying now.counts.starts.flying still still h unit u there may false
      (keeps_same (Of f s) order unit u there (states_in old.project es) old.done.items old.store.next now.world could now.world refl) (λ other its apart. apart.begun_so))

  -- by what is said of the call
  module _ (next' : Option ℕ) (done : List (Option (List Directive))) (same_done : done ≡ old.done.items)
      (keeps : (premise : Premise) (sources : World) (states : List (State BadUnit)) → IsTrue is_modelled → CanBegin (Of premise sources) states done unit u old.store.next now.world → BuildInvariant (Of premise sources) (slice_set states unit Begun) done next' new.world)
      (others : (premise : Premise) (sources : World) (states : List (State BadUnit)) (other : ℕ) (its : unit_begun) → IsTrue is_modelled → CanBegin (Of premise sources) states done unit u old.store.next now.world
      → BeginsApart (Of premise sources) states unit None other its old.store.next now.world now.counts.starts.flying still → IsBegun (Of premise sources) other its next' new.world new.counts.starts.flying still') where
    module _ (t : IsTrue is_modelled) (f : Premise) (s : World) (h : HistoryHolds (Of f s) old.done.items old.running.items old.store.next es now.world now.counts.starts.flying still) where
      could : CanBegin (Of f s) (states_in old.project es) done unit u old.store.next now.world
      could = subst (λ d. CanBegin (Of f s) (states_in old.project es) d unit u old.store.next now.world) (sym same_done)
          (happening.can (Of f s) order old.done.items old.running.items old.store.next next' es now.world new.world now.counts.starts.flying new.counts.starts.flying still still' h unit u there may)

      keeps_now : BuildInvariant (Of f s) (slice_set (states_in old.project es) unit Begun) old.done.items next' new.world
      keeps_now = subst (λ d. BuildInvariant (Of f s) (slice_set (states_in old.project es) unit Begun) d next' new.world) same_done (keeps f s (states_in old.project es) t could)

      failed : (spawned : Bool) → HistoryHolds (Of f s) old.done.items old.running.items next' (Began unit spawned ∷ es) new.world new.counts.starts.flying still'
      failed spawned =
          happening.happened_begun (Of f s) order old.done.items old.running.items old.store.next next' es now.world new.world now.counts.starts.flying new.counts.starts.flying still still' h unit u there may spawned
          keeps_now (λ other its apart. others f s (states_in old.project es) other its t could apart)

      module _ (begun : unit_begun)
          (begins : (premise : Premise) (sources : World) (states : List (State BadUnit)) → IsTrue is_modelled → CanBegin (Of premise sources) states done unit u old.store.next now.world → IsBegun (Of premise sources) unit begun next' new.world new.counts.starts.flying still') where
        well : HistoryHolds (Of f s) old.done.items (old.running.items ++ record { unit = unit; begun = begun } ∷ []) next' (Began unit (is_some (child_of begun)) ∷ es) new.world new.counts.starts.flying still'
        well =
            happening.happened_more (Of f s) order old.done.items old.running.items old.store.next next' es now.world new.world now.counts.starts.flying new.counts.starts.flying still still' h unit u there may (is_some (child_of begun))
            keeps_now (λ other its apart. others f s (states_in old.project es) other its t could apart)
            record { unit = unit; begun = begun } refl refl (begins f s (states_in old.project es) t could)

    -- a fault came
    pub failed_happened : (spawned : Bool) (running' : List RunningUnit) → running' ≡ old.running.items → IsTrue is_modelled → FromFirst child first at old (λ b. HistoryHolds b old.done.items running' next' (Began unit spawned ∷ es) new.world new.counts.starts.flying still')
    failed_happened spawned running' same t f s k =
        subst (λ (items : List RunningUnit). HistoryHolds (Of f s) old.done.items items next' (Began unit spawned ∷ es) new.world new.counts.starts.flying still') (sym same) (failed t f s (story.happened t f s k) spawned)

    -- it has begun
    pub begun_happened : (begun : unit_begun) (running' : List RunningUnit) → running' ≡ old.running.items ++ record { unit = unit; begun = begun } ∷ []
        → ((premise : Premise) (sources : World) (states : List (State BadUnit)) → IsTrue is_modelled → CanBegin (Of premise sources) states done unit u old.store.next now.world → IsBegun (Of premise sources) unit begun next' new.world new.counts.starts.flying still')
        → IsTrue is_modelled → FromFirst child first at old (λ b. HistoryHolds b old.done.items running' next' (Began unit (is_some (child_of begun)) ∷ es) new.world new.counts.starts.flying still')
    begun_happened begun running' more begins t f s k =
        subst (λ (items : List RunningUnit). HistoryHolds (Of f s) old.done.items items next' (Began unit (is_some (child_of begun)) ∷ es) new.world new.counts.starts.flying still') (sym more)
        (well t f s (story.happened t f s k) begun begins)
