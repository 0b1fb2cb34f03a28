-- The story of a crew, where a unit answers.
use Rattle.std.proofs.Common.{◌≡◌, ◌∙◌, Bool, List, [], ◌∷◌, ℕ, Option, Some, None, IsTrue, refl, sym, ap, subst, slice_get, slice_set, is_some}
use Rattle.std.specs.FinMap as finite
use Rattle.std.specs.List.{remove}
use Rattle.pb_directive.specs.declared.directive.Directive.{Directive}
use Rattle.pb_run_flight.specs.declared.flight.State.{State}
use Rattle.pb_run_flight.specs.declared.flight.State.TheVariants.{Answered}
use Rattle.pb_run_flight.specs.Events.{Event, Gave}
use Rattle.pb_message.specs.declared.message.Message.{Message}
use Rattle.pb_place_types.specs.Folders.{files_in}
use Rattle.pb_place_types.specs.World.{World, Map, Answers}
use Rattle.pb_command_types.specs.Targets.{unit_at}
use Rattle.pb_build_result.specs.declared.bad_unit.BadUnit.{BadUnit}
use Rattle.pb_command_types.specs.declared.project.Setup.{Setup}
use Rattle.pb_run.specs.UnitSteps.{Premise, BuildContext, build_context, BuildInvariant, IsBegun, CanAnswer, BeginsApart, outcomes_in, child_of}
use Rattle.pb_run.specs.Outcome.{outcome_from, outcome_by, directives_in}
use Rattle.pb_message_units.specs.Telling.{unit_lines}
use Rattle.pb_run.specs.declared.begun.Begun.{Begun as unit_begun}
use Rattle.pb_run.specs.declared.ran.Ran.{Ran}
use Rattle.pb_build_turns.specs.Executor.{AreApart, indices_of, tickets_of, numbers_of, BuildState}
use Rattle.pb_build_turns.specs.Rows.{fault_in, messages_in}
use Rattle.pb_build_turns.specs.History.{states_in, HistoryHolds, FromFirst, History}
use Rattle.pb_build_turns.specs.declared.executor.RunningUnit.{RunningUnit}
use Rattle.pb_build_turns.specs.declared.executor.UnitExecutor.{UnitExecutor}
use Rattle.pb_build_turns.proofs.Answered as answered
use Rattle.pb_unit.specs.declared.plan.Planned.{Planned}

-- What an outcome says of a run.

fault_of : (fault : Option BadUnit) (files : Map) (directives : Option (List Directive)) (messages : List Message) → fault ≡ fault_in (outcome_from fault files directives messages)
fault_of None files directives messages = refl
fault_of (Some e) files directives messages = refl

messages_of : (fault : Option BadUnit) (files : Map) (directives : Option (List Directive)) (messages : List Message) → messages ≡ messages_in (outcome_from fault files directives messages)
messages_of None files directives messages = refl
messages_of (Some e) files directives messages = refl

directives_any : (fault : Option BadUnit) (files other : Map) (directives : Option (List Directive)) (messages : List Message) → directives_in (outcome_from fault files directives messages) ≡ directives_in (outcome_from fault other directives messages)
directives_any None files other directives messages = refl
directives_any (Some e) files other directives messages = refl

module _ (is_modelled : Bool) (child : Answers) (first old : UnitExecutor) (at now new : BuildState) (still still' : ℕ → Type 0) (es : List (Event BadUnit)) (given index : ℕ) (a : RunningUnit) (u : Planned)
    (there : unit_at old.project a.unit ≡ Some u) (story : History is_modelled child first at old now still es given) (at_index : slice_get old.running.items index ≡ Some a)
    (indices : AreApart (indices_of old.running.items)) (tickets : AreApart (tickets_of old.running.items)) (numbers : AreApart (numbers_of old.running.items)) (next' : Option ℕ)
    (others : (premise : Premise) (setup : Setup) (sources : World) (states : List (State BadUnit)) (done : List (Option (List Directive))) (other : ℕ) (its : unit_begun) → IsTrue is_modelled
    → CanAnswer (build_context premise child setup old.project sources) states done a.unit u a.begun old.store.next now.world now.counts.starts.flying still
    → BeginsApart (build_context premise child setup old.project sources) states a.unit (child_of a.begun) other its old.store.next now.world now.counts.starts.flying still
    → IsBegun (build_context premise child setup old.project sources) other its next' new.world new.counts.starts.flying still') where
  abbrev Of : Premise → World → BuildContext
  Of premise sources = build_context premise child old.setup old.project sources

  module _ (t : IsTrue is_modelled) (f : Premise) (s : World)
      (h : HistoryHolds (Of f s) old.done.items old.running.items old.store.next es now.world now.counts.starts.flying still) where
    pub could : CanAnswer (Of f s) (states_in old.project es) old.done.items a.unit u a.begun old.store.next now.world now.counts.starts.flying still
    could = answered.can_answer (Of f s) old.done.items old.running.items old.store.next next' es now.world new.world now.counts.starts.flying new.counts.starts.flying still still' h index a at_index u there

    others_now : (other : ℕ) (its : unit_begun) → BeginsApart (Of f s) (states_in old.project es) a.unit (child_of a.begun) other its old.store.next now.world now.counts.starts.flying still → IsBegun (Of f s) other its next' new.world new.counts.starts.flying still'
    others_now other its apart = others f old.setup s (states_in old.project es) old.done.items other its t could apart

    less : BuildInvariant (Of f s) (states_in old.project es) old.done.items next' new.world → HistoryHolds (Of f s) old.done.items (remove old.running.items index) next' es new.world new.counts.starts.flying still'
    less keeps =
        answered.happened_less (Of f s) old.done.items old.running.items old.store.next next' es now.world new.world now.counts.starts.flying new.counts.starts.flying still still' h index a at_index u there
        indices tickets numbers others_now keeps

    module _ (ran : Ran) (lines : List ℕ) (outcome : slice_get (outcomes_in (Of f s)) a.unit ≡ Some (outcome_by (files_in u.out new.world.files) ran))
        (keeps : BuildInvariant (Of f s) (slice_set (states_in old.project es) a.unit (Answered record { fault = ran.bad; lines = lines })) (slice_set old.done.items a.unit ran.directives) next' new.world)
        (noted : directives_in (outcome_by finite.empty ran) ≡ ran.directives) where
      -- memory is refused for its lines
      untold : HistoryHolds (Of f s) old.done.items (remove old.running.items index) next' es new.world new.counts.starts.flying still'
      untold = less (answered.keeps_back (Of f s) (states_in old.project es) old.done.items old.store.next next' now.world new.world a.unit record { fault = ran.bad; lines = lines } ran.directives h.keeps keeps could.state)

      module _ (started : ran.started ≡ is_some (child_of a.begun)) (told : lines ≡ unit_lines old.project u ran.started ran.messages) where
        lines_are : lines ≡ unit_lines old.project u (is_some (child_of a.begun)) (messages_in (outcome_by (files_in u.out new.world.files) ran))
        lines_are = told ∙ ap (λ b. unit_lines old.project u b ran.messages) started
            ∙ ap (λ ms. unit_lines old.project u (is_some (child_of a.begun)) ms) (messages_of ran.bad (files_in u.out new.world.files) ran.directives ran.messages)

        noted_is : ran.directives ≡ directives_in (outcome_by (files_in u.out new.world.files) ran)
        noted_is = sym noted ∙ directives_any ran.bad finite.empty (files_in u.out new.world.files) ran.directives ran.messages

        after : HistoryHolds (Of f s) (slice_set old.done.items a.unit ran.directives) (remove old.running.items index) next' (Gave a.unit record { fault = ran.bad; lines = lines } ∷ es) new.world new.counts.starts.flying still'
        after =
            answered.happened_after (Of f s) old.done.items old.running.items old.store.next next' es now.world new.world now.counts.starts.flying new.counts.starts.flying still still' h index a at_index u there
            indices tickets numbers others_now record { fault = ran.bad; lines = lines } ran.directives keeps (outcome_by (files_in u.out new.world.files) ran) outcome
            (fault_of ran.bad (files_in u.out new.world.files) ran.directives ran.messages) noted_is lines_are

  -- a fault came in its place
  pub failed_happened : (running' : List RunningUnit) → running' ≡ remove old.running.items index
      → ((premise : Premise) (setup : Setup) (sources : World) (states : List (State BadUnit)) (done : List (Option (List Directive))) → IsTrue is_modelled
      → CanAnswer (build_context premise child setup old.project sources) states done a.unit u a.begun old.store.next now.world now.counts.starts.flying still → BuildInvariant (build_context premise child setup old.project sources) states done next' new.world)
      → IsTrue is_modelled → FromFirst child first at old (λ b. HistoryHolds b old.done.items running' next' es new.world new.counts.starts.flying still')
  failed_happened running' same keeps t f s k =
      let h = story.happened t f s k in
      subst (λ (items : List RunningUnit). HistoryHolds (Of f s) old.done.items items next' es new.world new.counts.starts.flying still') (sym same)
      (less t f s h (keeps f old.setup s (states_in old.project es) old.done.items t (could t f s h)))

  module _ (ran : Ran)
      (outcome : (premise : Premise) (setup : Setup) (sources : World) (states : List (State BadUnit)) (done : List (Option (List Directive))) → IsTrue is_modelled
      → CanAnswer (build_context premise child setup old.project sources) states done a.unit u a.begun old.store.next now.world now.counts.starts.flying still
      → slice_get (outcomes_in (build_context premise child setup old.project sources)) a.unit ≡ Some (outcome_by (files_in u.out new.world.files) ran))
      (keeps : (premise : Premise) (setup : Setup) (sources : World) (states : List (State BadUnit)) (done : List (Option (List Directive))) → IsTrue is_modelled
      → CanAnswer (build_context premise child setup old.project sources) states done a.unit u a.begun old.store.next now.world now.counts.starts.flying still
      → (lines : List ℕ) → BuildInvariant (build_context premise child setup old.project sources) (slice_set states a.unit (Answered record { fault = ran.bad; lines = lines })) (slice_set done a.unit ran.directives) next' new.world)
      (noted : directives_in (outcome_by finite.empty ran) ≡ ran.directives) where
    -- memory is refused for its lines
    pub untold_happened : (running' : List RunningUnit) → running' ≡ remove old.running.items index → IsTrue is_modelled → FromFirst child first at old (λ b. HistoryHolds b old.done.items running' next' es new.world new.counts.starts.flying still')
    untold_happened running' same t f s k =
        let h = story.happened t f s k in
        let can = could t f s h in
        subst (λ (items : List RunningUnit). HistoryHolds (Of f s) old.done.items items next' es new.world new.counts.starts.flying still') (sym same)
        (untold t f s h ran [] (outcome f old.setup s (states_in old.project es) old.done.items t can) (keeps f old.setup s (states_in old.project es) old.done.items t can []) noted)

    -- it has answered
    pub answered_happened : (lines : List ℕ) (running' : List RunningUnit) (done' : List (Option (List Directive))) → running' ≡ remove old.running.items index → done' ≡ slice_set old.done.items a.unit ran.directives
        → ran.started ≡ is_some (child_of a.begun) → lines ≡ unit_lines old.project u ran.started ran.messages → IsTrue is_modelled
        → FromFirst child first at old (λ b. HistoryHolds b done' running' next' (Gave a.unit record { fault = ran.bad; lines = lines } ∷ es) new.world new.counts.starts.flying still')
    answered_happened lines running' done' same set started told t f s k =
        let h = story.happened t f s k in
        let can = could t f s h in
        let is = outcome f old.setup s (states_in old.project es) old.done.items t can in
        let kept = keeps f old.setup s (states_in old.project es) old.done.items t can lines in
        subst (λ ds. HistoryHolds (Of f s) ds running' next' (Gave a.unit record { fault = ran.bad; lines = lines } ∷ es) new.world new.counts.starts.flying still') (sym set)
        (subst (λ (items : List RunningUnit). HistoryHolds (Of f s) (slice_set old.done.items a.unit ran.directives) items next' (Gave a.unit record { fault = ran.bad; lines = lines } ∷ es) new.world new.counts.starts.flying still') (sym same)
        (after t f s h ran lines is kept noted started told))
