use Rattle.std.proofs.Common.{◌≡◌, ◌∙◌, ◌<◌, ◌∷◌, ℕ, true, List, Some, Contains, IsTrue, is_some, refl, sym, ap, subst, inl, inr, slice_get, slice_set, length, map}
use Rattle.std.proofs.lemmas.List.{length-map}
use Rattle.std.proofs.lemmas.Option.{slice_get_read, slice_get_within}
use Rattle.std.specs.List.{AllByRecursion}
use Rattle.pb_run_flight.specs.declared.flight.Answer.{Answer}
use Rattle.pb_run_flight.specs.declared.flight.State.TheVariants.{Begun}
use Rattle.pb_build_result.specs.declared.bad_unit.BadUnit.{BadUnit}
use Rattle.pb_build_result.specs.declared.fault.BuildFault.{BuildFault}
use Rattle.pb_build_result.specs.declared.fault.BuildFault.TheVariants.{OutOfMemory}
use Rattle.pb_build_turns.specs.declared.executor.UnitExecutor.{UnitExecutor}
use Rattle.pb_run_flight.specs.Events.{Gave}
use Rattle.pb_run_flight.proofs.Lists.{injective, length_set}
use Rattle.pb_place_types.specs.World.{ChangesOnly}
use Rattle.pb_run.specs.UnitSteps.{child_of}
use Rattle.pb_run.specs.Invariants.{IsCommandOf, records_folder}
use Rattle.pb_run.specs.declared.unit_steps.Outcome.{Outcome}
use Rattle.pb_message_units.specs.Telling.{unit_lines}
use Rattle.pb_run.proofs.Naming.{answer_told, cause_told}
use Rattle.pb_run.proofs.Reusing.{child_numbered}
use Rattle.pb_run.proofs.Spawning.{launched_gone}
use Rattle.pb_run.proofs.Telling.{told_badly, told_well}
use Rattle.pb_store_soundness.specs.Apart.{is_of}
use Rattle.pb_build_turns.specs.Calling.{FliesAnew}
use Rattle.pb_store_soundness.specs.Records.{reading, records}
use Rattle.pb_store.specs.Folder.{HasNumbers}
use Rattle.pb_build_turns.specs.Executor.{IsOfPlan, WritesOwn, index_of_unit, indices_of, needs_of, moment}
use Rattle.pb_build_turns.specs.Rows.{is_started}
use Rattle.pb_build_turns.specs.History.{FliesBeside, FliesIn, IsUntold, KeepsChildless, KeepsNoneInFlight, LacksNumber, NamesUnit, NoneWritesTo, History, StoryEnds, states_in}
use Rattle.pb_build_turns.proofs.Again.{answered_again}
use Rattle.pb_build_turns.proofs.Anew.{answered_anew, unanswered_anew}
use Rattle.pb_build_turns.proofs.Alone.{apart_removed, none_writes}
use Rattle.pb_build_turns.proofs.Answering.{failed_happened, untold_happened, answered_happened}
use Rattle.pb_build_turns.proofs.Beginning.{goes_lists}
use Rattle.pb_build_turns.proofs.Calling.{calls_answered, calls_answered_on_any, calls_unanswered, calls_unanswered_on_any, calls_untold, calls_untold_on_any}
use Rattle.pb_build_turns.proofs.Changing.{beside_asked, changes_less, changes_after, owns_less}
use Rattle.pb_build_turns.proofs.Counting.{came_answering, names_answering, goes_answered, stops_answered, stops_untold}
use Rattle.pb_build_turns.proofs.Differing.{answered_began, unanswered_began}
use Rattle.pb_build_turns.proofs.Leaving.{answered_left, unanswered_left}
use Rattle.pb_build_turns.proofs.Lists.{all_get, get_map, map_removed}
use Rattle.pb_build_turns.proofs.Manning.{answer_fault_lands, flying_of, manned_answered}
use Rattle.pb_build_turns.proofs.Numbering.{answered_taken, has_child, lacked_taken, started_flies, spends_answered}
use Rattle.pb_build_turns.proofs.Quiet.{answered_quiet}
use Rattle.pb_build_turns.proofs.Reaching.{there_of}
use Rattle.pb_build_turns.proofs.Staying.{none_began}
use Rattle.pb_build_turns.proofs.Unbegun.{notes_answered, started_answered}
use Rattle.pb_build_turns.proofs.Unkept.{flight_asked, flight_given}
use Rattle.pb_build_turns.proofs.Waiting.{childless_asked, childless_given, folder_answered}
use Rattle.pb_unit.specs.declared.plan.Planned.{Planned}
use Rattle.pb_build_turns.proofs.executor.answer_at.Goals as goal

pub answer_unit-requires-clause-unit : goal.answer_unit-requires-clause-unit
answer_unit-requires-clause-unit g c =
    let at_index = slice_get_read c.args.crew.now.running.items (length c.args.crew.now.running.items) c.args.index c.remove-unit.result refl
    (subst (λ n. c.args.index < n) (length-map c.args.crew.now.running.items index_of_unit) c.requires.within) c.remove-unit.ensures.value in
    let of_plan = all_get (IsOfPlan c.args.crew.now.project) c.args.crew.now.running.items c.args.index c.remove-unit.result c.requires.consistent.units at_index in
    there_of c.args.crew.now.project.plan.planned c.units.result.now c.remove-unit.result.unit c.index-units-unit.result of_plan.unit of_plan.there c.units.ensures c.index-units-unit.is

pub answer_unit-requires-clause-begun : goal.answer_unit-requires-clause-begun
answer_unit-requires-clause-begun g c =
    let at_index = slice_get_read c.args.crew.now.running.items (length c.args.crew.now.running.items) c.args.index c.remove-unit.result refl
    (subst (λ n. c.args.index < n) (length-map c.args.crew.now.running.items index_of_unit) c.requires.within) c.remove-unit.ensures.value in
    let of_plan = all_get (IsOfPlan c.args.crew.now.project) c.args.crew.now.running.items c.args.index c.remove-unit.result c.requires.consistent.units at_index in
    let there = there_of c.args.crew.now.project.plan.planned c.units.result.now c.remove-unit.result.unit c.index-units-unit.result of_plan.unit of_plan.there c.units.ensures c.index-units-unit.is in
    record {
      unit = of_plan.key ∙ ap (λ (u : Planned). u.key) (injective (sym of_plan.there ∙ there));
      asks = subst (λ u. IsCommandOf c.args.crew.now.project u c.remove-unit.result.begun.command) (injective (sym of_plan.there ∙ there)) of_plan.asks;
    }

pub answer_unit-requires-clause-writes : goal.answer_unit-requires-clause-writes
answer_unit-requires-clause-writes g c =
    let at_index = slice_get_read c.args.crew.now.running.items (length c.args.crew.now.running.items) c.args.index c.remove-unit.result refl
    (subst (λ n. c.args.index < n) (length-map c.args.crew.now.running.items index_of_unit) c.requires.within) c.remove-unit.ensures.value in
    let of_plan = all_get (IsOfPlan c.args.crew.now.project) c.args.crew.now.running.items c.args.index c.remove-unit.result c.requires.consistent.units at_index in
    let there = there_of c.args.crew.now.project.plan.planned c.units.result.now c.remove-unit.result.unit c.index-units-unit.result of_plan.unit of_plan.there c.units.ensures c.index-units-unit.is in
    all_get (WritesOwn c.args.crew.now.project (g.P.Place.at c.args.place.now).counts.starts.flying) c.args.crew.now.running.items c.args.index c.remove-unit.result c.requires.able.writes at_index c.index-units-unit.result there

pub answer_unit-requires-clause-numbers : goal.answer_unit-requires-clause-numbers
answer_unit-requires-clause-numbers g c = λ t. subst (λ (folder : List ℕ). HasNumbers (records folder (g.P.Place.at c.args.place.now).world) c.args.crew.now.store.numbers) (sym c.requires.consistent.folder) (c.requires.able.numbers t)

pub returns-clause-able : goal.returns-clause-able
returns-clause-able g c =
    let at_index = slice_get_read c.args.crew.now.running.items (length c.args.crew.now.running.items) c.args.index c.remove-unit.result refl
    (subst (λ n. c.args.index < n) (length-map c.args.crew.now.running.items index_of_unit) c.requires.within) c.remove-unit.ensures.value in
    let of_plan = all_get (IsOfPlan c.args.crew.now.project) c.args.crew.now.running.items c.args.index c.remove-unit.result c.requires.consistent.units at_index in
    let there = there_of c.args.crew.now.project.plan.planned c.units.result.now c.remove-unit.result.unit c.index-units-unit.result of_plan.unit of_plan.there c.units.ensures c.index-units-unit.is in
    let (ran, answered, told) = told_well _ _ _ _ c.index-units-unit.result _ _ _ _ _ c.in-Ok.outcome c.in-Ok.ensures.told in
    record {
      numbers = λ t. subst (λ (folder : List ℕ). HasNumbers (records folder (g.P.Place.at c.answer_unit.new.place).world) c.answer_unit.new.store.numbers) c.requires.consistent.folder (answered.store.numbers t);
      writes = owns_less c.args.crew.now.project c.args.crew.now.running.items (g.P.Place.at c.args.place.now).counts.starts.flying (g.P.Place.at c.answer_unit.new.place).counts.starts.flying
          (λ j y at_j. flying_of c.args.crew.now (g.P.Place.at c.args.place.now).counts j y c.requires.consistent at_j) c.requires.able.writes c.args.index c.remove-unit.result at_index c.requires.consistent.tickets_apart
          answered.changes.stay c.remove-unit.new.self.items c.remove-unit.ensures.items;
    }

pub answer_unit-requires-clause-flies : goal.answer_unit-requires-clause-flies
answer_unit-requires-clause-flies g c =
    let at_index = slice_get_read c.args.crew.now.running.items (length c.args.crew.now.running.items) c.args.index c.remove-unit.result refl
    (subst (λ n. c.args.index < n) (length-map c.args.crew.now.running.items index_of_unit) c.requires.within) c.remove-unit.ensures.value in
    flying_of c.args.crew.now (g.P.Place.at c.args.place.now).counts c.args.index c.remove-unit.result c.requires.consistent at_index

pub note_answer-requires : goal.note_answer-requires
note_answer-requires g c =
    let at_index = slice_get_read c.args.crew.now.running.items (length c.args.crew.now.running.items) c.args.index c.remove-unit.result refl
    (subst (λ n. c.args.index < n) (length-map c.args.crew.now.running.items index_of_unit) c.requires.within) c.remove-unit.ensures.value in
    let of_plan = all_get (IsOfPlan c.args.crew.now.project) c.args.crew.now.running.items c.args.index c.remove-unit.result c.requires.consistent.units at_index in
    let there = there_of c.args.crew.now.project.plan.planned c.units.result.now c.remove-unit.result.unit c.index-units-unit.result of_plan.unit of_plan.there c.units.ensures c.index-units-unit.is in
    record { within = subst (λ n. c.remove-unit.result.unit < n) (sym c.requires.consistent.long) (slice_get_within c.args.crew.now.project.plan.planned c.remove-unit.result.unit c.index-units-unit.result there) }

pub returns-in-Err-clause-consistent : goal.returns-in-Err-clause-consistent
returns-in-Err-clause-consistent g c =
    let at_index = slice_get_read c.args.crew.now.running.items (length c.args.crew.now.running.items) c.args.index c.remove-unit.result refl
    (subst (λ n. c.args.index < n) (length-map c.args.crew.now.running.items index_of_unit) c.requires.within) c.remove-unit.ensures.value in
    elim (told_badly _ _ _ _ c.index-units-unit.result _ _ _ _ _ c.in-Err.fault c.in-Err.ensures.named c.in-Err.ensures.told) [
      | inl answered ↦
          manned_answered c.args.crew.now _ (g.P.Place.at c.args.place.now).counts (g.P.Place.at c.answer_unit.new.place).counts c.args.index c.remove-unit.result c.requires.consistent at_index refl answered.store.folder refl refl c.remove-unit.ensures.items answered.store.next
          (answer_fault_lands _ _ (child_of c.remove-unit.result.begun) c.in-Err.fault _ _ (answer_told _ _ _ c.in-Err.fault _ _ c.in-Err.ensures.named answered.changes.takes.0))
      | inr came ↦
          let (ran, answered, memory) = came in
          manned_answered c.args.crew.now _ (g.P.Place.at c.args.place.now).counts (g.P.Place.at c.answer_unit.new.place).counts c.args.index c.remove-unit.result c.requires.consistent at_index refl answered.store.folder refl refl c.remove-unit.ensures.items answered.store.next answered.changes.takes.1
    ]

pub returns-clause-consistent : goal.returns-clause-consistent
returns-clause-consistent g c =
    let at_index = slice_get_read c.args.crew.now.running.items (length c.args.crew.now.running.items) c.args.index c.remove-unit.result refl
    (subst (λ n. c.args.index < n) (length-map c.args.crew.now.running.items index_of_unit) c.requires.within) c.remove-unit.ensures.value in
    let (ran, answered, told) = told_well _ _ _ _ c.index-units-unit.result _ _ _ _ _ c.in-Ok.outcome c.in-Ok.ensures.told in
    manned_answered c.args.crew.now _ (g.P.Place.at c.args.place.now).counts (g.P.Place.at c.answer_unit.new.place).counts c.args.index c.remove-unit.result c.requires.consistent at_index refl answered.store.folder
    (ap length c.note_answer.ensures.done ∙ length_set c.args.crew.now.done.items c.remove-unit.result.unit c.in-Ok.outcome.directives) refl c.remove-unit.ensures.items answered.store.next answered.changes.takes.1

pub returns-in-Err-clause-flying : goal.returns-in-Err-clause-flying
returns-in-Err-clause-flying g c = ap (λ items. map index_of_unit items) c.remove-unit.ensures.items ∙ map_removed index_of_unit c.args.crew.now.running.items c.args.index

pub returns-clause-flying : goal.returns-clause-flying
returns-clause-flying g c = ap (λ items. map index_of_unit items) c.remove-unit.ensures.items ∙ map_removed index_of_unit c.args.crew.now.running.items c.args.index

pub returns-in-Err-clause-story : goal.returns-in-Err-clause-story
returns-in-Err-clause-story g c = λ first at heard es given unit s flying lawful is_given is_unit flies.
    let at_index = slice_get_read c.args.crew.now.running.items (length c.args.crew.now.running.items) c.args.index c.remove-unit.result refl
    (subst (λ n. c.args.index < n) (length-map c.args.crew.now.running.items index_of_unit) c.requires.within) c.remove-unit.ensures.value in
    let of_plan = all_get (IsOfPlan c.args.crew.now.project) c.args.crew.now.running.items c.args.index c.remove-unit.result c.requires.consistent.units at_index in
    let there = there_of c.args.crew.now.project.plan.planned c.units.result.now c.remove-unit.result.unit c.index-units-unit.result of_plan.unit of_plan.there c.units.ensures c.index-units-unit.is in
    let now = moment (g.P.Place.at c.args.place.now) heard in
    let new = moment (g.P.Place.at c.answer_unit.new.place) heard in
    let its = injective (sym is_unit ∙ get_map index_of_unit c.args.crew.now.running.items c.args.index c.remove-unit.result at_index) in
    let begun = subst (λ n. slice_get (states_in c.args.crew.now.project es) n ≡ Some Begun) its flies in
    let left : UnitExecutor = record { setup = c.args.crew.now.setup; project = c.args.crew.now.project; store = c.answer_unit.new.store; done = c.args.crew.now.done; running = c.remove-unit.new.self; started = c.args.crew.now.started; reasons = c.args.crew.now.reasons } in
    elim (told_badly _ _ _ _ c.index-units-unit.result _ _ _ _ _ c.in-Err.fault c.in-Err.ensures.named c.in-Err.ensures.told) [
      | inl answered ↦
          let only : IsTrue g.P.Place.is_modelled → ChangesOnly (is_of (records_folder c.args.crew.now.project) c.index-units-unit.result.key) now.world new.world =
          λ t. answered.changes.only in
          let consistent = manned_answered c.args.crew.now left now.counts new.counts c.args.index c.remove-unit.result c.requires.consistent at_index refl answered.store.folder refl refl c.remove-unit.ensures.items answered.store.next
          (answer_fault_lands _ _ (child_of c.remove-unit.result.begun) c.in-Err.fault _ _ (answer_told _ _ _ c.in-Err.fault _ _ c.in-Err.ensures.named answered.changes.takes.0)) in
          let alone : IsTrue g.P.Place.is_modelled → NoneWritesTo c.index-units-unit.result.out new.counts.starts.flying =
          λ t. none_writes c.args.crew.now.project consistent.order at.world new.world c.remove-unit.new.self.items es new.counts.starts.flying consistent.units consistent.tickets
          (changes_less c.args.crew.now.project c.requires.consistent.order at.world c.args.crew.now.running.items es now.world new.world now.counts.starts.flying new.counts.starts.flying (s.changes t) (λ j y at_j. flying_of c.args.crew.now now.counts j y c.requires.consistent at_j)
          c.args.index c.remove-unit.result at_index c.index-units-unit.result there c.requires.consistent.units_apart c.requires.consistent.tickets_apart
          (only t) answered.changes.stay c.remove-unit.new.self.items c.remove-unit.ensures.items)
          c.remove-unit.result.unit c.index-units-unit.result there
          (λ has. apart_removed (indices_of c.args.crew.now.running.items) c.args.index c.remove-unit.result.unit c.requires.consistent.units_apart (get_map index_of_unit c.args.crew.now.running.items c.args.index c.remove-unit.result at_index)
          (subst (λ (ps : List ℕ). Contains ps c.remove-unit.result.unit) (ap (λ items. map index_of_unit items) c.remove-unit.ensures.items ∙ map_removed index_of_unit c.args.crew.now.running.items c.args.index) has)) in
          record {
            setup = s.setup;
            project = s.project;
            stops = stops_answered c.args.crew.now.project at now new c.args.crew.now.started.items c.args.crew.now.running.items es given s.goes is_given c.args.index c.remove-unit.result at_index begun refl c.index-units-unit.result there g.P.Place.is_modelled alone c.args.crew.now.store.next c.in-Err.fault
                (answer_told _ _ _ c.in-Err.fault _ _ c.in-Err.ensures.named answered.changes.takes.0) (cause_told c.in-Err.fault _ _ answered.changes.takes.1);
            spent = spends_answered IsUntold es first.store.next c.args.crew.now.store.next c.index-units-unit.result.key (child_of c.remove-unit.result.begun) c.in-Err.fault now.counts.starts new.counts.starts (answer_told _ _ _ c.in-Err.fault _ _ c.in-Err.ensures.named answered.changes.takes.0) s.numbers;
            before = es;
            came = came_answering c.args.crew.now.project c.args.crew.now.store.next c.index-units-unit.result.key (child_of c.remove-unit.result.begun) c.in-Err.fault now.counts.starts new.counts.starts (answer_told _ _ _ c.in-Err.fault _ _ c.in-Err.ensures.named answered.changes.takes.0) es;
            names = subst (λ n. NamesUnit c.args.crew.now.project c.in-Err.fault (Some n) es es) (sym its)
                (names_answering c.args.crew.now.project c.args.crew.now.store.next c.remove-unit.result.unit c.index-units-unit.result (child_of c.remove-unit.result.begun) c.in-Err.fault now.counts.starts new.counts.starts there (answer_told _ _ _ c.in-Err.fault _ _ c.in-Err.ensures.named answered.changes.takes.0) es);
            most = answered.ends.most ∙ s.goes.most;
            changes = λ t. changes_less c.args.crew.now.project c.requires.consistent.order at.world c.args.crew.now.running.items es now.world new.world now.counts.starts.flying new.counts.starts.flying (s.changes t) (λ j y at_j. flying_of c.args.crew.now now.counts j y c.requires.consistent at_j)
                c.args.index c.remove-unit.result at_index c.index-units-unit.result there c.requires.consistent.units_apart c.requires.consistent.tickets_apart
                (only t) answered.changes.stay c.remove-unit.new.self.items c.remove-unit.ensures.items;
            beside = λ t. subst (λ n. AllByRecursion (FliesBeside c.args.crew.now.project es (Some n)) c.remove-unit.new.self.items) (sym its)
                (beside_asked c.args.crew.now.project at.world c.args.crew.now.running.items es now.world now.counts.starts.flying (s.changes t) c.args.index c.remove-unit.result c.requires.consistent.units_apart at_index c.remove-unit.new.self.items c.remove-unit.ensures.items);
            unrecorded = λ t. subst (λ n. KeepsNoneInFlight c.args.crew.now.project es (Some n) new.world) (sym its)
                (flight_asked c.args.crew.now.project c.requires.consistent.order es now.world new.world c.remove-unit.result.unit c.index-units-unit.result there (only t) (s.unrecorded t));
            childless = λ t. subst (λ n. KeepsChildless c.args.crew.now.project es (Some n) at.world new.world) (sym its)
                (childless_asked c.args.crew.now.project c.requires.consistent.order es at.world now.world new.world c.remove-unit.result.unit c.index-units-unit.result there (only t) (s.childless t));
            again = λ t. (s.again t).gave;
            anew = unanswered_anew g.P.Place.is_modelled g.P.Place.child first c.args.crew.now at now new (g.P.Place.at c.args.place.now).still es given s c.requires.consistent.order lawful c.args.index c.remove-unit.result c.index-units-unit.result there at_index only;
            left = unanswered_left g.P.Place.is_modelled g.P.Place.child first c.args.crew.now at now new (g.P.Place.at c.args.place.now).still es given s c.requires.consistent.order lawful c.args.index c.remove-unit.result c.index-units-unit.result there at_index only;
            began = unanswered_began g.P.Place.is_modelled g.P.Place.child first c.args.crew.now at now new (g.P.Place.at c.args.place.now).still es given s c.requires.consistent.order lawful c.args.index c.remove-unit.result c.index-units-unit.result there at_index only answered.ends.same
                (λ t none. let (answer, h) = answered.ends.lands t in folder_answered c.args.crew.now.project c.requires.consistent.order c.remove-unit.result.unit c.index-units-unit.result there c.remove-unit.result.begun.awaited none answer _ _ now.world h.world new.world now.counts h.counts h.ends h.comes.0);
            started = λ t. none_began c.args.crew.now.project _ _ c.in-Err.fault es at.world new.world;
            happened = failed_happened g.P.Place.is_modelled g.P.Place.child first c.args.crew.now at now new (g.P.Place.at c.args.place.now).still (g.P.Place.at c.answer_unit.new.place).still es given c.args.index c.remove-unit.result c.index-units-unit.result there s at_index
                c.requires.consistent.units_apart c.requires.consistent.tickets_apart c.requires.consistent.numbers_apart c.answer_unit.new.store.next (λ premise setup sources states done other its t. (answered.build premise setup sources t).others states done other its)
                c.remove-unit.new.self.items c.remove-unit.ensures.items (λ premise setup sources states done t. (answered.build premise setup sources t).keeps states done);
            caused = λ t.
                spends_answered (LacksNumber c.args.crew.now.project at.world) es first.store.next c.args.crew.now.store.next c.index-units-unit.result.key (child_of c.remove-unit.result.begun) c.in-Err.fault now.counts.starts new.counts.starts (answer_told _ _ _ c.in-Err.fault _ _ c.in-Err.ensures.named answered.changes.takes.0) (s.taken t);
            calls = calls_unanswered g.P.Place.is_modelled g.P.Place.child first c.args.crew.now at now new (g.P.Place.at c.args.place.now).still es given s c.requires.consistent.order c.args.index c.remove-unit.result at_index c.index-units-unit.result there c.in-Err.fault c.in-Err.ensures.named unit its (λ t. let (answer, h) = answered.ends.lands t in (answer, h.world, h.counts, h.ends, h.comes.0, h.comes.1));
            calls_on_any = calls_unanswered_on_any g.P.Place.is_modelled g.P.Place.child first c.args.crew.now at now new (g.P.Place.at c.args.place.now).still es given s c.requires.consistent.order c.args.index c.remove-unit.result at_index c.index-units-unit.result there lawful s.calls_on_any
                (λ t. all_get (FliesAnew g.P.Place.child c.args.crew.now.setup c.args.crew.now.project c.args.crew.now.done.items now.world now.counts.starts.flying (g.P.Place.at c.args.place.now).still) c.args.crew.now.running.items c.args.index c.remove-unit.result (s.anew t).waits at_index)
                c.in-Err.fault c.in-Err.ensures.named unit its (λ t. let (answer, h) = answered.ends.lands t in (answer, h.world, h.counts, h.ends, h.comes.0, h.comes.1));
          }
      | inr came ↦
          let (ran, answered, memory) = came in
          let only : IsTrue g.P.Place.is_modelled → ChangesOnly (is_of (records_folder c.args.crew.now.project) c.index-units-unit.result.key) now.world new.world =
          λ t. answered.changes.only in
          subst (λ (fault : BuildFault). StoryEnds g.P.Place.is_modelled g.P.Place.child fault (Some unit) first at left new (g.P.Place.at c.answer_unit.new.place).still es) (sym memory) record {
            setup = s.setup;
            project = s.project;
            stops = stops_untold c.args.crew.now.project at now new c.args.crew.now.started.items c.args.crew.now.running.items es given s.goes is_given c.args.index c.remove-unit.result at_index begun refl g.P.Place.is_modelled answered.changes.takes.1 answered.changes.takes.0;
            spent = tt;
            before = es;
            came = inl refl;
            names = tt;
            most = answered.ends.most ∙ s.goes.most;
            changes = λ t. changes_less c.args.crew.now.project c.requires.consistent.order at.world c.args.crew.now.running.items es now.world new.world now.counts.starts.flying new.counts.starts.flying (s.changes t) (λ j y at_j. flying_of c.args.crew.now now.counts j y c.requires.consistent at_j)
                c.args.index c.remove-unit.result at_index c.index-units-unit.result there c.requires.consistent.units_apart c.requires.consistent.tickets_apart
                (only t) answered.changes.stay c.remove-unit.new.self.items c.remove-unit.ensures.items;
            beside = λ t. subst (λ n. AllByRecursion (FliesBeside c.args.crew.now.project es (Some n)) c.remove-unit.new.self.items) (sym its)
                (beside_asked c.args.crew.now.project at.world c.args.crew.now.running.items es now.world now.counts.starts.flying (s.changes t) c.args.index c.remove-unit.result c.requires.consistent.units_apart at_index c.remove-unit.new.self.items c.remove-unit.ensures.items);
            unrecorded = λ t. subst (λ n. KeepsNoneInFlight c.args.crew.now.project es (Some n) new.world) (sym its)
                (flight_asked c.args.crew.now.project c.requires.consistent.order es now.world new.world c.remove-unit.result.unit c.index-units-unit.result there (only t) (s.unrecorded t));
            childless = λ t. subst (λ n. KeepsChildless c.args.crew.now.project es (Some n) at.world new.world) (sym its)
                (childless_asked c.args.crew.now.project c.requires.consistent.order es at.world now.world new.world c.remove-unit.result.unit c.index-units-unit.result there (only t) (s.childless t));
            again = λ t. (s.again t).gave;
            anew = unanswered_anew g.P.Place.is_modelled g.P.Place.child first c.args.crew.now at now new (g.P.Place.at c.args.place.now).still es given s c.requires.consistent.order lawful c.args.index c.remove-unit.result c.index-units-unit.result there at_index only;
            left = unanswered_left g.P.Place.is_modelled g.P.Place.child first c.args.crew.now at now new (g.P.Place.at c.args.place.now).still es given s c.requires.consistent.order lawful c.args.index c.remove-unit.result c.index-units-unit.result there at_index only;
            began = unanswered_began g.P.Place.is_modelled g.P.Place.child first c.args.crew.now at now new (g.P.Place.at c.args.place.now).still es given s c.requires.consistent.order lawful c.args.index c.remove-unit.result c.index-units-unit.result there at_index only answered.ends.same
                (λ t none. let (answer, h) = answered.ends.lands t in folder_answered c.args.crew.now.project c.requires.consistent.order c.remove-unit.result.unit c.index-units-unit.result there c.remove-unit.result.begun.awaited none answer _ _ now.world h.world new.world now.counts h.counts h.ends h.comes.0);
            started = λ t. none_began c.args.crew.now.project _ _ OutOfMemory es at.world new.world;
            happened = untold_happened g.P.Place.is_modelled g.P.Place.child first c.args.crew.now at now new (g.P.Place.at c.args.place.now).still (g.P.Place.at c.answer_unit.new.place).still es given c.args.index c.remove-unit.result c.index-units-unit.result there s at_index
                c.requires.consistent.units_apart c.requires.consistent.tickets_apart c.requires.consistent.numbers_apart c.answer_unit.new.store.next (λ premise setup sources states done other its t. (answered.build premise setup sources t).others states done other its)
                ran (λ premise setup sources states done t. (answered.build premise setup sources t).outcome states done) (λ premise setup sources states done t. (answered.build premise setup sources t).keeps states done) answered.answers.directives c.remove-unit.new.self.items c.remove-unit.ensures.items;
            caused = λ t. tt;
            calls = calls_untold g.P.Place.is_modelled g.P.Place.child first c.args.crew.now at now new (g.P.Place.at c.args.place.now).still es given s c.requires.consistent.order c.args.index c.remove-unit.result at_index c.index-units-unit.result there ran unit its (λ t. let (answer, h) = answered.ends.lands t in (answer, h.world, h.counts, h.ends, h.comes.0, h.comes.1));
            calls_on_any = calls_untold_on_any g.P.Place.is_modelled g.P.Place.child first c.args.crew.now at now new (g.P.Place.at c.args.place.now).still es given s c.requires.consistent.order c.args.index c.remove-unit.result at_index c.index-units-unit.result there lawful s.calls_on_any
                (λ t. all_get (FliesAnew g.P.Place.child c.args.crew.now.setup c.args.crew.now.project c.args.crew.now.done.items now.world now.counts.starts.flying (g.P.Place.at c.args.place.now).still) c.args.crew.now.running.items c.args.index c.remove-unit.result (s.anew t).waits at_index)
                ran unit its (λ t. let (answer, h) = answered.ends.lands t in (answer, h.world, h.counts, h.ends, h.comes.0, h.comes.1));
          }
    ]

pub returns-clause-story : goal.returns-clause-story
returns-clause-story g c = λ first at heard es given unit s flying lawful is_given is_unit flies.
    let at_index = slice_get_read c.args.crew.now.running.items (length c.args.crew.now.running.items) c.args.index c.remove-unit.result refl
    (subst (λ n. c.args.index < n) (length-map c.args.crew.now.running.items index_of_unit) c.requires.within) c.remove-unit.ensures.value in
    let of_plan = all_get (IsOfPlan c.args.crew.now.project) c.args.crew.now.running.items c.args.index c.remove-unit.result c.requires.consistent.units at_index in
    let there = there_of c.args.crew.now.project.plan.planned c.units.result.now c.remove-unit.result.unit c.index-units-unit.result of_plan.unit of_plan.there c.units.ensures c.index-units-unit.is in
    let now = moment (g.P.Place.at c.args.place.now) heard in
    let new = moment (g.P.Place.at c.answer_unit.new.place) heard in
    let its = injective (sym is_unit ∙ get_map index_of_unit c.args.crew.now.running.items c.args.index c.remove-unit.result at_index) in
    let begun = subst (λ n. slice_get (states_in c.args.crew.now.project es) n ≡ Some Begun) its flies in
    let (ran, answered, told) = told_well _ _ _ _ c.index-units-unit.result _ _ _ _ _ c.in-Ok.outcome c.in-Ok.ensures.told in
    let lines = unit_lines c.args.crew.now.project c.index-units-unit.result ran.started ran.messages in
    let answer_of : Outcome → Answer BadUnit = λ outcome. record { fault = outcome.fault; lines = outcome.lines } in
    let done_is = c.note_answer.ensures.done ∙ ap (λ (outcome : Outcome). slice_set c.args.crew.now.done.items c.remove-unit.result.unit outcome.directives) told in
    let only : IsTrue g.P.Place.is_modelled → ChangesOnly (is_of (records_folder c.args.crew.now.project) c.index-units-unit.result.key) now.world new.world = λ t. answered.changes.only in
    let crew : UnitExecutor = record { setup = c.args.crew.now.setup; project = c.args.crew.now.project; store = c.answer_unit.new.store; done = c.note_answer.new.done; running = c.remove-unit.new.self; started = c.args.crew.now.started; reasons = c.args.crew.now.reasons } in
    let answer : Answer BadUnit = record { fault = ran.bad; lines = lines } in
    let flies_so : IsTrue g.P.Place.is_modelled → is_started es c.remove-unit.result.unit ≡ is_some (child_of c.remove-unit.result.begun) =
    λ t. (all_get (FliesIn c.args.crew.now.project es now.world now.counts.starts.flying) c.args.crew.now.running.items c.args.index c.remove-unit.result (s.changes t).flies at_index).started in
    let childless : is_started es c.remove-unit.result.unit ≡ true → c.answer_unit.new.store.next ≡ c.args.crew.now.store.next =
    λ started. answered.ends.untaken (child_numbered c.remove-unit.result.begun (has_child c.args.crew.now.running.items c.args.index c.remove-unit.result c.requires.consistent.units_apart at_index
    (subst (λ (l : List ℕ). Contains l c.remove-unit.result.unit) (sym s.goes.launched_are) (started_flies (needs_of c.args.crew.now.project) es c.remove-unit.result.unit lawful begun started)))) in
    subst (λ n. History g.P.Place.is_modelled g.P.Place.child first at crew new (g.P.Place.at c.answer_unit.new.place).still (Gave n c.note_answer.result ∷ es) given) (sym its)
    (subst (λ given_answer. History g.P.Place.is_modelled g.P.Place.child first at crew new (g.P.Place.at c.answer_unit.new.place).still (Gave c.remove-unit.result.unit given_answer ∷ es) given) (sym (c.note_answer.ensures.answer ∙ ap answer_of told)) record {
      setup = s.setup;
      project = s.project;
      goes = goes_lists c.args.crew.now.project at new c.args.crew.now.started.items c.args.crew.now.started.items _ c.remove-unit.new.self.items (Gave c.remove-unit.result.unit answer ∷ es) given refl c.remove-unit.ensures.items
          (goes_answered c.args.crew.now.project at now new c.args.crew.now.started.items c.args.crew.now.running.items es given s.goes is_given c.args.index c.remove-unit.result at_index begun refl c.requires.consistent.units_apart answer
          answered.changes.takes.0 answered.changes.takes.1 answered.ends.most);
      numbers = (
        c.args.crew.now.store.next,
        s.numbers,
        record {
          at_most = answered.store.next;
          child = childless;
          bad = answered.answers.bad;
          had = λ untold. absurd untold;
          lacked = λ alone good untold. absurd untold;
        },
      );
      taken = λ t. answered_taken g.P.Place.is_modelled g.P.Place.child first c.args.crew.now at now (g.P.Place.at c.args.place.now).still es given s c.args.index c.remove-unit.result c.index-units-unit.result at_index there (flies_so t) ran lines
          c.answer_unit.new.store.next answered.store.next childless answered.answers.bad answered.ends.untaken answered.answers.taken t;
      changes = λ t. changes_after c.args.crew.now.project c.requires.consistent.order at.world c.args.crew.now.running.items es now.world new.world now.counts.starts.flying new.counts.starts.flying (s.changes t) (λ j y at_j. flying_of c.args.crew.now now.counts j y c.requires.consistent at_j)
          c.args.index c.remove-unit.result at_index c.index-units-unit.result there c.requires.consistent.units_apart c.requires.consistent.tickets_apart
          (only t) answered.changes.stay c.remove-unit.new.self.items c.remove-unit.ensures.items answer
          (λ bad none. launched_gone reading (records_folder c.args.crew.now.project) c.index-units-unit.result.key c.index-units-unit.result.out now.world new.world
          (c.requires.consistent.order.keys c.remove-unit.result.unit c.index-units-unit.result there) (c.requires.consistent.order.folders c.remove-unit.result.unit c.index-units-unit.result there)
          (answered.answers.unkept bad) (none));
      unrecorded = λ t. flight_given c.args.crew.now.project c.requires.consistent.order es now.world new.world c.remove-unit.result.unit c.index-units-unit.result there (only t) (s.unrecorded t) answer begun;
      childless = λ t. childless_given c.args.crew.now.project c.requires.consistent.order es at.world now.world new.world c.remove-unit.result.unit c.index-units-unit.result there (only t) (s.childless t) answer begun;
      again = answered_again g.P.Place.is_modelled g.P.Place.child first c.args.crew.now at now new (g.P.Place.at c.args.place.now).still es given s c.requires.consistent.order (IsTrue true) lawful c.args.index c.remove-unit.result c.index-units-unit.result c.requires.consistent at_index there only
          ran lines refl
          (λ t. let (ended, h) = answered.answers.judged t in (ended, h.world, h.counts, h.ends, h.comes)) c.remove-unit.new.self.items c.note_answer.new.done.items c.remove-unit.ensures.items done_is;
      anew = answered_anew g.P.Place.is_modelled g.P.Place.child first c.args.crew.now at now new (g.P.Place.at c.args.place.now).still es given s c.requires.consistent.order lawful c.args.index c.remove-unit.result c.index-units-unit.result there at_index only c.requires.consistent (g.P.Place.at c.answer_unit.new.place).still answered.changes.stay (λ t. answered.changes.still)
          ran lines refl
          answered.answers.started (λ t. let (ended, h) = answered.answers.judged t in (ended, h.world, h.counts, h.ends, h.comes)) (λ t. let (answer, h) = answered.ends.lands t in (answer, h.world, h.counts, h.ends, h.comes.0))
          c.remove-unit.new.self.items c.note_answer.new.done.items c.remove-unit.ensures.items done_is;
      left = answered_left g.P.Place.is_modelled g.P.Place.child first c.args.crew.now at now new (g.P.Place.at c.args.place.now).still es given s c.requires.consistent.order lawful c.args.index c.remove-unit.result c.index-units-unit.result there at_index only
          ran lines (λ t good. let (ended, h) = answered.answers.kept t good in (ended, h.world, h.counts, h.ends, h.comes)) c.answer_unit.new.store.next (λ t. lacked_taken g.P.Place.is_modelled g.P.Place.child first c.args.crew.now at now (g.P.Place.at c.args.place.now).still es given s c.args.index c.remove-unit.result c.index-units-unit.result at_index there (flies_so t) ran c.answer_unit.new.store.next answered.answers.taken t) (λ t. let (answer, h) = answered.ends.lands t in (answer, h.world, h.counts, h.ends, h.comes.0))
          (λ t. answered.answers.unkept) c.remove-unit.new.self.items c.note_answer.new.done.items c.remove-unit.ensures.items done_is;
      began = answered_began g.P.Place.is_modelled g.P.Place.child first c.args.crew.now at now new (g.P.Place.at c.args.place.now).still es given s c.requires.consistent.order lawful c.args.index c.remove-unit.result c.index-units-unit.result there at_index only answered.ends.same
          (λ t none. let (answer, h) = answered.ends.lands t in folder_answered c.args.crew.now.project c.requires.consistent.order c.remove-unit.result.unit c.index-units-unit.result there c.remove-unit.result.begun.awaited none answer _ _ now.world h.world new.world now.counts h.counts h.ends h.comes.0)
          c.note_answer.new.done.items ran.directives answer done_is;
      happened = answered_happened g.P.Place.is_modelled g.P.Place.child first c.args.crew.now at now new (g.P.Place.at c.args.place.now).still (g.P.Place.at c.answer_unit.new.place).still es given c.args.index c.remove-unit.result c.index-units-unit.result there s at_index
          c.requires.consistent.units_apart c.requires.consistent.tickets_apart c.requires.consistent.numbers_apart c.answer_unit.new.store.next (λ premise setup sources states done other its t. (answered.build premise setup sources t).others states done other its)
          ran (λ premise setup sources states done t. (answered.build premise setup sources t).outcome states done) (λ premise setup sources states done t. (answered.build premise setup sources t).keeps states done) answered.answers.directives lines c.remove-unit.new.self.items c.note_answer.new.done.items c.remove-unit.ensures.items done_is
          answered.answers.started refl;
      quiet = answered_quiet g.P.Place.is_modelled g.P.Place.child first c.args.crew.now at now new (g.P.Place.at c.args.place.now).still es given s c.args.index c.remove-unit.result c.index-units-unit.result there at_index answer answered.ends.same;
      calls = calls_answered g.P.Place.is_modelled g.P.Place.child first c.args.crew.now at now new (g.P.Place.at c.args.place.now).still es given s c.requires.consistent.order c.args.index c.remove-unit.result at_index c.index-units-unit.result there answer ran (λ t. let (answer, h) = answered.ends.lands t in (answer, h.world, h.counts, h.ends, h.comes.0, h.comes.1));
      calls_on_any = calls_answered_on_any g.P.Place.is_modelled g.P.Place.child first c.args.crew.now at now new (g.P.Place.at c.args.place.now).still es given s c.requires.consistent.order c.args.index c.remove-unit.result at_index c.index-units-unit.result there lawful s.calls_on_any
          (λ t. all_get (FliesAnew g.P.Place.child c.args.crew.now.setup c.args.crew.now.project c.args.crew.now.done.items now.world now.counts.starts.flying (g.P.Place.at c.args.place.now).still) c.args.crew.now.running.items c.args.index c.remove-unit.result (s.anew t).waits at_index)
          c.note_answer.new.done.items ran.directives done_is answer ran (λ t. let (answer, h) = answered.ends.lands t in (answer, h.world, h.counts, h.ends, h.comes.0, h.comes.1));
      unnoted = notes_answered c.args.crew.now.project es first.reasons.items c.args.crew.now.reasons.items c.remove-unit.result.unit answer begun s.unnoted;
      noted = started_answered c.args.crew.now.project es c.args.crew.now.reasons.items c.remove-unit.result.unit answer begun s.noted;
    })
