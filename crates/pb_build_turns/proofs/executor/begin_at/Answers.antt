use Rattle.std.proofs.Common.{◌∙◌, ◌++◌, ◌∷◌, [], ℕ, List, Some, IsTrue, length, false, is_some, refl, sym, ap, subst, inl, inr, map}
use Rattle.pb_build_result.specs.declared.fault.BuildFault.TheVariants.{OutOfMemory}
use Rattle.pb_run_flight.specs.Events.{Began}
use Rattle.pb_run_flight.specs.Table.{if_so}
use Rattle.pb_run_flight.proofs.Lists.{length_set}
use Rattle.pb_place_types.proofs.Folders.{only_same}
use Rattle.pb_place_types.proofs.Starts.{of_some}
use Rattle.pb_run.specs.Running.{past_look, Launches}
use Rattle.pb_run.specs.UnitSteps.{child_of}
use Rattle.pb_run.specs.declared.begun.SpawnedChild.{SpawnedChild}
use Rattle.pb_run.proofs.Naming.{begin_told, cause_told, start_told}
use Rattle.pb_run.proofs.Parts.{begun_parts}
use Rattle.pb_store_soundness.specs.Records.{records}
use Rattle.pb_store.specs.Folder.{HasNumbers}
use Rattle.pb_build_turns.specs.Executor.{noted, ticket_of_child, moment}
use Rattle.pb_build_turns.specs.History.{LacksNumber, History, IsUntold, NoneWritesTo}
use Rattle.pb_build_turns.proofs.Again.{begun_again, gave_begun}
use Rattle.pb_build_turns.proofs.Anew.{begun_anew, unbegun_anew}
use Rattle.pb_build_turns.proofs.Alone.{none_writes}
use Rattle.pb_build_turns.proofs.Beginning.{goes_lists, refused_happened, failed_happened, begun_happened, by_number}
use Rattle.pb_build_turns.proofs.Calling.{calls_begun, calls_begun_on_any, calls_unbegun, calls_unbegun_on_any}
use Rattle.pb_build_turns.proofs.Changing.{beside_none, changes_begun, changes_more, owns_more}
use Rattle.pb_build_turns.proofs.Counting.{goes_begun, stops_begun, stops_refused_begun, children_are}
use Rattle.pb_build_turns.proofs.Differing.{differed_tried, begun_began, unbegun_began, unbegun_started}
use Rattle.pb_build_turns.proofs.Happening.{none_of}
use Rattle.pb_build_turns.proofs.Leaving.{begun_left, unbegun_left}
use Rattle.pb_build_turns.proofs.Manning.{manned_same, manned_begun, begin_fault_flies, flying_of}
use Rattle.pb_build_turns.proofs.Numbering.{begun_taken, numbers_begun}
use Rattle.pb_build_turns.proofs.Quiet.{begun_quiet}
use Rattle.pb_build_turns.proofs.Reaching.{there_at, there_some, within_reasons}
use Rattle.pb_build_turns.proofs.Staying.{none_tried}
use Rattle.pb_build_turns.proofs.Unbegun.{notes_begun, started_begun}
use Rattle.pb_build_turns.proofs.Unkept.{flight_begun, flight_unbegun}
use Rattle.pb_build_turns.proofs.Waiting.{childless_begun, childless_unbegun}
use Rattle.pb_build_turns.proofs.executor.begin_at.Goals as goal

pub begin_unit-requires-clause-unit : goal.begin_unit-requires-clause-unit
begin_unit-requires-clause-unit g c = there_at c.args.crew.now.project.plan.planned c.units.result.now c.args.unit c.index-units-unit.result c.requires.unit c.units.ensures c.index-units-unit.is

pub begin_unit-requires-clause-numbers : goal.begin_unit-requires-clause-numbers
begin_unit-requires-clause-numbers g c = λ t. subst (λ (folder : List ℕ). HasNumbers (records folder (g.P.Place.at c.args.place.now).world) c.args.crew.now.store.numbers) (sym c.requires.consistent.folder) (c.requires.able.numbers t)

pub returns-clause-able : goal.returns-clause-able
returns-clause-able g c =
    let there = there_at c.args.crew.now.project.plan.planned c.units.result.now c.args.unit c.index-units-unit.result c.requires.unit c.units.ensures c.index-units-unit.is in record {
      numbers = λ t. subst (λ (folder : List ℕ). HasNumbers (records folder (g.P.Place.at c.begin_unit.new.place).world) c.begin_unit.new.store.numbers) c.requires.consistent.folder (c.in-Ok-begin_unit.ensures.store.numbers t);
      writes = owns_more c.args.crew.now.project c.args.crew.now.running.items (g.P.Place.at c.args.place.now).counts.starts.flying (g.P.Place.at c.begin_unit.new.place).counts.starts.flying
          (λ j y at_j. flying_of c.args.crew.now (g.P.Place.at c.args.place.now).counts j y c.requires.consistent at_j) c.requires.able.writes (λ ticket its. c.begin_unit.ensures.changes.stay ticket its tt)
          record { unit = c.args.unit; begun = noted c.in-Ok-begin_unit.begun } c.index-units-unit.result there c.in-Ok-begin_unit.ensures.begins.writes
          c.note_begun.new.running.items (c.note_begun.ensures.running ∙ ap (λ items. items ++ record { unit = c.args.unit; begun = noted c.in-Ok-begin_unit.begun } ∷ []) c.make_room.ensures.running);
    }

pub note_begun-requires-clause-within : goal.note_begun-requires-clause-within
note_begun-requires-clause-within g c = within_reasons c.args.crew.now c.args.unit c.requires.consistent.reasoned c.requires.unit

pub returns-in-Err-begin_unit-clause-consistent : goal.returns-in-Err-begin_unit-clause-consistent
returns-in-Err-begin_unit-clause-consistent g c =
    manned_same c.args.crew.now _ (g.P.Place.at c.args.place.now).counts (g.P.Place.at c.begin_unit.new.place).counts c.requires.consistent refl c.begin_unit.ensures.store.folder refl refl c.make_room.ensures.running c.begin_unit.ensures.store.next
    (begin_fault_flies _ _ c.in-Err-begin_unit.fault _ _ (begin_told _ _ c.in-Err-begin_unit.fault _ _ c.in-Err-begin_unit.ensures.named c.in-Err-begin_unit.ensures.changes.takes.0))

pub returns-clause-consistent : goal.returns-clause-consistent
returns-clause-consistent g c =
    let there = there_at c.args.crew.now.project.plan.planned c.units.result.now c.args.unit c.index-units-unit.result c.requires.unit c.units.ensures c.index-units-unit.is in
    manned_begun c.args.crew.now _ (g.P.Place.at c.args.place.now).counts (g.P.Place.at c.begin_unit.new.place).counts record { unit = c.args.unit; begun = noted c.in-Ok-begin_unit.begun } c.requires.consistent c.requires.grounded
    record { unit = c.index-units-unit.result; there = there; key = c.in-Ok-begin_unit.ensures.begins.unit; asks = (c.args.crew.now.setup, c.as_slice.result.now, c.in-Ok-begin_unit.ensures.begins.asks) }
    refl c.begin_unit.ensures.store.folder refl (ap length c.note_begun.ensures.reasons ∙ length_set c.args.crew.now.reasons.items c.args.unit (Some c.in-Ok-begin_unit.begun.difference)) (c.note_begun.ensures.running ∙ ap (λ items. items ++ record { unit = c.args.unit; begun = noted c.in-Ok-begin_unit.begun } ∷ []) c.make_room.ensures.running)
    c.begin_unit.ensures.store.next c.in-Ok-begin_unit.ensures.changes.takes.1 (by_number c.args.crew.now.store.next c.begin_unit.new.store.next (child_of c.in-Ok-begin_unit.begun) c.in-Ok-begin_unit.ensures.begins.number)

pub returns-in-Err-clause-story : goal.returns-in-Err-clause-story
returns-in-Err-clause-story g c = λ first at heard es given s flying lawful is_given may.
    let (u, there) = there_some c.args.crew.now.project.plan.planned c.args.unit c.requires.unit in
    let now = moment (g.P.Place.at c.args.place.now) heard in (
      false,
      record {
        setup = s.setup;
        project = s.project;
        stops = stops_refused_begun c.args.crew.now.project at now now c.args.crew.now.started.items c.args.crew.now.running.items es given c.args.unit s.goes is_given may.untouched refl g.P.Place.is_modelled refl;
        spent = tt;
        before = es;
        came = inr (c.args.unit, false, refl);
        names = tt;
        most = s.goes.most;
        changes = λ t. changes_begun c.args.crew.now.project c.requires.consistent.order at.world c.args.crew.now.running.items es now.world now.world now.counts.starts.flying now.counts.starts.flying (s.changes t) (λ index a at. flying_of c.args.crew.now (g.P.Place.at c.args.place.now).counts index a c.requires.consistent at)
            c.args.unit u there may.untouched (only_same _ now.world) (λ ticket its is. is) false c.make_room.new.running.items c.make_room.ensures.running;
        beside = λ t. beside_none c.args.crew.now.project at.world c.args.crew.now.running.items es now.world now.counts.starts.flying (s.changes t) c.make_room.new.running.items c.make_room.ensures.running;
        unrecorded = s.unrecorded;
        childless = s.childless;
        again = λ t. gave_begun c.args.crew.now.setup c.args.crew.now.project c.args.crew.now.done.items es at.world c.args.unit false may.untouched (s.again t).gave;
        anew = unbegun_anew g.P.Place.is_modelled g.P.Place.child first c.args.crew.now at now now (g.P.Place.at c.args.place.now).still es given s c.requires.consistent.order lawful c.args.unit u there may (λ t. only_same _ now.world) false;
        left = unbegun_left g.P.Place.is_modelled g.P.Place.child first c.args.crew.now at now now (g.P.Place.at c.args.place.now).still es given s c.requires.consistent.order lawful c.args.unit u there may (λ t. only_same _ now.world) false;
        began = s.began;
        started = λ t. none_tried c.args.crew.now.project _ _ OutOfMemory es at.world now.world c.args.unit refl;
        happened = refused_happened g.P.Place.is_modelled g.P.Place.child first c.args.crew.now at now now (g.P.Place.at c.args.place.now).still (g.P.Place.at c.args.place.now).still es given c.args.unit u c.requires.consistent.order there s may c.make_room.new.running.items c.make_room.ensures.running;
        caused = λ t. tt;
        calls = λ t f sources keeps. (now.world, now.counts, s.calls t f sources keeps, inl (inr refl, refl, refl));
        calls_on_any = λ t. (now.world, now.counts, s.calls_on_any t, inl (inr refl, refl, refl));
      },
    )

pub returns-in-Err-begin_unit-clause-story : goal.returns-in-Err-begin_unit-clause-story
returns-in-Err-begin_unit-clause-story g c = λ first at heard es given s flying lawful is_given may.
    let there = there_at c.args.crew.now.project.plan.planned c.units.result.now c.args.unit c.index-units-unit.result c.requires.unit c.units.ensures c.index-units-unit.is in
    let now = moment (g.P.Place.at c.args.place.now) heard in
    let new = moment (g.P.Place.at c.begin_unit.new.place) heard in
    let alone : IsTrue g.P.Place.is_modelled → NoneWritesTo c.index-units-unit.result.out (g.P.Place.at c.begin_unit.new.place).counts.starts.flying =
    λ t. none_writes c.args.crew.now.project c.requires.consistent.order at.world (g.P.Place.at c.begin_unit.new.place).world c.args.crew.now.running.items (Began c.args.unit false ∷ es) (g.P.Place.at c.begin_unit.new.place).counts.starts.flying
    c.requires.consistent.units (ap (map ticket_of_child) (begin_fault_flies _ _ c.in-Err-begin_unit.fault _ _ (begin_told _ _ c.in-Err-begin_unit.fault _ _ c.in-Err-begin_unit.ensures.named c.in-Err-begin_unit.ensures.changes.takes.0)) ∙ c.requires.consistent.tickets)
    (changes_begun c.args.crew.now.project c.requires.consistent.order at.world c.args.crew.now.running.items es (g.P.Place.at c.args.place.now).world (g.P.Place.at c.begin_unit.new.place).world (g.P.Place.at c.args.place.now).counts.starts.flying (g.P.Place.at c.begin_unit.new.place).counts.starts.flying
    (s.changes t) (λ index a at. flying_of c.args.crew.now (g.P.Place.at c.args.place.now).counts index a c.requires.consistent at)
    c.args.unit c.index-units-unit.result there may.untouched c.begin_unit.ensures.changes.only (λ ticket its. c.begin_unit.ensures.changes.stay ticket its tt) false c.args.crew.now.running.items refl)
    c.args.unit c.index-units-unit.result there c.requires.grounded in
    let (spawned, stops, tried, spends, came, names) = stops_begun c.args.crew.now.project at now
    new
    c.args.crew.now.started.items c.args.crew.now.running.items es given c.args.unit s.goes is_given may.untouched refl c.index-units-unit.result there g.P.Place.is_modelled alone c.args.crew.now.store.next c.in-Err-begin_unit.fault
    (begin_told _ _ c.in-Err-begin_unit.fault _ _ c.in-Err-begin_unit.ensures.named c.in-Err-begin_unit.ensures.changes.takes.0) (cause_told c.in-Err-begin_unit.fault _ _ c.in-Err-begin_unit.ensures.changes.takes.1) in (
      spawned,
      record {
        setup = s.setup;
        project = s.project;
        stops = stops;
        spent = spends IsUntold first.store.next s.numbers;
        before = es;
        came = came;
        names = names;
        most = c.in-Err-begin_unit.ensures.fails.most ∙ s.goes.most;
        changes = λ t. changes_begun c.args.crew.now.project c.requires.consistent.order at.world c.args.crew.now.running.items es (g.P.Place.at c.args.place.now).world (g.P.Place.at c.begin_unit.new.place).world (g.P.Place.at c.args.place.now).counts.starts.flying (g.P.Place.at c.begin_unit.new.place).counts.starts.flying
            (s.changes t) (λ index a at. flying_of c.args.crew.now (g.P.Place.at c.args.place.now).counts index a c.requires.consistent at)
            c.args.unit c.index-units-unit.result there may.untouched c.begin_unit.ensures.changes.only (λ ticket its. c.begin_unit.ensures.changes.stay ticket its tt) spawned c.make_room.new.running.items c.make_room.ensures.running;
        beside = λ t. beside_none c.args.crew.now.project at.world c.args.crew.now.running.items es now.world now.counts.starts.flying (s.changes t) c.make_room.new.running.items c.make_room.ensures.running;
        unrecorded = λ t. flight_unbegun c.args.crew.now.project c.requires.consistent.order es (g.P.Place.at c.args.place.now).world (g.P.Place.at c.begin_unit.new.place).world c.args.unit c.index-units-unit.result there c.begin_unit.ensures.changes.only (s.unrecorded t) may.untouched;
        childless = λ t. childless_unbegun c.args.crew.now.project c.requires.consistent.order es at.world (g.P.Place.at c.args.place.now).world (g.P.Place.at c.begin_unit.new.place).world c.args.unit c.index-units-unit.result there c.begin_unit.ensures.changes.only (s.childless t) may.untouched;
        again = λ t. gave_begun c.args.crew.now.setup c.args.crew.now.project c.args.crew.now.done.items es at.world c.args.unit spawned may.untouched (s.again t).gave;
        anew = unbegun_anew g.P.Place.is_modelled g.P.Place.child first c.args.crew.now at now new (g.P.Place.at c.args.place.now).still es given s c.requires.consistent.order lawful c.args.unit c.index-units-unit.result there may (λ t. c.begin_unit.ensures.changes.only) spawned;
        left = unbegun_left g.P.Place.is_modelled g.P.Place.child first c.args.crew.now at now new (g.P.Place.at c.args.place.now).still es given s c.requires.consistent.order lawful c.args.unit c.index-units-unit.result there may (λ t. c.begin_unit.ensures.changes.only) spawned;
        began = unbegun_began g.P.Place.is_modelled g.P.Place.child first c.args.crew.now at now new (g.P.Place.at c.args.place.now).still es given s c.requires.consistent.order lawful c.args.unit c.index-units-unit.result there may (λ t. c.begin_unit.ensures.changes.only) c.as_slice.result.now c.as_slice.ensures.value;
        started = unbegun_started g.P.Place.is_modelled g.P.Place.child first c.args.crew.now at now new (g.P.Place.at c.args.place.now).still es given s c.requires.consistent.order lawful c.args.unit c.index-units-unit.result there may (λ t. c.begin_unit.ensures.changes.only) c.as_slice.result.now c.as_slice.ensures.value
            spawned c.in-Err-begin_unit.fault (within_reasons c.args.crew.now c.args.unit c.requires.consistent.reasoned c.requires.unit)
            (λ t. differed_tried _ _ _ spawned c.in-Err-begin_unit.fault tried (λ so. c.in-Err-begin_unit.ensures.fails.cause t (sym (start_told c.in-Err-begin_unit.fault) ∙ so)) (c.in-Err-begin_unit.ensures.fails.tried t));
        happened = failed_happened g.P.Place.is_modelled g.P.Place.child first c.args.crew.now at now
            new (g.P.Place.at c.args.place.now).still (g.P.Place.at c.begin_unit.new.place).still
            es given c.args.unit c.index-units-unit.result c.requires.consistent.order there s may c.begin_unit.new.store.next c.as_slice.result.now c.as_slice.ensures.value
            (λ premise sources states t. (c.in-Err-begin_unit.ensures.build premise sources t).keeps states) (λ premise sources states other its t. (c.in-Err-begin_unit.ensures.build premise sources t).others states other its) spawned c.make_room.new.running.items c.make_room.ensures.running;
        caused = λ t. spends (LacksNumber c.args.crew.now.project at.world) first.store.next (s.taken t);
        calls = calls_unbegun g.P.Place.is_modelled g.P.Place.child first c.args.crew.now at now
            new (g.P.Place.at c.args.place.now).still
            es given c.args.unit c.index-units-unit.result c.requires.consistent.order there s may c.as_slice.result.now c.as_slice.ensures.value spawned c.in-Err-begin_unit.fault c.in-Err-begin_unit.ensures.named c.in-Err-begin_unit.ensures.fails.stops (λ t. c.begin_unit.ensures.changes.only);
        calls_on_any = calls_unbegun_on_any g.P.Place.is_modelled g.P.Place.child first c.args.crew.now at now
            new (g.P.Place.at c.args.place.now).still
            es given c.args.unit c.index-units-unit.result c.requires.consistent.order there s may c.as_slice.result.now c.as_slice.ensures.value spawned c.in-Err-begin_unit.fault c.in-Err-begin_unit.ensures.named c.in-Err-begin_unit.ensures.fails.stops (λ t. c.begin_unit.ensures.changes.only) s.calls_on_any;
      },
    )

pub returns-clause-story : goal.returns-clause-story
returns-clause-story g c = λ first at heard es given s flying lawful is_given may.
    let there = there_at c.args.crew.now.project.plan.planned c.units.result.now c.args.unit c.index-units-unit.result c.requires.unit c.units.ensures c.index-units-unit.is in
    let now = moment (g.P.Place.at c.args.place.now) heard in
    let new = moment (g.P.Place.at c.begin_unit.new.place) heard in
    let more = c.note_begun.ensures.running ∙ ap (λ items. items ++ record { unit = c.args.unit; begun = noted c.in-Ok-begin_unit.begun } ∷ []) c.make_room.ensures.running in
    subst (λ flag. History g.P.Place.is_modelled g.P.Place.child first at record { setup = c.args.crew.now.setup; project = c.args.crew.now.project; store = c.begin_unit.new.store; done = c.args.crew.now.done; running = c.note_begun.new.running; started = c.note_begun.new.started; reasons = c.note_begun.new.reasons }
    new (g.P.Place.at c.begin_unit.new.place).still (Began c.args.unit flag ∷ es) given) (sym c.has_child-spawned.ensures) record {
      setup = s.setup;
      project = s.project;
      goes = goes_lists c.args.crew.now.project at new _ c.note_begun.new.started.items _ c.note_begun.new.running.items (Began c.args.unit (is_some (child_of c.in-Ok-begin_unit.begun)) ∷ es) given
          (c.note_begun.ensures.started ∙ ap (λ l. l ++ if_so (is_some (child_of c.in-Ok-begin_unit.begun)) c.args.unit) c.make_room.ensures.started) more
          (goes_begun c.args.crew.now.project at now new c.args.crew.now.started.items c.args.crew.now.running.items es given c.args.unit s.goes is_given may.untouched refl
          record { unit = c.args.unit; begun = noted c.in-Ok-begin_unit.begun } refl c.in-Ok-begin_unit.ensures.changes.takes.0 c.in-Ok-begin_unit.ensures.changes.takes.1
          (children_are (g.P.Place.at c.args.place.now).counts c.args.crew.now.running.items c.requires.consistent.tickets) c.in-Ok-begin_unit.ensures.begins.most);
      numbers = numbers_begun IsUntold es first.store.next c.args.crew.now.store.next c.begin_unit.new.store.next c.args.unit (child_of c.in-Ok-begin_unit.begun) c.in-Ok-begin_unit.ensures.begins.number s.numbers;
      taken = begun_taken g.P.Place.is_modelled g.P.Place.child first c.args.crew.now at now (g.P.Place.at c.args.place.now).still es given c.args.unit s c.begin_unit.new.store.next (child_of c.in-Ok-begin_unit.begun) c.in-Ok-begin_unit.ensures.begins.number;
      changes = λ t. changes_more c.args.crew.now.project c.requires.consistent.order at.world c.args.crew.now.running.items es now.world new.world now.counts.starts.flying new.counts.starts.flying (s.changes t) (λ index a at. flying_of c.args.crew.now (g.P.Place.at c.args.place.now).counts index a c.requires.consistent at)
          c.args.unit c.index-units-unit.result there may.untouched c.begin_unit.ensures.changes.only (λ ticket its. c.begin_unit.ensures.changes.stay ticket its tt) (is_some (child_of c.in-Ok-begin_unit.begun))
          record { unit = c.args.unit; begun = noted c.in-Ok-begin_unit.begun } c.note_begun.new.running.items refl more c.in-Ok-begin_unit.ensures.begins.writes refl (c.in-Ok-begin_unit.ensures.begins.dropped t);
      unrecorded = λ t. flight_begun c.args.crew.now.project c.requires.consistent.order es now.world new.world c.args.unit c.index-units-unit.result there c.begin_unit.ensures.changes.only (s.unrecorded t) (is_some (child_of c.in-Ok-begin_unit.begun)) may.untouched
          (c.in-Ok-begin_unit.ensures.begins.dropped t);
      childless = λ t. childless_begun c.args.crew.now.project c.requires.consistent.order es at.world now.world new.world c.args.unit c.index-units-unit.result there c.begin_unit.ensures.changes.only (s.childless t) (is_some (child_of c.in-Ok-begin_unit.begun)) may.untouched
          (λ none. c.in-Ok-begin_unit.ensures.begins.same (none_of (child_of c.in-Ok-begin_unit.begun) none)) (s.changes t).only;
      again = begun_again g.P.Place.is_modelled g.P.Place.child first c.args.crew.now at now new (g.P.Place.at c.args.place.now).still es given s c.requires.consistent.order c.args.unit c.index-units-unit.result there may.untouched (λ t. c.begin_unit.ensures.changes.only)
          c.as_slice.result.now c.as_slice.ensures.value (noted c.in-Ok-begin_unit.begun) c.in-Ok-begin_unit.ensures.begins.asks c.in-Ok-begin_unit.begun.difference c.note_begun.new.running.items more c.in-Ok-begin_unit.ensures.begins.differs c.in-Ok-begin_unit.ensures.begins.spawned
          c.in-Ok-begin_unit.ensures.begins.carries (λ t. c.in-Ok-begin_unit.ensures.begins.same);
      anew = begun_anew g.P.Place.is_modelled g.P.Place.child first c.args.crew.now at now new (g.P.Place.at c.args.place.now).still es given s c.requires.consistent.order lawful c.args.unit c.index-units-unit.result there may (λ t. c.begin_unit.ensures.changes.only) (g.P.Place.at c.begin_unit.new.place).still (λ ticket its. c.begin_unit.ensures.changes.stay ticket its tt) (λ t ticket sees stood. c.begin_unit.ensures.changes.still ticket tt sees stood)
          c.as_slice.result.now c.as_slice.ensures.value (noted c.in-Ok-begin_unit.begun) c.in-Ok-begin_unit.ensures.begins.asks c.in-Ok-begin_unit.ensures.begins.launched c.note_begun.new.running.items more;
      left = begun_left g.P.Place.is_modelled g.P.Place.child first c.args.crew.now at now new (g.P.Place.at c.args.place.now).still es given s c.requires.consistent.order lawful c.args.unit c.index-units-unit.result there may (λ t. c.begin_unit.ensures.changes.only) c.begin_unit.new.store.next
          (noted c.in-Ok-begin_unit.begun) c.in-Ok-begin_unit.ensures.begins.number c.note_begun.new.running.items more;
      began = begun_began g.P.Place.is_modelled g.P.Place.child first c.args.crew.now at now new (g.P.Place.at c.args.place.now).still es given s c.requires.consistent.order lawful c.args.unit c.index-units-unit.result there may (λ t. c.begin_unit.ensures.changes.only) c.as_slice.result.now c.as_slice.ensures.value
          (noted c.in-Ok-begin_unit.begun) c.in-Ok-begin_unit.ensures.begins.asks c.in-Ok-begin_unit.begun.difference c.note_begun.new.reasons.items c.in-Ok-begin_unit.ensures.begins.differs c.in-Ok-begin_unit.ensures.begins.spawned
          (within_reasons c.args.crew.now c.args.unit c.requires.consistent.reasoned c.requires.unit) (λ t. c.in-Ok-begin_unit.ensures.begins.same) c.note_begun.ensures.reasons;
      happened = begun_happened g.P.Place.is_modelled g.P.Place.child first c.args.crew.now at now new (g.P.Place.at c.args.place.now).still (g.P.Place.at c.begin_unit.new.place).still
          es given c.args.unit c.index-units-unit.result c.requires.consistent.order there s may c.begin_unit.new.store.next c.as_slice.result.now c.as_slice.ensures.value
          (λ premise sources states t. (c.in-Ok-begin_unit.ensures.build premise sources t).keeps states) (λ premise sources states other its t. (c.in-Ok-begin_unit.ensures.build premise sources t).others states other its) (noted c.in-Ok-begin_unit.begun) c.note_begun.new.running.items more
          (λ premise sources states t can. begun_parts c.in-Ok-begin_unit.begun _ _ c.in-Ok-begin_unit.begun.unit _ _ _ _ ((c.in-Ok-begin_unit.ensures.build premise sources t).begun states can));
      quiet = begun_quiet g.P.Place.is_modelled g.P.Place.child first c.args.crew.now at now new (g.P.Place.at c.args.place.now).still es given c.args.unit s (noted c.in-Ok-begin_unit.begun) (λ t. c.in-Ok-begin_unit.ensures.begins.same);
      calls = calls_begun g.P.Place.is_modelled g.P.Place.child first c.args.crew.now at now new (g.P.Place.at c.args.place.now).still es given c.args.unit c.index-units-unit.result c.requires.consistent.order there s may c.as_slice.result.now c.as_slice.ensures.value
          (noted c.in-Ok-begin_unit.begun) c.in-Ok-begin_unit.ensures.begins.asks (λ t. c.begin_unit.ensures.changes.only) (λ t. c.in-Ok-begin_unit.ensures.begins.same) c.in-Ok-begin_unit.ensures.begins.looks
          (λ launched is t. of_some (λ (l : SpawnedChild). Launches g.P.Place.child c.in-Ok-begin_unit.begun.command l.ticket (past_look c.args.crew.now.project c.index-units-unit.result c.in-Ok-begin_unit.begun.command now.world now.counts) new.counts) (child_of c.in-Ok-begin_unit.begun) launched is (c.in-Ok-begin_unit.ensures.begins.launches t));
      calls_on_any = calls_begun_on_any g.P.Place.is_modelled g.P.Place.child first c.args.crew.now at now new (g.P.Place.at c.args.place.now).still es given c.args.unit c.index-units-unit.result c.requires.consistent.order there s may c.as_slice.result.now c.as_slice.ensures.value
          (noted c.in-Ok-begin_unit.begun) c.in-Ok-begin_unit.ensures.begins.asks (λ t. c.begin_unit.ensures.changes.only) (λ t. c.in-Ok-begin_unit.ensures.begins.same) c.in-Ok-begin_unit.ensures.begins.looks
          (λ launched is t. of_some (λ (l : SpawnedChild). Launches g.P.Place.child c.in-Ok-begin_unit.begun.command l.ticket (past_look c.args.crew.now.project c.index-units-unit.result c.in-Ok-begin_unit.begun.command now.world now.counts) new.counts) (child_of c.in-Ok-begin_unit.begun) launched is (c.in-Ok-begin_unit.ensures.begins.launches t)) s.calls_on_any;
      unnoted = notes_begun c.args.crew.now.project es first.reasons.items c.args.crew.now.reasons.items c.note_begun.new.reasons.items c.args.unit (is_some (child_of c.in-Ok-begin_unit.begun)) (Some c.in-Ok-begin_unit.begun.difference) may.untouched
          c.note_begun.ensures.reasons s.unnoted;
      noted = started_begun c.args.crew.now.project es c.args.crew.now.reasons.items c.note_begun.new.reasons.items c.args.unit (is_some (child_of c.in-Ok-begin_unit.begun)) c.in-Ok-begin_unit.begun.difference
          (within_reasons c.args.crew.now c.args.unit c.requires.consistent.reasoned c.requires.unit) (sym c.in-Ok-begin_unit.ensures.begins.spawned) c.note_begun.ensures.reasons s.noted;
    }
