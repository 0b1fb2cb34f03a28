-- Which records units leave that have answered.
use Rattle.std.proofs.Common.{◌≡◌, ◌≢◌, ◌∙◌, ◌++◌, inl, inr, Bool, true, false, List, [], ◌∷◌, ℕ, Option, Some, None, Result, Ok, Err, Contains, IsTrue, IsSome, if◌then◌else◌, is_some, refl, sym, ap, subst, slice_get, slice_set, eq-eqb}
use Rattle.std.proofs.lemmas.Bool.{ne_eqb, false≢true}
use Rattle.std.specs.FinMap as finite
use Rattle.std.specs.List.{AllByRecursion, remove}
use Rattle.std.specs.Prelude.{IfSome, IsOk, MatchOption}
use Rattle.pb_build_result.specs.declared.bad_unit.BadUnit.{BadUnit}
use Rattle.pb_command.specs.Command.{command_of}
use Rattle.pb_command.specs.Judge.{ended_by}
use Rattle.pb_directive.specs.declared.directive.Directive.{Directive}
use Rattle.pb_run_flight.specs.declared.flight.Answer.{Answer}
use Rattle.pb_run_flight.specs.declared.flight.State.TheVariants.{Untouched, Begun, Answered}
use Rattle.pb_run_flight.specs.Events.{Event, Began, Gave, IsLawful, MayBegin}
use Rattle.pb_run_flight.specs.Laws.{HasBegun}
use Rattle.pb_run_flight.specs.Table.{is_good_at}
use Rattle.pb_place_types.specs.Counts.{Counts}
use Rattle.pb_place_types.specs.Paths.{is_at_or_below}
use Rattle.pb_place_types.specs.World.{World, Answers, ChangesOnly, seen_by}
use Rattle.pb_place_types.specs.declared.child.Reply.{Reply}
use Rattle.pb_place_types.specs.declared.command.Command.{Command}
use Rattle.pb_place_types.specs.declared.command.Ended.{Ended}
use Rattle.pb_place_types.specs.declared.place.StartFault.{StartFault}
use Rattle.pb_command_types.specs.Targets.{unit_at}
use Rattle.pb_command_types.specs.declared.project.Project.{Project}
use Rattle.pb_command_types.specs.declared.project.Setup.{Setup}
use Rattle.pb_record.specs.declared.record.Record.{Record}
use Rattle.pb_run.specs.UnitSteps.{child_in, child_of, needed_keys}
use Rattle.pb_run.specs.Running.{EndsBy, record_left, record_of}
use Rattle.pb_run.specs.Invariants.{IsInOrder, records_folder}
use Rattle.pb_run.specs.declared.begun.Awaited.{Awaited}
use Rattle.pb_run.specs.declared.begun.Awaited.TheVariants as awaited
use Rattle.pb_run.specs.declared.begun.Begun.{Begun as unit_begun}
use Rattle.pb_run.specs.declared.begun.SpawnedChild.{SpawnedChild}
use Rattle.pb_run.specs.declared.ran.Ran.{Ran}
use Rattle.pb_run.proofs.Answering.{files_kept}
use Rattle.pb_run.proofs.Recorded.{files_still, record_still}
use Rattle.pb_run.proofs.RecordStands.{number_stays, numbered_on, record_stands}
use Rattle.pb_run.proofs.Spawning.{record_within, widen}
use Rattle.pb_run.proofs.Views.{is_for}
use Rattle.pb_store_soundness.specs.Apart.{is_of}
use Rattle.pb_store_soundness.specs.Inputs.{reply_in}
use Rattle.pb_store_soundness.specs.Numbers.{after}
use Rattle.pb_store_soundness.specs.Records.{number_of, record_path, reading, records}
use Rattle.pb_store_soundness.proofs.RecordPaths.{record_outside, record_same}
use Rattle.pb_store.specs.Folder.{numbered, TakesNext, lacks_number, migrated}
use Rattle.pb_store.specs.declared.replaying.Replayed.{Replayed}
use Rattle.pb_build_turns.specs.Calling.{CarriesAgain, FliesAgain, CarriesAnew, FliesAnew}
use Rattle.pb_build_turns.specs.Executor.{needs_of, BuildState}
use Rattle.pb_build_turns.specs.Rows.{is_started}
use Rattle.pb_build_turns.specs.History.{states_in, events_before, events_until, record_anew, AllLeaveRecords, CarriesNumber, FliesIn, LacksNumber, LeavesRecord, NumbersGiven, Recordings, History}
use Rattle.pb_build_turns.specs.declared.executor.RunningUnit.{RunningUnit}
use Rattle.pb_build_turns.specs.declared.executor.UnitExecutor.{UnitExecutor}
use Rattle.pb_build_turns.proofs.Again.{command_stays}
use Rattle.pb_build_turns.proofs.Anew.{well_of, landed, reaches_others, sees_on}
use Rattle.pb_build_turns.proofs.Happening.{before_now, before_other, started_other}
use Rattle.pb_build_turns.proofs.Lists.{all_at_each, all_get, all_left, all_more}
use Rattle.pb_build_turns.proofs.Reaching.{not_of_two}
use Rattle.pb_build_turns.proofs.States.{another, answered_before, answered_cases}
use Rattle.pb_build_turns.proofs.Staying.{begun_apart, record_its_own, untouched_apart}
use Rattle.pb_build_turns.proofs.Unkept.{no_answer}
use Rattle.pb_unit.specs.declared.plan.Planned.{Planned}

-- What had happened before a unit answered, where another answers, or this one.

until_other : (es : List (Event BadUnit)) (unit unit_index : ℕ) (answer : Answer BadUnit) → unit ≢ unit_index → events_until (Gave unit answer ∷ es) unit_index ≡ events_until es unit_index
until_other es unit unit_index answer ne = ap (λ b. if b then es else events_until es unit_index) (ne_eqb unit unit_index ne)

until_now : (es : List (Event BadUnit)) (unit : ℕ) (answer : Answer BadUnit) → events_until (Gave unit answer ∷ es) unit ≡ es
until_now es unit answer = ap (λ b. if b then es else events_until es unit) (eq-eqb unit unit refl)

-- A unit does something that is not good.

module _ (project : Project) (order : IsInOrder project) (es : List (Event BadUnit)) (lawful : IsLawful (needs_of project) es) (i : ℕ) (u : Planned) (there : unit_at project i ≡ Some u) (not_good : is_good_at (slice_get (states_in project es) i) ≡ false)
    (setup : Setup) (child : Answers) (w w' : World) (only : ChangesOnly (is_of (records_folder project) u.key) w w') where
  -- what another has left stands
  left_on : (started : Bool) (before until : List (Event BadUnit)) (next : Option ℕ) (first : World) (unit_index : ℕ) (answer : Answer BadUnit) → HasBegun (states_in project es) unit_index → unit_index ≢ i
      → (done done' : List (Option (List Directive))) → ((v : Planned) → unit_at project unit_index ≡ Some v → command_of setup project v done ≡ command_of setup project v done')
      → LeavesRecord child setup project done started before until next first w unit_index answer → LeavesRecord child setup project done' started before until next first w' unit_index answer
  left_on started before until next first unit_index answer has ne done done' commands g =
      let c : Command = command_of setup project g.unit done' in
      let far = reaches_others project order es lawful i u there not_good setup unit_index g.unit has g.there in
      let stays = record_still project order i u there w w' only reading unit_index g.unit g.there ne in
      record {
        unit = g.unit;
        there = g.there;
        anew = λ child_started good.
            let (number, taken, stands) = g.anew child_started good in (
              number,
              taken,
              stays ∙ stands ∙ ap Some (
                  ap (λ (d : Command). record_of project g.unit d number (ended_by (reply_in child d w)) w) (commands g.unit g.there)
                  ∙ ap (λ (reply : Reply). record_of project g.unit c number (ended_by reply) w) (sym (ap (child c) (sees_on project order es lawful i u there not_good setup unit_index g.unit has g.there done' c refl w w' only)))
                  ∙ sym (record_stands project order unit_index g.unit g.there i u there far w w' only c (is_for setup project g.unit done' (order.packages unit_index g.unit g.there)).target
                  (files_still project order i u there w w' only unit_index g.unit g.there ne) number (ended_by (reply_in child c w')))),
            );
        again = λ none good.
            let (number, taken, had, stands) = g.again none good in (
              number,
              taken,
              had,
              stays ∙ stands ∙ ap (λ (pairs : List (List ℕ × ℕ)). migrated number pairs (records (records_folder project) first g.unit.key)) (sym (numbered_on project order unit_index g.unit g.there i u there far w w' only)),
            );
        bad = λ none bad.
            only.files (record_path (records_folder project) g.unit.key) (not_of_two project order unit_index i g.unit u g.there there ne (record_path (records_folder project) g.unit.key) (record_its_own (records_folder project) g.unit.key)) ∙ g.bad none bad;
      }

  pub all_left_on : ((a : Answer BadUnit) → slice_get (states_in project es) i ≡ Some (Answered a) → ⊥) → (done : List (Option (List Directive))) (next : Option ℕ) (first : World) → AllLeaveRecords child setup project es done next first w → AllLeaveRecords child setup project es done next first w'
  all_left_on not_answered done next first gave unit_index answer state =
      left_on (is_started es unit_index) (events_before es unit_index) (events_until es unit_index) next first unit_index answer (Answered answer, state, refl) (λ same. not_answered answer (ap (slice_get (states_in project es)) (sym same) ∙ state)) done done (λ v at. refl)
      (gave unit_index answer state)

-- the same events, said otherwise
events_same : (child : Answers) (setup : Setup) (project : Project) (done : List (Option (List Directive))) (started started' : Bool) (before before' until until' : List (Event BadUnit)) (next : Option ℕ) (first now : World) (unit_index : ℕ) (answer : Answer BadUnit)
    → started' ≡ started → before' ≡ before → until' ≡ until → LeavesRecord child setup project done started before until next first now unit_index answer → LeavesRecord child setup project done started' before' until' next first now unit_index answer
events_same child setup project done started started' before before' until until' next first now unit_index answer same same_before same_until left =
    subst (λ (b : Bool). LeavesRecord child setup project done b before' until' next first now unit_index answer) (sym same)
    (subst (λ (x : List (Event BadUnit)). LeavesRecord child setup project done started x until' next first now unit_index answer) (sym same_before)
    (subst (λ (x : List (Event BadUnit)). LeavesRecord child setup project done started before x next first now unit_index answer) (sym same_until) left))

-- A unit answers that was in flight.

module _ (child : Answers) (setup : Setup) (project : Project) (order : IsInOrder project) (unit_index : ℕ) (u : Planned) (there : unit_at project unit_index ≡ Some u) (far : (p : ℕ) → Contains u.reaches p → p ≢ unit_index)
    (done done' : List (Option (List Directive))) (same : command_of setup project u done ≡ command_of setup project u done') (c : Command) (w new : World) (old : Counts) (still : ℕ → Type 0) (sees : c ≡ command_of setup project u done → seen_by c new ≡ seen_by c w)
    (only : ChangesOnly (is_of (records_folder project) u.key) w new) (next : Option ℕ) where
  abbrev OutcomeHolds : Awaited → Ended → World → Type 0
  OutcomeHolds by ended left = records (records_folder project) new u.key ≡ record_left project u c by ended next left

  -- its child gave the answer
  anew_child : (launched : SpawnedChild) → CarriesAnew child setup project done w old.starts.flying still u c (awaited.Child launched)
      → (well : Type 0) (left : World) (mid : Counts) (ended : Ended) → EndsBy (awaited.Child launched) (Ok ended) well still w left old mid → OutcomeHolds (awaited.Child launched) ended left
      → (well' : Type 0) (left' : World) (mid' : Counts) (ended' : Ended) → EndsBy (awaited.Child launched) (Ok ended') well' still w left' old mid' → ChangesOnly (is_at_or_below (record_path (records_folder project) u.key)) left' new
      → records (records_folder project) new u.key ≡ Some (record_anew child setup project done' new u launched.number)
  anew_child launched carries well left mid ended ends stands well' left' mid' ended' ends' behind =
      let (asks, flight) = carries in
      let lands = landed child setup project order unit_index u there done c asks w old launched.ticket still flight well left mid ended ends in
      let lands' = landed child setup project order unit_index u there done c asks w old launched.ticket still flight well' left' mid' ended' ends' in
      let replies : child c (seen_by c flight.spawned) ≡ reply_in child c new = ap (child c) (flight.sees ∙ sym (sees asks)) in
      let ended_so : ended ≡ ended_by (reply_in child c new) = lands.answer ∙ ap ended_by replies in
      let target : c.target ≡ project.workspace.target = ap (λ (d : Command). d.target) asks ∙ (is_for setup project u done (order.packages unit_index u there)).target in
      stands ∙ ap Some (
      ap (λ (e : Ended). record_of project u c launched.number e left) ended_so
      ∙ ap (λ (x : World). record_of project u c launched.number (ended_by (reply_in child c new)) x) (lands.world ∙ sym lands'.world)
      ∙ sym (record_stands project order unit_index u there unit_index u there far left' new (widen (is_at_or_below (record_path (records_folder project) u.key)) (is_of (records_folder project) u.key) left' new (record_within (records_folder project) u.key) behind) c target
      (files_kept (records_folder project) u.key u.out left' new order.folder (order.keys unit_index u there) (order.folders unit_index u there) behind) launched.number (ended_by (reply_in child c new)))
      ∙ ap (λ (d : Command). record_of project u d launched.number (ended_by (reply_in child d new)) new) (asks ∙ same))

  -- its record gave it
  again_record : (first : World) (again : Replayed) → CarriesAgain setup project done first w u c (awaited.Record again) → (well : Type 0) (left : World) (mid : Counts) (ended : Ended) → EndsBy (awaited.Record again) (Ok ended) well still w left old mid
      → OutcomeHolds (awaited.Record again) ended left
      → records (records_folder project) new u.key ≡ migrated next (numbered (records (records_folder project) new) (needed_keys project u)) (records (records_folder project) first u.key)
  again_record first again carries well left mid ended ends stands =
      let (unchanged, counted, is) = ends in
      let here : records (records_folder project) w u.key ≡ Some carries.kept =
      record_same reading (records_folder project) first.files w.files u.key (carries.stays (record_path (records_folder project) u.key) (record_its_own (records_folder project) u.key)) ∙ carries.here in
      stands
      ∙ ap (λ (x : World). if again.numbered then records (records_folder project) x u.key else migrated next (numbered (records (records_folder project) x) (needed_keys project u)) (records (records_folder project) x u.key)) unchanged
      ∙ ap (λ (o : Option Record). if again.numbered then o else migrated next (numbered (records (records_folder project) w) (needed_keys project u)) o) here
      ∙ number_stays carries.kept (number_of carries.kept) again.numbered next (numbered (records (records_folder project) w) (needed_keys project u)) (ap (λ (x : Replayed). x.numbered) carries.gives)
      ∙ ap (λ (pairs : List (List ℕ × ℕ)). migrated next pairs (Some carries.kept)) (sym (numbered_on project order unit_index u there unit_index u there far w new only))
      ∙ ap (migrated next (numbered (records (records_folder project) new) (needed_keys project u))) (sym carries.here)

  -- whichever gave it, where it is good
  anew_by : (by : Awaited) → is_some (child_in by) ≡ true → CarriesAnew child setup project done w old.starts.flying still u c by → (Taken : ℕ → Type 0) → IfSome (child_in by) (λ launched. Taken launched.number)
      → (well : Type 0) (left : World) (mid : Counts) (ended : Ended) → EndsBy by (Ok ended) well still w left old mid → OutcomeHolds by ended left
      → (well' : Type 0) (left' : World) (mid' : Counts) (answer : Result Ended StartFault) → EndsBy by answer well' still w left' old mid' → well' → ChangesOnly (is_at_or_below (record_path (records_folder project) u.key)) left' new
      → (number : ℕ) × Taken number × (records (records_folder project) new u.key ≡ Some (record_anew child setup project done' new u number))
  anew_by (awaited.Record again) has carries Taken taken well left mid ended ends stands well' left' mid' answer ends' so behind = absurd (false≢true has)
  anew_by (awaited.Child launched) has carries Taken taken well left mid ended ends stands well' left' mid' (Err fault) ends' so behind = absurd (false≢true (ends'.answered so))
  anew_by (awaited.Child launched) has carries Taken taken well left mid ended ends stands well' left' mid' (Ok ended') ends' so behind =
      (launched.number, taken, anew_child launched carries well left mid ended ends stands well' left' mid' ended' ends' behind)

  again_by : (first : World) (by : Awaited) → is_some (child_in by) ≡ false → CarriesAgain setup project done first w u c by → (well : Type 0) (left : World) (mid : Counts) (ended : Ended) → EndsBy by (Ok ended) well still w left old mid → OutcomeHolds by ended left
      → records (records_folder project) new u.key ≡ migrated next (numbered (records (records_folder project) new) (needed_keys project u)) (records (records_folder project) first u.key)
  again_by first (awaited.Child launched) none carries well left mid ended ends stands = absurd (false≢true (sym none))
  again_by first (awaited.Record again) none carries well left mid ended ends stands = again_record first again carries well left mid ended ends stands

  -- and where it is bad
  bad_by : (first : World) (by : Awaited) → is_some (child_in by) ≡ false → CarriesAgain setup project done first w u c by → ChangesOnly (is_at_or_below u.out) w new → finite.get new.files (record_path (records_folder project) u.key) ≡ finite.get first.files (record_path (records_folder project) u.key)
  bad_by first (awaited.Child launched) none carries inside = absurd (false≢true (sym none))
  bad_by first (awaited.Record again) none carries inside =
      let key = order.keys unit_index u there in
      inside.files (record_path (records_folder project) u.key) (subst (λ (out : List ℕ). is_at_or_below out (record_path (records_folder project) u.key) ≡ false) (sym (order.folders unit_index u there)) (record_outside (records_folder project) u.key u.key key key))
      ∙ carries.stays (record_path (records_folder project) u.key) (record_its_own (records_folder project) u.key)

-- A unit in flight.

-- its child was launched with the run number that was the next after these events
abbrev LaunchedAfter : Project → Option ℕ → World → List (Event BadUnit) → Option SpawnedChild → Type 0
LaunchedAfter project next first before o = IfSome o (λ launched. NumbersGiven (LacksNumber project first) before next (Some launched.number))

-- Nothing has begun.

pub recordings_first : (child : Answers) (setup : Setup) (project : Project) (done : List (Option (List Directive))) (running : List RunningUnit) (next : Option ℕ) (w : World) → running ≡ [] → Recordings child setup project done running [] next w w
recordings_first child setup project done running next w none = record {
  carries = subst (AllByRecursion (CarriesNumber project [] next w)) (sym none) tt;
  gave = λ unit_index answer state. absurd (no_answer (needs_of project) unit_index answer state);
}

module _ (is_modelled : Bool) (child : Answers) (first old : UnitExecutor) (at now new : BuildState) (still : ℕ → Type 0) (es : List (Event BadUnit)) (given : ℕ) (story : History is_modelled child first at old now still es given) (order : IsInOrder old.project) (lawful : IsLawful (needs_of old.project) es) where
  flown : IsTrue is_modelled → (k : ℕ) (a : RunningUnit) → slice_get old.running.items k ≡ Some a → FliesIn old.project es now.world now.counts.starts.flying a
  flown t k a at_k = all_get (FliesIn old.project es now.world now.counts.starts.flying) old.running.items k a (story.changes t).flies at_k

  -- A unit begins.

  module _ (unit : ℕ) (u : Planned) (there : unit_at old.project unit ≡ Some u) (may : MayBegin (needs_of old.project) (states_in old.project es) unit) (only : IsTrue is_modelled → ChangesOnly (is_of (records_folder old.project) u.key) now.world new.world) where
    -- those that had answered, also where it could not
    pub unbegun_left : (spawned : Bool) → IsTrue is_modelled → AllLeaveRecords child old.setup old.project (Began unit spawned ∷ es) old.done.items first.store.next at.world new.world
    unbegun_left spawned t unit_index answer state =
        let (ne, before) = answered_before (states_in old.project es) unit unit_index answer Untouched may.untouched state in
        events_same child old.setup old.project old.done.items (is_started es unit_index) (is_started (Began unit spawned ∷ es) unit_index) (events_before es unit_index) (events_before (Began unit spawned ∷ es) unit_index) (events_until es unit_index) (events_until es unit_index) first.store.next at.world new.world unit_index answer
        (started_other es unit unit_index spawned ne) (before_other es unit unit_index spawned ne) refl
        (all_left_on old.project order es lawful unit u there (ap is_good_at may.untouched) old.setup child now.world new.world (only t) (λ a is. untouched_apart a (sym may.untouched ∙ is)) old.done.items first.store.next at.world (story.left t).gave
        unit_index answer before)

    -- it has
    pub begun_left : (next : Option ℕ) (begun : unit_begun) → MatchOption (child_of begun) (next ≡ old.store.next) (λ launched. (old.store.next ≡ Some launched.number) × (next ≡ after launched.number))
        → (running' : List RunningUnit) → running' ≡ old.running.items ++ record { unit = unit; begun = begun } ∷ []
        → IsTrue is_modelled → Recordings child old.setup old.project old.done.items running' (Began unit (is_some (child_of begun)) ∷ es) first.store.next at.world new.world
    begun_left next begun number running' more t = record {
      carries =
          subst (AllByRecursion (CarriesNumber old.project (Began unit (is_some (child_of begun)) ∷ es) first.store.next at.world)) (sym more)
          (all_more (CarriesNumber old.project (Began unit (is_some (child_of begun)) ∷ es) first.store.next at.world) old.running.items (record { unit = unit; begun = begun } ∷ [])
          (all_at_each (CarriesNumber old.project es first.store.next at.world) (CarriesNumber old.project (Began unit (is_some (child_of begun)) ∷ es) first.store.next at.world) old.running.items
          (λ k a at_k carries.
          number_on (child_of a.begun) (events_before es a.unit) (events_before (Began unit (is_some (child_of begun)) ∷ es) a.unit)
          (before_other es unit a.unit (is_some (child_of begun)) (another (states_in old.project es) unit a.unit may.untouched (Begun, (flown t k a at_k).state, refl))) carries)
          ((story.left t).carries))
          (own (child_of begun) number, tt));
      gave = unbegun_left (is_some (child_of begun)) t;
    }
      where
        number_on : (o : Option SpawnedChild) (before before' : List (Event BadUnit)) → before' ≡ before → LaunchedAfter old.project first.store.next at.world before o → LaunchedAfter old.project first.store.next at.world before' o
        number_on o before before' same takes = subst (λ (x : List (Event BadUnit)). LaunchedAfter old.project first.store.next at.world x o) (sym same) takes

        own : (o : Option SpawnedChild) → MatchOption o (next ≡ old.store.next) (λ launched. (old.store.next ≡ Some launched.number) × (next ≡ after launched.number)) → LaunchedAfter old.project first.store.next at.world (events_before (Began unit (is_some (child_of begun)) ∷ es) unit) o
        own None number = tt
        own (Some launched) number =
            number_on (Some launched) es (events_before (Began unit (is_some (child_of begun)) ∷ es) unit) (before_now es unit (is_some (child_of begun)))
            (subst (NumbersGiven (LacksNumber old.project at.world) es first.store.next) number.0 (story.taken t))

  -- A unit answers.

  module _ (index : ℕ) (a : RunningUnit) (u : Planned) (there : unit_at old.project a.unit ≡ Some u) (at_index : slice_get old.running.items index ≡ Some a) (only : IsTrue is_modelled → ChangesOnly (is_of (records_folder old.project) u.key) now.world new.world) where
    -- a fault came in its place
    pub unanswered_left : IsTrue is_modelled → AllLeaveRecords child old.setup old.project es old.done.items first.store.next at.world new.world
    unanswered_left t =
        let state = (flown t index a at_index).state in
        all_left_on old.project order es lawful a.unit u there (ap is_good_at state) old.setup child now.world new.world (only t) (λ b is. begun_apart b (sym state ∙ is)) old.done.items first.store.next at.world (story.left t).gave

    -- it has
    pub answered_left : (ran : Ran) (lines : List ℕ)
        → (IsTrue is_modelled → is_some ran.bad ≡ false → (ended : Ended) × (left : World) × (mid : Counts) × EndsBy a.begun.awaited (Ok ended) (IsTrue true) still now.world left now.counts mid
        × (records (records_folder old.project) new.world u.key ≡ record_left old.project u a.begun.command a.begun.awaited ended old.store.next left))
        → (next : Option ℕ) → (IsTrue is_modelled → is_started es a.unit ≡ false → ran.bad ≡ None → lacks_number (records (records_folder old.project) at.world u.key) ≡ true → TakesNext old.store.next next)
        → (IsTrue is_modelled → (answer : Result Ended StartFault) × (left : World) × (mid : Counts) × EndsBy a.begun.awaited answer (IsOk (well_of ran)) still now.world left now.counts mid × ChangesOnly (is_at_or_below (record_path (records_folder old.project) u.key)) left new.world)
        → (IsTrue is_modelled → IsSome ran.bad → ChangesOnly (is_at_or_below u.out) now.world new.world)
        → (running' : List RunningUnit) (done' : List (Option (List Directive))) → running' ≡ remove old.running.items index → done' ≡ slice_set old.done.items a.unit ran.directives
        → IsTrue is_modelled → Recordings child old.setup old.project done' running' (Gave a.unit record { fault = ran.bad; lines = lines } ∷ es) first.store.next at.world new.world
    answered_left ran lines kept next lacked lands unkept running' done' is set t = record {
      carries = subst (AllByRecursion (CarriesNumber old.project es first.store.next at.world)) (sym is)
          (all_left (CarriesNumber old.project es first.store.next at.world) (CarriesNumber old.project es first.store.next at.world) old.running.items index (λ j y at_j ne carries. carries) ((story.left t).carries));
      gave = λ unit_index answer state_after. elim (answered_cases (states_in old.project es) a.unit unit_index answer its_answer Begun state state_after) [
        | inl (same, its) ↦
            subst (λ (x : Answer BadUnit). LeavesRecord child old.setup old.project done' (is_started es unit_index) (events_before es unit_index) (events_until (Gave a.unit its_answer ∷ es) unit_index) first.store.next at.world new.world unit_index x) its
            (subst (λ n. LeavesRecord child old.setup old.project done' (is_started es n) (events_before es n) (events_until (Gave a.unit its_answer ∷ es) n) first.store.next at.world new.world n its_answer) same (own))
        | inr (ne, before) ↦
            events_same child old.setup old.project done' (is_started es unit_index) (is_started es unit_index) (events_before es unit_index) (events_before es unit_index) (events_until es unit_index) (events_until (Gave a.unit its_answer ∷ es) unit_index) first.store.next at.world new.world unit_index answer
            refl refl (until_other es a.unit unit_index its_answer ne)
            (left_on old.project order es lawful a.unit u there (ap is_good_at state) old.setup child now.world new.world (only t) (is_started es unit_index) (events_before es unit_index) (events_until es unit_index) first.store.next at.world unit_index answer
            (Answered answer, before, refl) (λ e. ne (sym e)) old.done.items done' (λ v at_v. commands unit_index v (Answered answer, before, refl) at_v) ((story.left t).gave unit_index answer before))
      ];
    }
      where
        its_answer : Answer BadUnit
        its_answer = record { fault = ran.bad; lines = lines }

        flies : FliesIn old.project es now.world now.counts.starts.flying a
        flies = flown t index a at_index

        state : slice_get (states_in old.project es) a.unit ≡ Some Begun
        state = flies.state

        has : HasBegun (states_in old.project es) a.unit
        has = (Begun, state, refl)

        commands : (unit_index : ℕ) (v : Planned) → HasBegun (states_in old.project es) unit_index → unit_at old.project unit_index ≡ Some v → command_of old.setup old.project v old.done.items ≡ command_of old.setup old.project v done'
        commands unit_index v begun at_v = command_stays old.setup old.project order es lawful a.unit state old.done.items done' ran.directives set unit_index v begun at_v

        far : (p : ℕ) → Contains u.reaches p → p ≢ a.unit
        far = reaches_others old.project order es lawful a.unit u there (ap is_good_at state) old.setup a.unit u has there

        sees : a.begun.command ≡ command_of old.setup old.project u old.done.items → seen_by a.begun.command new.world ≡ seen_by a.begun.command now.world
        sees asks = sees_on old.project order es lawful a.unit u there (ap is_good_at state) old.setup a.unit u has there old.done.items a.begun.command asks now.world new.world (only t)

        waits : CarriesAnew child old.setup old.project old.done.items now.world now.counts.starts.flying still u a.begun.command a.begun.awaited
        waits = all_get (FliesAnew child old.setup old.project old.done.items now.world now.counts.starts.flying still) old.running.items index a (story.anew t).waits at_index u there

        replays : CarriesAgain old.setup old.project old.done.items at.world now.world u a.begun.command a.begun.awaited
        replays = all_get (λ (x : RunningUnit). FliesAgain old.setup old.project old.done.items at.world now.world x) old.running.items index a ((story.again t).waits) at_index u there

        own : LeavesRecord child old.setup old.project done' (is_started es a.unit) (events_before es a.unit) (events_until (Gave a.unit its_answer ∷ es) a.unit) first.store.next at.world new.world a.unit its_answer
        own =
            let (answer', left', mid', ends', behind) = lands t in
            record {
              unit = u;
              there = there;
              anew = λ started good.
                  let (ended, left, mid, ends, stands) = kept t (ap is_some good) in
                  anew_by child old.setup old.project order a.unit u there far old.done.items done' (commands a.unit u has there) a.begun.command now.world new.world now.counts still sees (only t) old.store.next a.begun.awaited
                  (sym flies.started ∙ started) waits (λ number. NumbersGiven (LacksNumber old.project at.world) (events_before es a.unit) first.store.next (Some number))
                  (all_get (CarriesNumber old.project es first.store.next at.world) old.running.items index a ((story.left t).carries) at_index)
                  (IsTrue true) left mid ended ends stands (IsOk (well_of ran)) left' mid' answer' ends' refl behind;
              again = λ none good.
                  let (ended, left, mid, ends, stands) = kept t (ap is_some good) in (
                    old.store.next,
                    subst (λ (x : List (Event BadUnit)). NumbersGiven (LacksNumber old.project at.world) x first.store.next old.store.next) (sym (until_now es a.unit its_answer)) (story.taken t),
                    λ lacks. let (number, is, now_next) = lacked t none good lacks in ap is_some is,
                    again_by child old.setup old.project order a.unit u there far old.done.items done' (commands a.unit u has there) a.begun.command now.world new.world now.counts still sees (only t) old.store.next at.world a.begun.awaited
                        (sym flies.started ∙ none) (replays) (IsTrue true) left mid ended ends stands,
                  );
              bad = λ none bad.
                  bad_by child old.setup old.project order a.unit u there far old.done.items done' (commands a.unit u has there) a.begun.command now.world new.world now.counts still sees (only t) old.store.next at.world a.begun.awaited
                  (sym flies.started ∙ none) (replays) (unkept t bad);
            }
