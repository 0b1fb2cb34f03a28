-- Units for which a child was started answer what that gave to what they saw.
use Rattle.std.proofs.Common.{◌≡◌, ◌≢◌, ◌∙◌, ◌++◌, ◌<◌, inl, inr, Bool, true, false, List, [], ◌∷◌, ℕ, Option, Some, None, Result, Ok, Err, Contains, IsTrue, is_some, refl, sym, ap, subst, slice_get, slice_set, length}
use Rattle.std.proofs.lemmas.Bool.{false≢true}
use Rattle.std.proofs.lemmas.Option.{slice_get_within}
use Rattle.std.specs.List.{AllByRecursion, remove}
use Rattle.std.specs.Prelude.{IfSome, IsOk}
use Rattle.pb_build_result.specs.declared.bad_unit.BadUnit.{BadUnit}
use Rattle.pb_command_reply.specs.Answers.{answered_of}
use Rattle.pb_command.specs.Command.{command_of}
use Rattle.pb_command.specs.Judge.{file_at, replied_files}
use Rattle.pb_directive.specs.declared.directive.Directive.{Directive}
use Rattle.pb_run_flight.specs.declared.flight.Answer.{Answer}
use Rattle.pb_run_flight.specs.declared.flight.State.TheVariants.{Untouched, Begun, Answered}
use Rattle.pb_run_flight.specs.Events.{Event, Began, Gave, IsLawful, MayBegin, begin}
use Rattle.pb_run_flight.specs.Laws.{HasBegun}
use Rattle.pb_run_flight.specs.Table.{is_good_at}
use Rattle.pb_run_flight.proofs.Lists.{injective, get_set_other, get_set_same}
use Rattle.pb_run_flight.proofs.Ready.{good_at}
use Rattle.pb_place_types.specs.Children.{LandsAs, SeesStill, child_at, child_spawned, inside_out, landing, KeepsStillOutside}
use Rattle.pb_place_types.specs.Counts.{Counts}
use Rattle.pb_place_types.specs.Folders.{files_in}
use Rattle.pb_place_types.specs.Paths.{is_at_or_below}
use Rattle.pb_place_types.specs.World.{World, Answers, ChangesOnly, seen_by}
use Rattle.pb_place_types.specs.declared.child.Reply.{Reply}
use Rattle.pb_place_types.specs.declared.child_in_flight.ChildInFlight.{ChildInFlight}
use Rattle.pb_place_types.specs.declared.command.Command.{Command}
use Rattle.pb_place_types.specs.declared.command.Ended.{Ended}
use Rattle.pb_place_types.specs.declared.place.StartFault.{StartFault}
use Rattle.pb_command_types.specs.Targets.{crate_name_of, dep_info_of, unit_at}
use Rattle.pb_command_types.specs.declared.project.Project.{Project}
use Rattle.pb_command_types.specs.declared.project.Setup.{Setup}
use Rattle.pb_run.specs.UnitSteps.{IsInFlight, KeepsOthersStill, child_in, child_of}
use Rattle.pb_run.specs.Running.{EndsBy, HasEnded, IsJudged, IsSpawned}
use Rattle.pb_run.specs.Outcome.{ran_by, ran_of}
use Rattle.pb_run.specs.Invariants.{IsInOrder, records_folder}
use Rattle.pb_message_units.specs.Telling.{unit_lines}
use Rattle.pb_run.specs.declared.begun.Awaited.{Awaited}
use Rattle.pb_run.specs.declared.begun.Awaited.TheVariants as awaited
use Rattle.pb_run.specs.declared.begun.Begun.{Begun as unit_begun}
use Rattle.pb_run.specs.declared.begun.SpawnedChild.{SpawnedChild}
use Rattle.pb_run.specs.declared.ran.Ran.{Ran}
use Rattle.pb_run.proofs.Answering.{files_kept, landed_files}
use Rattle.pb_run.specs.declared.faults.StepFault.{StepFault}
use Rattle.pb_run.proofs.Recorded.{files_still, seen_still}
use Rattle.pb_run.proofs.Units.{dep_info_inside, inside_file}
use Rattle.pb_run.proofs.Views.{IsFor, is_for}
use Rattle.pb_store_soundness.specs.Apart.{is_of}
use Rattle.pb_store_soundness.specs.Records.{record_path}
use Rattle.pb_store_soundness.specs.Inputs.{reply_in}
use Rattle.pb_build_turns.specs.Calling.{ran_anew, AnswersAnew, CarriesAnew, FliesAnew}
use Rattle.pb_build_turns.specs.Executor.{needs_of, index_of_unit, indices_of, ticket_in, IsConsistent, BuildState}
use Rattle.pb_build_turns.specs.Rows.{is_started}
use Rattle.pb_build_turns.specs.History.{states_in, AllAnswerAnew, FliesIn, Replies, History}
use Rattle.pb_build_turns.specs.declared.executor.RunningUnit.{RunningUnit}
use Rattle.pb_build_turns.specs.declared.executor.UnitExecutor.{UnitExecutor}
use Rattle.pb_build_turns.proofs.Again.{command_stays}
use Rattle.pb_build_turns.proofs.Happening.{started_other}
use Rattle.pb_build_turns.proofs.Lists.{all_at_each, all_get, all_left, all_more, apart_indices, flat_apart, get_map, get_set_within}
use Rattle.pb_build_turns.proofs.Reaching.{all_reach}
use Rattle.pb_build_turns.proofs.States.{another, answered_before, answered_cases, begun_now}
use Rattle.pb_build_turns.proofs.Staying.{begun_apart, untouched_apart}
use Rattle.pb_build_turns.proofs.Unkept.{no_answer}
use Rattle.pb_unit.specs.declared.plan.Planned.{Planned}

-- a unit has answered well
abbrev pub well_of : Ran → Result Ran StepFault
well_of ran = Ok ran

-- A unit does something that is not good: none that has begun reaches it.

module _ (project : Project) (order : IsInOrder project) (es : List (Event BadUnit)) (lawful : IsLawful (needs_of project) es) (i : ℕ) (u : Planned) (there : unit_at project i ≡ Some u) (not_good : is_good_at (slice_get (states_in project es) i) ≡ false) (setup : Setup) where
  pub reaches_others : (unit_index : ℕ) (v : Planned) → HasBegun (states_in project es) unit_index → unit_at project unit_index ≡ Some v → (p : ℕ) → Contains v.reaches p → p ≢ i
  reaches_others unit_index v has at p among same =
      false≢true (sym not_good ∙ ap (λ n. is_good_at (slice_get (states_in project es) n)) (sym same) ∙ good_at (states_in project es) v.reaches p (all_reach project order es lawful unit_index v has at) among)

  -- what the command of one that has begun sees stays, also its own
  pub sees_on : (unit_index : ℕ) (v : Planned) → HasBegun (states_in project es) unit_index → unit_at project unit_index ≡ Some v → (done : List (Option (List Directive))) (c : Command) → c ≡ command_of setup project v done
      → (w w' : World) → ChangesOnly (is_of (records_folder project) u.key) w w' → seen_by c w' ≡ seen_by c w
  sees_on unit_index v has at done c asks w w' only =
      seen_still project order i u there w w' only v c (subst (IsFor project v) (sym asks) (is_for setup project v done (order.packages unit_index v at))) (reaches_others unit_index v has at)

  -- and so does its folder, where it is another
  stands_on : (child : Answers) (unit_index : ℕ) (v : Planned) → HasBegun (states_in project es) unit_index → unit_at project unit_index ≡ Some v → unit_index ≢ i → (done : List (Option (List Directive))) (c : Command) → c ≡ command_of setup project v done
      → (spawned : World) (ticket : ℕ) (w w' : World) → ChangesOnly (is_of (records_folder project) u.key) w w' → SeesStill (child_spawned (child c) c spawned ticket) w w'
  stands_on child unit_index v has at ne done c asks spawned ticket w w' only =
      let out : c.out ≡ Some v.out = ap (λ (d : Command). d.out) asks ∙ (is_for setup project v done (order.packages unit_index v at)).out in (
        sees_on unit_index v has at done c asks w w' only,
        subst (λ (o : Option (List ℕ)). inside_out o w'.files ≡ inside_out o w.files) (sym out) (files_still project order i u there w w' only unit_index v at ne),
      )

  module _ (child : Answers) (w w' : World) (only : ChangesOnly (is_of (records_folder project) u.key) w w') where
    -- the child of another flies on, and what it sees stands still
    carries_on : (flying flying' : List ChildInFlight) (still still' : ℕ → Type 0) (o : Option SpawnedChild)
        → ((ticket : ℕ) (its : ChildInFlight) → IfSome o (λ l. ticket ≢ l.ticket) → child_at ticket flying ≡ Some its → child_at ticket flying' ≡ Some its)
        → KeepsOthersStill o (is_of (records_folder project) u.key) flying still still'
        → (unit_index : ℕ) (v : Planned) → HasBegun (states_in project es) unit_index → unit_at project unit_index ≡ Some v → unit_index ≢ i → (done done' : List (Option (List Directive))) → command_of setup project v done ≡ command_of setup project v done'
        → (c : Command) (by : Awaited) → ((l : SpawnedChild) → child_in by ≡ Some l → IfSome o (λ k. l.ticket ≢ k.ticket)) → CarriesAnew child setup project done w flying still v c by → CarriesAnew child setup project done' w' flying' still' v c by
    carries_on flying flying' still still' o stay keeps unit_index v has at ne done done' same c (awaited.Record again) apart carries = tt
    carries_on flying flying' still still' o stay keeps unit_index v has at ne done done' same c (awaited.Child launched) apart carries =
        let (asks, flight) = carries in (
          asks ∙ same,
          record {
            spawned = flight.spawned;
            flies = stay launched.ticket (child_spawned (child c) c flight.spawned launched.ticket) (apart launched refl) flight.flies;
            sees = flight.sees ∙ sym (sees_on unit_index v has at done c asks w w' only);
            emptied = flight.emptied;
            stands = keeps launched.ticket (apart launched refl)
                (λ x y changed. subst (λ (f : Option ChildInFlight). IfSome f (λ s. SeesStill s x y)) (sym flight.flies) (stands_on child unit_index v has at ne done c asks flight.spawned launched.ticket x y changed))
                flight.stands;
          },
        )

    -- what another has answered stays so
    answers_on : (unit_index : ℕ) (answer : Answer BadUnit) → HasBegun (states_in project es) unit_index → unit_index ≢ i → (done done' : List (Option (List Directive))) → ((v : Planned) → unit_at project unit_index ≡ Some v → command_of setup project v done ≡ command_of setup project v done')
        → slice_get done' unit_index ≡ slice_get done unit_index → AnswersAnew child setup project done w unit_index answer → AnswersAnew child setup project done' w' unit_index answer
    answers_on unit_index answer has ne done done' commands noted g =
        let same = commands g.unit g.there in
        record {
          unit = g.unit;
          there = g.there;
          reply = g.reply;
          replies = g.replies ∙ ap (λ (c : Command). reply_in child c w) same ∙ sym (ap (child (command_of setup project g.unit done')) (sees_on unit_index g.unit has g.there done' (command_of setup project g.unit done') refl w w' only));
          files = files_still project order i u there w w' only unit_index g.unit g.there ne ∙ g.files;
          fault = g.fault ∙ ap (λ (c : Command). (ran_anew project g.unit c g.reply).bad) same;
          lines = g.lines ∙ ap (λ (c : Command). unit_lines project g.unit true (ran_anew project g.unit c g.reply).messages) same;
          noted = noted ∙ g.noted ∙ ap (λ (c : Command). Some (ran_anew project g.unit c g.reply).directives) same;
        }

    pub gave_on : ((a : Answer BadUnit) → slice_get (states_in project es) i ≡ Some (Answered a) → ⊥) → (done : List (Option (List Directive))) → AllAnswerAnew child setup project es done w → AllAnswerAnew child setup project es done w'
    gave_on not_answered done gave unit_index answer state started =
        answers_on unit_index answer (Answered answer, state, refl) (λ same. not_answered answer (ap (slice_get (states_in project es)) (sym same) ∙ state)) done done (λ v at. refl) refl (gave unit_index answer state started)

-- What a child gave that has ended.

module _ (child : Answers) (setup : Setup) (project : Project) (order : IsInOrder project) (unit_index : ℕ) (u : Planned) (there : unit_at project unit_index ≡ Some u) (done : List (Option (List Directive))) (c : Command) (asks : c ≡ command_of setup project u done)
    (w : World) (old : Counts) (ticket : ℕ) (still : ℕ → Type 0) (flight : IsInFlight child c (seen_by c w) ticket old.starts.flying still) where
  abbrev reply : Reply
  reply = child c (seen_by c flight.spawned)

  -- it left what was fixed when it was spawned
  pub landed : (well : Type 0) (left : World) (mid : Counts) (ended : Ended) → HasEnded ticket (Ok ended) well (still ticket) w left old mid → LandsAs (child_spawned (child c) c flight.spawned ticket) w ended left
  landed well left mid ended ends = subst (λ (o : Option ChildInFlight). IfSome o (λ s. LandsAs s w ended left)) flight.flies (ends.lands flight.stands)

  -- just the files of its reply
  landed_there : (left : World) (ended : Ended) → LandsAs (child_spawned (child c) c flight.spawned ticket) w ended left → files_in u.out left.files ≡ replied_files u.out reply
  landed_there left ended lands =
      let out : c.out ≡ Some u.out = ap (λ (d : Command). d.out) asks ∙ (is_for setup project u done (order.packages unit_index u there)).out in
      landed_files u.out reply.files (inside_out c.out flight.spawned.files) w left flight.emptied
      (lands.world ∙ ap (λ (o : Option (List ℕ)). landing o reply.files (inside_out c.out flight.spawned.files) w) out)

  -- its answer was judged by them
  judged_so : (left : World) (ended : Ended) → LandsAs (child_spawned (child c) c flight.spawned ticket) w ended left → (ran : Ran) → ran ≡ ran_of project u c ended left.files → ran ≡ ran_anew project u c reply
  judged_so left ended lands ran is =
      let info : file_at (dep_info_of project u) left.files ≡ file_at (dep_info_of project u) (replied_files u.out reply) =
      sym (inside_file u.out (dep_info_of project u) left.files (λ q at. dep_info_inside project u u.unit.what (crate_name_of project u) q at)) ∙ ap (file_at (dep_info_of project u)) (landed_there left ended lands) in
      is ∙ ap (λ (x : Option (List ℕ)). ran_by project u ended (answered_of project u c ended x)) info ∙ ap (λ (e : Ended). ran_of project u c e (replied_files u.out reply)) lands.answer

  -- behind it only the record was put
  kept_there : (left new : World) (ended : Ended) → LandsAs (child_spawned (child c) c flight.spawned ticket) w ended left → ChangesOnly (is_at_or_below (record_path (records_folder project) u.key)) left new → files_in u.out new.files ≡ replied_files u.out reply
  kept_there left new ended lands only = files_kept (records_folder project) u.key u.out left new order.folder (order.keys unit_index u there) (order.folders unit_index u there) only ∙ landed_there left ended lands

  -- so it answers
  answers_so : (new : World) → seen_by c new ≡ seen_by c w → files_in u.out new.files ≡ replied_files u.out reply → (done' : List (Option (List Directive))) → command_of setup project u done ≡ command_of setup project u done'
      → (ran : Ran) (lines : List ℕ) → ran ≡ ran_anew project u c reply → lines ≡ unit_lines project u ran.started ran.messages → ran.started ≡ true → slice_get done' unit_index ≡ Some ran.directives
      → AnswersAnew child setup project done' new unit_index record { fault = ran.bad; lines = lines }
  answers_so new sees files done' same ran lines is told started noted =
      let command : c ≡ command_of setup project u done' = asks ∙ same in
      let all : ran ≡ ran_anew project u (command_of setup project u done') reply = is ∙ ap (λ (d : Command). ran_anew project u d reply) command in
      record {
        unit = u;
        there = there;
        reply = reply;
        replies = ap (child c) (flight.sees ∙ sym sees) ∙ ap (λ (d : Command). reply_in child d new) command;
        files = files;
        fault = ap (λ (r : Ran). r.bad) all;
        lines = told ∙ ap (λ (b : Bool). unit_lines project u b ran.messages) started ∙ ap (λ (r : Ran). unit_lines project u true r.messages) all;
        noted = noted ∙ ap (λ (r : Ran). Some r.directives) all;
      }

-- By what is said of the call that takes the answer.
module _ (child : Answers) (setup : Setup) (project : Project) (order : IsInOrder project) (unit_index : ℕ) (u : Planned) (there : unit_at project unit_index ≡ Some u) (c : Command) (w new : World) (old : Counts) (still : ℕ → Type 0)
    (done done' : List (Option (List Directive))) (same : command_of setup project u done ≡ command_of setup project u done') (sees : c ≡ command_of setup project u done → seen_by c new ≡ seen_by c w)
    (ran : Ran) (lines : List ℕ) (told : lines ≡ unit_lines project u ran.started ran.messages) (noted : slice_get done' unit_index ≡ Some ran.directives) where
  answered_by : (by : Awaited) → is_some (child_in by) ≡ true → ran.started ≡ is_some (child_in by) → CarriesAnew child setup project done w old.starts.flying still u c by
      → (well : Type 0) (left : World) (mid : Counts) (ended : Ended) → EndsBy by (Ok ended) well still w left old mid → IsJudged project u c by ended left ran
      → (well' : Type 0) (left' : World) (mid' : Counts) (answer : Result Ended StartFault) → EndsBy by answer well' still w left' old mid' → well' → ChangesOnly (is_at_or_below (record_path (records_folder project) u.key)) left' new
      → AnswersAnew child setup project done' new unit_index record { fault = ran.bad; lines = lines }
  answered_by (awaited.Record again) has started carries well left mid ended ends is well' left' mid' answer ends' so only = absurd (false≢true has)
  answered_by (awaited.Child launched) has started carries well left mid ended ends is well' left' mid' (Err fault) ends' so only = absurd (false≢true (ends'.answered so))
  answered_by (awaited.Child launched) has started carries well left mid ended ends is well' left' mid' (Ok ended') ends' so only =
      let (asks, flight) = carries in
      answers_so child setup project order unit_index u there done c asks w old launched.ticket still flight new (sees asks)
      (kept_there child setup project order unit_index u there done c asks w old launched.ticket still flight left' new ended'
      (landed child setup project order unit_index u there done c asks w old launched.ticket still flight well' left' mid' ended' ends') only)
      done' same ran lines
      (judged_so child setup project order unit_index u there done c asks w old launched.ticket still flight left ended
      (landed child setup project order unit_index u there done c asks w old launched.ticket still flight well left mid ended ends) ran is)
      told started noted

-- Nothing has begun.

pub replies_first : (child : Answers) (setup : Setup) (project : Project) (done : List (Option (List Directive))) (running : List RunningUnit) (w : World) (flying : List ChildInFlight) (still : ℕ → Type 0) → running ≡ [] → Replies child setup project done running [] w flying still
replies_first child setup project done running w flying still none = record {
  waits = subst (AllByRecursion (FliesAnew child setup project done w flying still)) (sym none) tt;
  gave = λ unit_index answer state started. absurd (no_answer (needs_of project) unit_index answer state);
}

module _ (is_modelled : Bool) (child : Answers) (first old : UnitExecutor) (at now new : BuildState) (still : ℕ → Type 0) (es : List (Event BadUnit)) (given : ℕ) (story : History is_modelled child first at old now still es given) (order : IsInOrder old.project) (lawful : IsLawful (needs_of old.project) es) where
  flown : IsTrue is_modelled → (k : ℕ) (a : RunningUnit) → slice_get old.running.items k ≡ Some a → FliesIn old.project es now.world now.counts.starts.flying a
  flown t k a at_k = all_get (FliesIn old.project es now.world now.counts.starts.flying) old.running.items k a (story.changes t).flies at_k

  -- A unit begins.

  module _ (unit : ℕ) (u : Planned) (there : unit_at old.project unit ≡ Some u) (may : MayBegin (needs_of old.project) (states_in old.project es) unit) (only : IsTrue is_modelled → ChangesOnly (is_of (records_folder old.project) u.key) now.world new.world) where
    -- those that had answered, also where it could not
    pub unbegun_anew : (spawned : Bool) → IsTrue is_modelled → AllAnswerAnew child old.setup old.project (Began unit spawned ∷ es) old.done.items new.world
    unbegun_anew spawned t unit_index answer state started =
        let (ne, before) = answered_before (states_in old.project es) unit unit_index answer Untouched may.untouched state in
        gave_on old.project order es lawful unit u there (ap is_good_at may.untouched) old.setup child now.world new.world (only t) (λ a is. untouched_apart a (sym may.untouched ∙ is)) old.done.items (story.anew t).gave
        unit_index answer before (sym (started_other es unit unit_index spawned ne) ∙ started)

    -- its own child sees what it saw
    sees_own : (c : Command) → c ≡ command_of old.setup old.project u old.done.items → (w : World) → ChangesOnly (is_of (records_folder old.project) u.key) now.world w → seen_by c w ≡ seen_by c now.world
    sees_own c asks w changed =
        sees_on old.project order (Began unit false ∷ es) (begin es unit false lawful may) unit u there (ap is_good_at (get_set_same (states_in old.project es) unit Untouched Begun may.untouched)) old.setup
        unit u (begun_now (states_in old.project es) unit Untouched Begun may.untouched refl) there old.done.items c asks now.world w changed

    its_own : (c : Command) → c ≡ command_of old.setup old.project u old.done.items → ChangesOnly (is_of (records_folder old.project) u.key) now.world new.world → (flying : List ChildInFlight) (still' : ℕ → Type 0)
        → (by : Awaited) → IfSome (child_in by) (λ l. IsSpawned (is_of (records_folder old.project) u.key) child c now.world l.ticket flying still') → CarriesAnew child old.setup old.project old.done.items new.world flying still' u c by
    its_own c asks changed flying still' (awaited.Record again) launched = tt
    its_own c asks changed flying still' (awaited.Child l) launched = (
      asks,
      record {
        spawned = launched.spawned;
        flies = launched.flies;
        sees = sees_own c asks launched.spawned launched.only ∙ sym (sees_own c asks new.world changed);
        emptied = launched.emptied;
        stands = launched.stands;
      },
    )

    -- it has
    pub begun_anew : (still' : ℕ → Type 0) → ((ticket : ℕ) (its : ChildInFlight) → child_at ticket now.counts.starts.flying ≡ Some its → child_at ticket new.counts.starts.flying ≡ Some its)
        → (IsTrue is_modelled → KeepsStillOutside (is_of (records_folder old.project) u.key) now.counts.starts.flying still still')
        → (done : List (Option (List Directive))) → done ≡ old.done.items → (begun : unit_begun) → begun.command ≡ command_of old.setup old.project u done
        → (IsTrue is_modelled → IfSome (child_of begun) (λ l. IsSpawned (is_of (records_folder old.project) u.key) child begun.command now.world l.ticket new.counts.starts.flying still'))
        → (running' : List RunningUnit) → running' ≡ old.running.items ++ record { unit = unit; begun = begun } ∷ []
        → IsTrue is_modelled → Replies child old.setup old.project old.done.items running' (Began unit (is_some (child_of begun)) ∷ es) new.world new.counts.starts.flying still'
    begun_anew still' stay keeps done same_done begun asks launched running' more t = record {
      waits = subst (AllByRecursion (FliesAnew child old.setup old.project old.done.items new.world new.counts.starts.flying still')) (sym more)
          (all_more (FliesAnew child old.setup old.project old.done.items new.world new.counts.starts.flying still') old.running.items (record { unit = unit; begun = begun } ∷ [])
          (all_at_each (FliesAnew child old.setup old.project old.done.items now.world now.counts.starts.flying still) (FliesAnew child old.setup old.project old.done.items new.world new.counts.starts.flying still') old.running.items
          (λ k a at_k waits v at_v.
          carries_on old.project order es lawful unit u there (ap is_good_at may.untouched) old.setup child now.world new.world (only t) now.counts.starts.flying new.counts.starts.flying still still' None
          (λ ticket its apart is. stay ticket its is) (λ ticket apart stands stood. keeps t ticket stands stood) a.unit v (Begun, (flown t k a at_k).state, refl) at_v
          (λ e. another (states_in old.project es) unit a.unit may.untouched (Begun, (flown t k a at_k).state, refl) (sym e)) old.done.items old.done.items refl a.begun.command a.begun.awaited (λ l is. tt) (waits v at_v))
          (story.anew t).waits)
          (own, tt));
      gave = unbegun_anew (is_some (child_of begun)) t;
    }
      where
        own : (v : Planned) → unit_at old.project unit ≡ Some v → CarriesAnew child old.setup old.project old.done.items new.world new.counts.starts.flying still' v begun.command begun.awaited
        own v at_v =
            subst (λ (x : Planned). CarriesAnew child old.setup old.project old.done.items new.world new.counts.starts.flying still' x begun.command begun.awaited) (injective (sym there ∙ at_v))
            (its_own begun.command (asks ∙ ap (command_of old.setup old.project u) same_done) (only t) new.counts.starts.flying still' begun.awaited (launched t))

  -- A unit answers.

  module _ (index : ℕ) (a : RunningUnit) (u : Planned) (there : unit_at old.project a.unit ≡ Some u) (at_index : slice_get old.running.items index ≡ Some a) (only : IsTrue is_modelled → ChangesOnly (is_of (records_folder old.project) u.key) now.world new.world) where
    -- a fault came in its place
    pub unanswered_anew : IsTrue is_modelled → AllAnswerAnew child old.setup old.project es old.done.items new.world
    unanswered_anew t =
        let state = (flown t index a at_index).state in
        gave_on old.project order es lawful a.unit u there (ap is_good_at state) old.setup child now.world new.world (only t) (λ b is. begun_apart b (sym state ∙ is)) old.done.items (story.anew t).gave

    -- it has
    pub answered_anew : IsConsistent old now.counts → (still' : ℕ → Type 0)
        → ((ticket : ℕ) (its : ChildInFlight) → IfSome (child_of a.begun) (λ l. ticket ≢ l.ticket) → child_at ticket now.counts.starts.flying ≡ Some its → child_at ticket new.counts.starts.flying ≡ Some its)
        → (IsTrue is_modelled → KeepsOthersStill (child_of a.begun) (is_of (records_folder old.project) u.key) now.counts.starts.flying still still')
        → (ran : Ran) (lines : List ℕ) → lines ≡ unit_lines old.project u ran.started ran.messages → ran.started ≡ is_some (child_of a.begun)
        → (IsTrue is_modelled → (ended : Ended) × (left : World) × (mid : Counts) × EndsBy a.begun.awaited (Ok ended) (IsTrue true) still now.world left now.counts mid × IsJudged old.project u a.begun.command a.begun.awaited ended left ran)
        → (IsTrue is_modelled → (answer : Result Ended StartFault) × (left : World) × (mid : Counts) × EndsBy a.begun.awaited answer (IsOk (well_of ran)) still now.world left now.counts mid × ChangesOnly (is_at_or_below (record_path (records_folder old.project) u.key)) left new.world)
        → (running' : List RunningUnit) (done' : List (Option (List Directive))) → running' ≡ remove old.running.items index → done' ≡ slice_set old.done.items a.unit ran.directives
        → IsTrue is_modelled → Replies child old.setup old.project done' running' (Gave a.unit record { fault = ran.bad; lines = lines } ∷ es) new.world new.counts.starts.flying still'
    answered_anew consistent still' stay keeps ran lines told started judged lands running' done' is set t =
        let state = (flown t index a at_index).state in record {
          waits = subst (AllByRecursion (FliesAnew child old.setup old.project done' new.world new.counts.starts.flying still')) (sym is)
              (all_left (FliesAnew child old.setup old.project old.done.items now.world now.counts.starts.flying still) (FliesAnew child old.setup old.project done' new.world new.counts.starts.flying still') old.running.items index
              (λ j y at_j ne waits v at_v.
              carries_on old.project order es lawful a.unit u there (ap is_good_at state) old.setup child now.world new.world (only t) now.counts.starts.flying new.counts.starts.flying still still' (child_of a.begun) stay (keeps t)
              y.unit v (Begun, (flown t j y at_j).state, refl) at_v
              (apart_indices (indices_of old.running.items) j index y.unit a.unit consistent.units_apart (get_map index_of_unit old.running.items j y at_j) (get_map index_of_unit old.running.items index a at_index) ne)
              old.done.items done' (commands t y.unit v (Begun, (flown t j y at_j).state, refl) at_v) y.begun.command y.begun.awaited (λ l theirs. other_ticket j y at_j ne l theirs (child_of a.begun) refl) (waits v at_v))
              (story.anew t).waits);
          gave = λ unit_index answer state_after childed. elim (answered_cases (states_in old.project es) a.unit unit_index answer record { fault = ran.bad; lines = lines } Begun state state_after) [
            | inl (same, its) ↦
                subst (λ (x : Answer BadUnit). AnswersAnew child old.setup old.project done' new.world unit_index x) its
                (subst (λ n. AnswersAnew child old.setup old.project done' new.world n record { fault = ran.bad; lines = lines }) same (own (ap (is_started es) same ∙ childed)))
            | inr (ne, before) ↦
                answers_on old.project order es lawful a.unit u there (ap is_good_at state) old.setup child now.world new.world (only t) unit_index answer (Answered answer, before, refl) (λ e. ne (sym e)) old.done.items done'
                (λ v at_v. commands t unit_index v (Answered answer, before, refl) at_v)
                (ap (λ (ds : List (Option (List Directive))). slice_get ds unit_index) set ∙ get_set_other old.done.items a.unit unit_index ran.directives ne) ((story.anew t).gave unit_index answer before childed)
          ];
        }
      where
        commands : IsTrue is_modelled → (unit_index : ℕ) (v : Planned) → HasBegun (states_in old.project es) unit_index → unit_at old.project unit_index ≡ Some v → command_of old.setup old.project v old.done.items ≡ command_of old.setup old.project v done'
        commands t unit_index v has at_v = command_stays old.setup old.project order es lawful a.unit (flown t index a at_index).state old.done.items done' ran.directives set unit_index v has at_v

        other_ticket : (j : ℕ) (y : RunningUnit) → slice_get old.running.items j ≡ Some y → j ≢ index → (l : SpawnedChild) → child_of y.begun ≡ Some l → (o : Option SpawnedChild) → child_of a.begun ≡ o → IfSome o (λ k. l.ticket ≢ k.ticket)
        other_ticket j y at_j ne l theirs None ours = tt
        other_ticket j y at_j ne l theirs (Some k) ours = flat_apart (λ (x : RunningUnit). ticket_in (child_of x.begun)) old.running.items j index y a l.ticket k.ticket consistent.tickets_apart at_j at_index (ap ticket_in theirs) (ap ticket_in ours) ne

        within : a.unit < length old.done.items
        within = subst (λ n. a.unit < n) (sym consistent.long) (slice_get_within old.project.plan.planned a.unit u there)

        own : is_started es a.unit ≡ true → AnswersAnew child old.setup old.project done' new.world a.unit record { fault = ran.bad; lines = lines }
        own childed =
            let f = flown t index a at_index in
            let (ended, left, mid, ends, is_judged) = judged t in
            let (answer, left', mid', ends', changed) = lands t in
            answered_by child old.setup old.project order a.unit u there a.begun.command now.world new.world now.counts still old.done.items done' (commands t a.unit u (Begun, f.state, refl) there)
            (λ asks. sees_on old.project order es lawful a.unit u there (ap is_good_at f.state) old.setup a.unit u (Begun, f.state, refl) there old.done.items a.begun.command asks now.world new.world (only t))
            ran lines told (ap (λ (ds : List (Option (List Directive))). slice_get ds a.unit) set ∙ get_set_within old.done.items a.unit ran.directives within)
            a.begun.awaited (sym f.started ∙ childed) started (all_get (FliesAnew child old.setup old.project old.done.items now.world now.counts.starts.flying still) old.running.items index a (story.anew t).waits at_index u there)
            (IsTrue true) left mid ended ends is_judged (IsOk (well_of ran)) left' mid' answer ends' refl changed
