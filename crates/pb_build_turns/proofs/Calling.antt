-- The calls of a crew, where a unit begins or answers, or a fault comes in its place.
use Rattle.std.proofs.Common.{◌≡◌, ◌≢◌, ◌∙◌, ◌∷◌, inr, Bool, true, List, ℕ, Option, Some, None, Contains, Result, Ok, Err, IsTrue, refl, sym, ap, subst, is_some, slice_get, slice_set}
use Rattle.std.proofs.lemmas.Bool.{false≢true}
use Rattle.std.specs.Prelude.{IfErr, IfOk, IfSome, IsOk}
use Rattle.pb_build_result.specs.declared.bad_unit.BadUnit.{BadUnit}
use Rattle.pb_build_result.specs.declared.fault.BuildFault.{BuildFault}
use Rattle.pb_build_result.specs.declared.fault.BuildFault.TheVariants.{OutOfMemory}
use Rattle.pb_command.specs.Command.{command_of}
use Rattle.pb_command.specs.Judge.{ended_by, replied_files}
use Rattle.pb_directive.specs.declared.directive.Directive.{Directive}
use Rattle.pb_run_flight.specs.declared.flight.Answer.{Answer}
use Rattle.pb_run_flight.specs.declared.flight.State.TheVariants.{Begun}
use Rattle.pb_run_flight.specs.Events.{Event, Began, Gave, IsLawful, MayBegin}
use Rattle.pb_run_flight.specs.Laws.{HasBegun}
use Rattle.pb_run_flight.specs.Table.{is_good_at}
use Rattle.pb_run_flight.proofs.Ready.{good_at}
use Rattle.pb_place_types.specs.CallsInTurn.{MakesSome}
use Rattle.pb_place_types.specs.Children.{LandsAs, child_at, child_spawned, inside_out, landing}
use Rattle.pb_place_types.specs.declared.call.Call.{Call}
use Rattle.pb_place_types.specs.Counts.{Counts}
use Rattle.pb_place_types.specs.Paths.{is_at_or_below}
use Rattle.pb_place_types.specs.World.{World, Answers, ChangesOnly, seen_by}
use Rattle.pb_place_types.specs.declared.child_in_flight.ChildInFlight.{ChildInFlight}
use Rattle.pb_place_types.specs.declared.command.Command.{Command}
use Rattle.pb_place_types.specs.declared.command.Ended.{Ended}
use Rattle.pb_place_types.specs.declared.place.StartFault.{StartFault}
use Rattle.pb_place_types.proofs.CallsInTurn.{some_all}
use Rattle.pb_command_types.specs.Targets.{unit_at}
use Rattle.pb_run.specs.Running.{StopsToBegin, past_look, CallsBehind, EndsBy, GivesRecord, answered_called, Launches}
use Rattle.pb_run.specs.UnitSteps.{Premise, BuildContext, build_context, IsInFlight, WaitsBy, child_in, child_of, command_in, view_in}
use Rattle.pb_run.specs.Steps.{IsOfUnit, bare, fault_in}
use Rattle.pb_run.specs.Invariants.{IsInOrder, records_folder}
use Rattle.pb_run.specs.declared.begun.Awaited.{Awaited}
use Rattle.pb_run.specs.declared.begun.Awaited.TheVariants as awaited
use Rattle.pb_run.specs.declared.begun.Begun.{Begun as unit_begun}
use Rattle.pb_run.specs.declared.begun.SpawnedChild.{SpawnedChild}
use Rattle.pb_run.specs.declared.faults.StepFault.{StepFault}
use Rattle.pb_run.specs.declared.faults.StepFault.TheVariants as step
use Rattle.pb_run.specs.declared.ran.Ran.{Ran}
use Rattle.pb_run.proofs.Answering.{begun_as, command_out, landed_files}
use Rattle.pb_run.proofs.Halving.{is_command}
use Rattle.pb_store_soundness.specs.Apart.{is_of}
use Rattle.pb_store_soundness.specs.Records.{record_path, records}
use Rattle.pb_store.specs.declared.fault.StoreFault.TheVariants as store
use Rattle.pb_build_turns.specs.Calling.{FliesAgain, FliesAnew, AnswersCalling, BeginsCalling, CallsCut, CallsCutOnAny, CallsOver, CallsOnAny, CallsToBegin, EndsAsReplied, FliesFor, CallBasis, reply_by, call_basis, call_basis_on_any}
use Rattle.pb_build_turns.specs.Executor.{needs_of, BuildState}
use Rattle.pb_build_turns.specs.Rows.{is_started}
use Rattle.pb_build_turns.specs.History.{states_in, FliesIn, FliesSo, FromFirst, History}
use Rattle.pb_build_turns.specs.declared.executor.RunningUnit.{RunningUnit}
use Rattle.pb_build_turns.specs.declared.executor.UnitExecutor.{UnitExecutor}
use Rattle.pb_build_turns.proofs.Again.{command_stays}
use Rattle.pb_build_turns.proofs.AnyCalling.{WaitsTold, asks_now, calls_same, waits_on_any, writes_to_folder}
use Rattle.pb_build_turns.proofs.Lists.{all_get}
use Rattle.pb_build_turns.proofs.Reaching.{all_reach, can_begin}
use Rattle.pb_unit.specs.declared.plan.Planned.{Planned}

-- A unit begins.

module _ (told : CallBasis) (unit : ℕ) (u : Planned) (there : unit_at told.project unit ≡ Some u) (before after : World) (old new : Counts) where
  -- by its command, whatever that is told by
  begins_calling : (begun : unit_begun) → begun.command ≡ told.command unit u → ChangesOnly (is_of (records_folder told.project) u.key) before after → (child_of begun ≡ None → after ≡ before)
      → (child_of begun ≡ None → new ≡ past_look told.project u begun.command before old)
      → ((launched : SpawnedChild) → child_of begun ≡ Some launched → Launches told.child begun.command launched.ticket (past_look told.project u begun.command before old) new)
      → BeginsCalling told unit (is_some (child_of begun)) before old after new
  begins_calling begun asks only same looks launches = record {
    unit = u;
    there = there;
    only = only;
    calls = subst (λ (c : Command). CallsToBegin told.child told.project u c (is_some (child_of begun)) before old after new) asks (by_child (child_of begun) refl);
  }
    where
      by_child : (o : Option SpawnedChild) → child_of begun ≡ o → CallsToBegin told.child told.project u begun.command (is_some o) before old after new
      by_child None is = (same is, looks is)
      by_child (Some launched) is = (launched.ticket, launches launched is)

module _ (is_modelled : Bool) (child : Answers) (first old : UnitExecutor) (at now new : BuildState) (still : ℕ → Type 0) (es : List (Event BadUnit)) (given unit : ℕ) (u : Planned)
    (order : IsInOrder old.project) (there : unit_at old.project unit ≡ Some u) (story : History is_modelled child first at old now still es given) (may : MayBegin (needs_of old.project) (states_in old.project es) unit)
    (done : List (Option (List Directive))) (same_done : done ≡ old.done.items) where
  abbrev Of : Premise → World → BuildContext
  Of premise sources = build_context premise child old.setup old.project sources

  abbrev OnAny : CallBasis
  OnAny = call_basis_on_any child old.setup old.project old.done.items

  abbrev ByCommand : Command → Type 0
  ByCommand c = IsTrue is_modelled → FromFirst child first at old (λ b. c ≡ command_in b unit u)

  commanded : (c : Command) → c ≡ command_of old.setup old.project u done → ByCommand c
  commanded c is t f s k =
      let h = story.happened t f s k in
      is_command (Of f s) order unit u there (states_in old.project es) old.done.items old.store.next now.world
      (can_begin (Of f s) order (states_in old.project es) old.done.items old.store.next now.world h.keeps unit u there may) c (is ∙ ap (command_of old.setup old.project u) same_done)

  -- it has begun
  module _ (begun : unit_begun) (asks : begun.command ≡ command_of old.setup old.project u done) (only : IsTrue is_modelled → ChangesOnly (is_of (records_folder old.project) u.key) now.world new.world) (same : IsTrue is_modelled → child_of begun ≡ None → new.world ≡ now.world)
      (looks : IsTrue is_modelled → child_of begun ≡ None → new.counts ≡ past_look old.project u begun.command now.world now.counts)
      (launches : (launched : SpawnedChild) → child_of begun ≡ Some launched → IsTrue is_modelled → Launches child begun.command launched.ticket (past_look old.project u begun.command now.world now.counts) new.counts) where
    pub calls_begun : IsTrue is_modelled → FromFirst child first at old (λ b. CallsOver (call_basis b) (Began unit (is_some (child_of begun)) ∷ es) at.world at.counts new.world new.counts)
    calls_begun t f s k = (
      now.world,
      now.counts,
      story.calls t f s k,
      begins_calling (call_basis (Of f s)) unit u there now.world new.world now.counts new.counts begun (commanded begun.command asks t f s k) (only t) (same t) (looks t) (λ launched is. launches launched is t),
    )

    pub calls_begun_on_any : (IsTrue is_modelled → CallsOnAny child old.setup old.project old.done.items es at.world at.counts now.world now.counts)
        → IsTrue is_modelled → CallsOnAny child old.setup old.project old.done.items (Began unit (is_some (child_of begun)) ∷ es) at.world at.counts new.world new.counts
    calls_begun_on_any calls t = (
      now.world,
      now.counts,
      calls t,
      begins_calling (OnAny) unit u there now.world new.world now.counts new.counts begun (asks ∙ ap (command_of old.setup old.project u) same_done) (only t) (same t) (looks t) (λ launched is. launches launched is t),
    )

  -- it could not
  module _ (spawned : Bool) (fault : BuildFault) (named : IsOfUnit u.key fault) (stops : IsTrue is_modelled → StopsToBegin old.project u (command_of old.setup old.project u done) (fault_in fault) now.world now.counts new.counts)
      (only : IsTrue is_modelled → ChangesOnly (is_of (records_folder old.project) u.key) now.world new.world) where
    stops_beginning : (c : Command) → command_of old.setup old.project u done ≡ c → IsTrue is_modelled → StopsToBegin old.project u c (fault_in fault) now.world now.counts new.counts
    stops_beginning c is t = subst (λ (d : Command). StopsToBegin old.project u d (fault_in fault) now.world now.counts new.counts) is (stops t)

    pub calls_unbegun : IsTrue is_modelled → FromFirst child first at old (λ b. CallsCut (call_basis b) fault None (Began unit spawned ∷ es) es at.world at.counts new.world new.counts)
    calls_unbegun t f s k = (
      now.world,
      now.counts,
      story.calls t f s k,
      inr (unit, spawned, refl, record { unit = u; there = there; only = only t; named = named; stops = stops_beginning (command_in (Of f s) unit u) (commanded (command_of old.setup old.project u done) refl t f s k) t }),
    )

    pub calls_unbegun_on_any : (IsTrue is_modelled → CallsOnAny child old.setup old.project old.done.items es at.world at.counts now.world now.counts)
        → IsTrue is_modelled → CallsCutOnAny child old.setup old.project old.done.items fault None (Began unit spawned ∷ es) es at.world at.counts new.world new.counts
    calls_unbegun_on_any calls t = (
      now.world,
      now.counts,
      calls t,
      inr (unit, spawned, refl, record { unit = u; there = there; only = only t; named = named; stops = stops_beginning (command_of old.setup old.project u old.done.items) (ap (command_of old.setup old.project u) same_done) t }),
    )

-- A unit answers.

-- what is called behind an answer is the same, whatever is told of it
pub behind_well : (by : Awaited) (names : Ended → List Call) (answer : Result Ended StartFault) (ran : Ran) (old new : Counts) → CallsBehind {T = Ran} by names answer (Ok ran) old new → CallsBehind {T = Unit {0}} by names answer (Ok tt) old new
behind_well (awaited.Child launched) names (Ok ended) ran old new is = is
behind_well (awaited.Record again) names (Ok ended) ran old new is = is
behind_well (awaited.Child launched) names (Err fault) ran old new is = is
behind_well (awaited.Record again) names (Err fault) ran old new is = is

pub behind_badly : (by : Awaited) (names : Ended → List Call) (answer : Result Ended StartFault) (fault : StepFault) (old new : Counts) → CallsBehind {T = Ran} by names answer (Err fault) old new → CallsBehind {T = Unit {0}} by names answer (Err fault) old new
behind_badly (awaited.Child launched) names (Ok ended) fault old new is = is
behind_badly (awaited.Record again) names (Ok ended) fault old new is = is
behind_badly (awaited.Child launched) names (Err e) fault old new is = is
behind_badly (awaited.Record again) names (Err e) fault old new is = is

-- memory is refused for the lines
pub behind_untold : (by : Awaited) (names : Ended → List Call) (answer : Result Ended StartFault) (ran : Ran) (old new : Counts) → IsOk answer → CallsBehind {T = Ran} by names answer (Ok ran) old new → CallsBehind {T = Unit {0}} by names answer (Err (step.Store store.OutOfMemory)) old new
behind_untold (awaited.Child launched) names (Ok ended) ran old new answered is = subst (MakesSome (names ended) old) (sym is) (some_all (names ended) old)
behind_untold (awaited.Record again) names (Ok ended) ran old new answered is = subst (MakesSome (names ended) old) (sym is) (some_all (names ended) old)
behind_untold by names (Err e) ran old new answered is = absurd (false≢true answered)

-- where all went well there is an answer
has_answered : (by : Awaited) (answer : Result Ended StartFault) (well : Type 0) (still : ℕ → Type 0) (before left : World) (old mid : Counts) → EndsBy by answer well still before left old mid → well → IsOk answer
has_answered (awaited.Child launched) answer well still before left old mid ends is = ends.answered is
has_answered (awaited.Record again) answer well still before left old mid ends all = let (unchanged, counted, is) = ends in subst (λ (r : Result Ended StartFault). IsOk r) (sym is) refl

-- What came of a unit in flight, by what it waits for.

module _ (told : CallBasis) (index : ℕ) (u : Planned) (there : unit_at told.project index ≡ Some u) (c : Command) (asks : c ≡ told.command index u) (writes : c.out ≡ Some u.out) (before left : World) (old : Counts) (still : ℕ → Type 0) where
  -- its record counts now, where it has no child
  counts_now : (by : Awaited) → WaitsTold told index u c before left old.starts.flying still by → GivesRecord (records (records_folder told.project) before u.key) by
  counts_now (awaited.Child launched) waits = tt
  counts_now (awaited.Record again) waits = waits

  -- its child is in flight for its command
  its_child : (by : Awaited) → WaitsTold told index u c before left old.starts.flying still by → IfSome (child_in by) (FliesFor (told.command index u) old.starts.flying)
  its_child (awaited.Child launched) flight = (child_spawned (told.child c) c flight.spawned launched.ticket, flight.flies, asks)
  its_child (awaited.Record again) waits = tt

  -- what its child sees stood still
  stood_still : (by : Awaited) (answer : Result Ended StartFault) (well well' : Type 0) (mid : Counts) → WaitsTold told index u c before left old.starts.flying still by → (well' → well) → EndsBy by answer well still before left old mid
      → EndsBy by answer well' (λ ticket. Unit {0}) before left old mid
  stood_still (awaited.Child launched) answer well well' mid flight so ends = record { counted = ends.counted; answered = λ w. ends.answered (so w); only = ends.only; lands = λ stood. ends.lands flight.stands }
  stood_still (awaited.Record again) answer well well' mid waits so ends = ends

  -- and so a child gave its reply
  replied_landing : (launched : SpawnedChild) (ended : Ended) → IsInFlight told.child c (told.sees index u left) launched.ticket old.starts.flying still
      → (still launched.ticket → IfSome (child_at launched.ticket old.starts.flying) (λ spawned. LandsAs spawned before ended left)) → EndsAsReplied (reply_by told index u left) u ended left
  replied_landing launched ended flight lands =
      let landed : LandsAs (child_spawned (told.child c) c flight.spawned launched.ticket) before ended left =
      subst (λ (o : Option ChildInFlight). IfSome o (λ spawned. LandsAs spawned before ended left)) flight.flies (lands flight.stands) in
      let replies : told.child c (seen_by c flight.spawned) ≡ reply_by told index u left = ap (told.child c) flight.sees ∙ ap (λ (d : Command). told.child d (told.sees index u left)) asks in
      record {
        answer = landed.answer ∙ ap ended_by replies;
        files = landed_files u.out (told.child c (seen_by c flight.spawned)).files (inside_out c.out flight.spawned.files) before left flight.emptied
            (landed.world ∙ ap (λ (o : Option (List ℕ)). landing o (told.child c (seen_by c flight.spawned)).files (inside_out c.out flight.spawned.files) before) writes)
            ∙ ap (replied_files u.out) replies;
      }

  replies_so : (by : Awaited) (answer : Result Ended StartFault) (well : Type 0) (mid : Counts) → WaitsTold told index u c before left old.starts.flying still by → EndsBy by answer well still before left old mid
      → is_some (child_in by) ≡ true → IfOk answer (λ ended. EndsAsReplied (reply_by told index u left) u ended left)
  replies_so (awaited.Child launched) (Ok ended) well mid flight ends is = replied_landing launched ended flight ends.lands
  replies_so (awaited.Child launched) (Err fault) well mid flight ends is = tt
  replies_so (awaited.Record again) answer well mid waits ends is = absurd (false≢true is)

  -- it has answered, or a fault came in its place
  answers_calling : (by : Awaited) (spawned : Bool) → spawned ≡ is_some (child_in by) → WaitsTold told index u c before left old.starts.flying still by
      → (answer : Result Ended StartFault) (result : Result (Unit {0}) BuildFault) (well : Type 0) → (IsOk result → well) → (mid : Counts) → EndsBy by answer well still before left old mid
      → (after : World) (new : Counts) → ChangesOnly (is_at_or_below (record_path (records_folder told.project) u.key)) left after → IfErr result (IsOfUnit u.key) → CallsBehind by (answered_called told.project u c left by) answer (bare result) mid new
      → AnswersCalling told index spawned result before old after new
  answers_calling by spawned is_child waits answer result well so mid ends after new only named behind = record {
    unit = u;
    there = there;
    by = by;
    is_child = is_child;
    its = its_child by waits;
    counts_now = counts_now by waits;
    left = left;
    mid = mid;
    answer = answer;
    ends = stood_still by answer well (IsOk result) mid waits so ends;
    replied = λ started. replies_so by answer well mid waits ends (sym is_child ∙ started);
    only = only;
    named = named;
    calls = subst (λ (d : Command). CallsBehind by (answered_called told.project u d left by) answer (bare result) mid new) asks behind;
  }

-- over a build context it waits so
waits_in : (b : BuildContext) (index : ℕ) (u : Planned) (c : Command) (next : Option ℕ) (before left : World) (flying : List ChildInFlight) (still : ℕ → Type 0) (by : Awaited) → WaitsBy b u c (view_in b index u) by next before flying still
    → WaitsTold (call_basis b) index u c before left flying still by
waits_in b index u c next before left flying still (awaited.Child launched) waits = waits.0
waits_in b index u c next before left flying still (awaited.Record again) waits = waits.1

-- In the story of a crew.

module _ (is_modelled : Bool) (child : Answers) (first old : UnitExecutor) (at now new : BuildState) (still : ℕ → Type 0) (es : List (Event BadUnit)) (given : ℕ) (story : History is_modelled child first at old now still es given) (order : IsInOrder old.project)
    (index : ℕ) (a : RunningUnit) (at_index : slice_get old.running.items index ≡ Some a) (u : Planned) (there : unit_at old.project a.unit ≡ Some u) where
  abbrev On : Premise → World → BuildContext
  On premise sources = build_context premise child old.setup old.project sources

  -- what a call says that takes its answer
  abbrev pub Lands : Result Ran StepFault → Type 0
  Lands said = IsTrue is_modelled → (answer : Result Ended StartFault) × (left : World) × (mid : Counts) × EndsBy a.begun.awaited answer (IsOk said) still now.world left now.counts mid
      × ChangesOnly (is_at_or_below (record_path (records_folder old.project) u.key)) left new.world
      × CallsBehind a.begun.awaited (answered_called old.project u a.begun.command left a.begun.awaited) answer said mid new.counts

  -- what is called behind, whatever is told of it
  abbrev Behind : Result (Unit {0}) BuildFault → Result Ran StepFault → Type 0
  Behind result said = (by : Awaited) (names : Ended → List Call) (answer : Result Ended StartFault) (k k' : Counts) → (IsOk said → IsOk answer) → CallsBehind by names answer said k k' → CallsBehind by names answer (bare result) k k'

  answers : (result : Result (Unit {0}) BuildFault) (said : Result Ran StepFault) → (IsOk result → IsOk said) → IfErr result (IsOfUnit u.key) → Behind result said → Lands said
      → IsTrue is_modelled → FromFirst child first at old (λ b. AnswersCalling (call_basis b) a.unit (is_started es a.unit) result now.world now.counts new.world new.counts)
  answers result said so named same_calls lands t f s k =
      let h = story.happened t f s k in
      let so_begun = all_get (FliesSo (On f s) es old.store.next now.world now.counts.starts.flying still) old.running.items index a h.begun at_index in
      let (asks, waits) = begun_as (On f s) order a.unit u there a.begun old.store.next now.world now.counts.starts.flying still so_begun.begun_so in
      let (answer, left, mid, ends, only, behind) = lands t in
      answers_calling (call_basis (On f s)) a.unit u there a.begun.command asks (ap (λ (d : Command). d.out) asks ∙ command_out (On f s) order a.unit u there) now.world left now.counts still a.begun.awaited (is_started es a.unit) so_begun.started
      (waits_in (On f s) a.unit u a.begun.command old.store.next now.world left now.counts.starts.flying still a.begun.awaited waits)
      answer result (IsOk said) so mid ends new.world new.counts only named (same_calls a.begun.awaited (answered_called old.project u a.begun.command left a.begun.awaited) answer mid new.counts
      (has_answered a.begun.awaited answer (IsOk said) still now.world left now.counts mid ends) behind)

  -- it has answered
  pub calls_answered : (answer : Answer BadUnit) (ran : Ran) → Lands (Ok ran) → IsTrue is_modelled → FromFirst child first at old (λ b. CallsOver (call_basis b) (Gave a.unit answer ∷ es) at.world at.counts new.world new.counts)
  calls_answered answer ran lands t f s k =
      (now.world, now.counts, story.calls t f s k, answers (Ok tt) (Ok ran) (λ ok. ok) tt (λ by names said old new answered. behind_well by names said ran old new) lands t f s k)

  -- a fault came in its place
  cut : (fault : BuildFault) (unit : ℕ) → unit ≡ a.unit → IsTrue is_modelled → FromFirst child first at old (λ b. AnswersCalling (call_basis b) a.unit (is_started es a.unit) (Err fault) now.world now.counts new.world new.counts)
      → FromFirst child first at old (λ b. CallsCut (call_basis b) fault (Some unit) es es at.world at.counts new.world new.counts)
  cut fault unit its t so f s k =
      (now.world, now.counts, story.calls t f s k, subst (λ n. AnswersCalling (call_basis (On f s)) n (is_started es n) (Err fault) now.world now.counts new.world new.counts) (sym its) (so f s k))

  pub calls_unanswered : (fault : BuildFault) → IsOfUnit u.key fault → (unit : ℕ) → unit ≡ a.unit → Lands (Err (fault_in fault)) → IsTrue is_modelled → FromFirst child first at old (λ b. CallsCut (call_basis b) fault (Some unit) es es at.world at.counts new.world new.counts)
  calls_unanswered fault named unit its lands t = cut fault unit its t (answers (Err fault) (Err (fault_in fault)) (λ ok. ok) named (λ by names said old new answered. behind_badly by names said (fault_in fault) old new) lands t)

  -- memory is refused for its lines
  pub calls_untold : (ran : Ran) (unit : ℕ) → unit ≡ a.unit → Lands (Ok ran) → IsTrue is_modelled → FromFirst child first at old (λ b. CallsCut (call_basis b) OutOfMemory (Some unit) es es at.world at.counts new.world new.counts)
  calls_untold ran unit its lands t = cut OutOfMemory unit its t (answers (Err OutOfMemory) (Ok ran) (λ none. refl) tt (λ by names said old new answered. behind_untold by names said ran old new (answered refl)) lands t)

  -- The same over any records.

  module _ (lawful : IsLawful (needs_of old.project) es) (calls : IsTrue is_modelled → CallsOnAny child old.setup old.project old.done.items es at.world at.counts now.world now.counts)
      (anew : IsTrue is_modelled → FliesAnew child old.setup old.project old.done.items now.world now.counts.starts.flying still a) where
    so_flies : IsTrue is_modelled → FliesIn old.project es now.world now.counts.starts.flying a
    so_flies t = all_get (FliesIn old.project es now.world now.counts.starts.flying) old.running.items index a (story.changes t).flies at_index

    -- it reaches none that is in flight
    far : slice_get (states_in old.project es) a.unit ≡ Some Begun → (p : ℕ) → Contains u.reaches p → p ≢ a.unit
    far begun p among same =
        false≢true (ap is_good_at (sym begun ∙ ap (slice_get (states_in old.project es)) (sym same))
        ∙ good_at (states_in old.project es) u.reaches p (all_reach old.project order es lawful a.unit u (Begun, begun, refl) there) among)

    answers_on_any : (done' : List (Option (List Directive))) → command_of old.setup old.project u old.done.items ≡ command_of old.setup old.project u done' → (result : Result (Unit {0}) BuildFault) (said : Result Ran StepFault) → (IsOk result → IsOk said) → IfErr result (IsOfUnit u.key) → Behind result said → Lands said
        → IsTrue is_modelled → AnswersCalling (call_basis_on_any child old.setup old.project done') a.unit (is_started es a.unit) result now.world now.counts new.world new.counts
    answers_on_any done' same result said so named same_calls lands t =
        let flies = so_flies t in
        let carries = all_get (λ (x : RunningUnit). FliesAgain old.setup old.project old.done.items at.world now.world x) old.running.items index a ((story.again t).waits) at_index u there in
        let (answer, left, mid, ends, only, behind) = lands t in
        let asks = asks_now child old.setup old.project order a.unit u there old.done.items at.world now.world now.counts still a.begun.command a.begun.awaited carries (anew t u there) in
        answers_calling (call_basis_on_any child old.setup old.project done') a.unit u there a.begun.command (asks ∙ same)
        (writes_to_folder child old.setup old.project order a.unit u there old.done.items at.world now.world now.counts still a.begun.command asks) now.world left now.counts still a.begun.awaited (is_started es a.unit) flies.started
        (waits_on_any child old.setup old.project order a.unit u there old.done.items at.world now.world now.counts still a.begun.command asks left (far flies.state) done' same a.begun.awaited answer (IsOk said) mid carries (anew t u there) ends)
        answer result (IsOk said) so mid ends new.world new.counts only named (same_calls a.begun.awaited (answered_called old.project u a.begun.command left a.begun.awaited) answer mid new.counts
        (has_answered a.begun.awaited answer (IsOk said) still now.world left now.counts mid ends) behind)

    -- it has answered; what is noted of it changes no command of those that have begun
    pub calls_answered_on_any : (done' : List (Option (List Directive))) (d : Option (List Directive)) → done' ≡ slice_set old.done.items a.unit d → (answer : Answer BadUnit) (ran : Ran) → Lands (Ok ran)
        → IsTrue is_modelled → CallsOnAny child old.setup old.project done' (Gave a.unit answer ∷ es) at.world at.counts new.world new.counts
    calls_answered_on_any done' d set answer ran lands t =
        let flies = so_flies t in
        let same : (index : ℕ) → HasBegun (states_in old.project es) index → (v : Planned) → unit_at old.project index ≡ Some v → command_of old.setup old.project v old.done.items ≡ command_of old.setup old.project v done' =
        λ index has v at_v. command_stays old.setup old.project order es lawful a.unit flies.state old.done.items done' d set index v has at_v in (
          now.world,
          now.counts,
          calls_same child old.setup old.project old.done.items done' es lawful same at.world at.counts now.world now.counts (calls t),
          answers_on_any done' (same a.unit (Begun, flies.state, refl) u there) (Ok tt) (Ok ran) (λ ok. ok) tt (λ by names said old new answered. behind_well by names said ran old new) lands t,
        )

    -- a fault came in its place
    cut_on_any : (fault : BuildFault) (unit : ℕ) → unit ≡ a.unit → IsTrue is_modelled → (AnswersCalling (call_basis_on_any child old.setup old.project old.done.items) a.unit (is_started es a.unit) (Err fault) now.world now.counts new.world new.counts)
        → CallsCutOnAny child old.setup old.project old.done.items fault (Some unit) es es at.world at.counts new.world new.counts
    cut_on_any fault unit its t so = (
      now.world,
      now.counts,
      calls t,
      subst (λ n. AnswersCalling (call_basis_on_any child old.setup old.project old.done.items) n (is_started es n) (Err fault) now.world now.counts new.world new.counts) (sym its) (so),
    )

    pub calls_unanswered_on_any : (fault : BuildFault) → IsOfUnit u.key fault → (unit : ℕ) → unit ≡ a.unit → Lands (Err (fault_in fault)) → IsTrue is_modelled → CallsCutOnAny child old.setup old.project old.done.items fault (Some unit) es es at.world at.counts new.world new.counts
    calls_unanswered_on_any fault named unit its lands t =
        cut_on_any fault unit its t (answers_on_any old.done.items refl (Err fault) (Err (fault_in fault)) (λ ok. ok) named (λ by names said old new answered. behind_badly by names said (fault_in fault) old new) lands t)

    -- memory is refused for its lines
    pub calls_untold_on_any : (ran : Ran) (unit : ℕ) → unit ≡ a.unit → Lands (Ok ran) → IsTrue is_modelled → CallsCutOnAny child old.setup old.project old.done.items OutOfMemory (Some unit) es es at.world at.counts new.world new.counts
    calls_untold_on_any ran unit its lands t =
        cut_on_any OutOfMemory unit its t (answers_on_any old.done.items refl (Err OutOfMemory) (Ok ran) (λ none. refl) tt (λ by names said old new answered. behind_untold by names said ran old new (answered refl)) lands t)
