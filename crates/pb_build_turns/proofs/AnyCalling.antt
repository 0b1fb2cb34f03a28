-- The calls of units over any records: what is noted of a run changes none that were made before, and what a unit waits for that is in flight.
use Rattle.std.proofs.Common.{◌≡◌, ◌≢◌, ◌∙◌, ◌∷◌, [], Bool, List, ℕ, Option, Some, Contains, Result, refl, sym, ap, subst}
use Rattle.std.specs.Option.{option_map}
use Rattle.std.specs.Prelude.{IfOk, IfSome}
use Rattle.pb_build_result.specs.declared.bad_unit.BadUnit.{BadUnit}
use Rattle.pb_build_result.specs.declared.fault.BuildFault.{BuildFault}
use Rattle.pb_command.specs.Command.{command_of}
use Rattle.pb_directive.specs.declared.directive.Directive.{Directive}
use Rattle.pb_run_flight.specs.declared.flight.State.TheVariants.{Untouched, Begun, Answered}
use Rattle.pb_run_flight.specs.Events.{Event, Began, Gave, IsLawful}
use Rattle.pb_run_flight.specs.Laws.{HasBegun}
use Rattle.pb_run_flight.proofs.Handing.{began_lawful, gave_lawful}
use Rattle.pb_place_types.specs.Counts.{Counts}
use Rattle.pb_place_types.specs.Paths.{is_at_or_below}
use Rattle.pb_place_types.specs.World.{World, Answers, ChangesOnly, ChangesOnlyInSome, seen_by}
use Rattle.pb_place_types.specs.declared.child_in_flight.ChildInFlight.{ChildInFlight}
use Rattle.pb_place_types.specs.declared.command.Command.{Command}
use Rattle.pb_place_types.specs.declared.command.Ended.{Ended}
use Rattle.pb_place_types.specs.declared.place.StartFault.{StartFault}
use Rattle.pb_place_types.proofs.Folders.{only_started}
use Rattle.pb_command_types.specs.Targets.{unit_at}
use Rattle.pb_command_types.specs.declared.project.Project.{Project}
use Rattle.pb_command_types.specs.declared.project.Setup.{Setup}
use Rattle.pb_run.specs.UnitSteps.{IsInFlight, child_in}
use Rattle.pb_run.specs.Running.{CallsBehind, EndsBy, answered_called}
use Rattle.pb_run.specs.Steps.{bare}
use Rattle.pb_run.specs.Invariants.{IsInOrder, records_folder}
use Rattle.pb_run.specs.declared.begun.Awaited.{Awaited}
use Rattle.pb_run.specs.declared.begun.Awaited.TheVariants as awaited
use Rattle.pb_run.proofs.Recorded.{seen_still}
use Rattle.pb_run.proofs.Spawning.{out_within, widen}
use Rattle.pb_run.proofs.Views.{IsFor, is_for}
use Rattle.pb_store_soundness.specs.Apart.{is_of}
use Rattle.pb_store_soundness.specs.Records.{out_of, record_path, reading, records}
use Rattle.pb_store_soundness.proofs.RecordPaths.{record_same}
use Rattle.pb_store.specs.Differences.{IsReplayed, replayed}
use Rattle.pb_build_turns.specs.Calling.{CarriesAgain, CarriesAnew, AnswersCalling, BeginsCalling, CallsOver, CallsToBegin, EndsAsReplied, FliesFor, CallBasis, call_basis_on_any}
use Rattle.pb_build_turns.specs.Executor.{needs_of}
use Rattle.pb_build_turns.specs.History.{states_in}
use Rattle.pb_build_turns.proofs.States.{begun_more, begun_now}
use Rattle.pb_build_turns.proofs.Staying.{record_its_own}
use Rattle.pb_unit.specs.declared.plan.Planned.{Planned}

-- More is noted of the runs, by which each unit that has begun has the command that it had.

module _ (child : Answers) (setup : Setup) (project : Project) (done done' : List (Option (List Directive))) where
  -- so this unit
  abbrev SameCommand : ℕ → Type 0
  SameCommand index = (u : Planned) → unit_at project index ≡ Some u → command_of setup project u done ≡ command_of setup project u done'

  begins_same : (index : ℕ) (spawned : Bool) (before : World) (old : Counts) (after : World) (new : Counts) → SameCommand index
      → BeginsCalling (call_basis_on_any child setup project done) index spawned before old after new → BeginsCalling (call_basis_on_any child setup project done') index spawned before old after new
  begins_same index spawned before old after new same f = record {
    unit = f.unit;
    there = f.there;
    only = f.only;
    calls = subst (λ (c : Command). CallsToBegin child project f.unit c spawned before old after new) (same f.unit f.there) f.calls;
  }

  answers_same : (index : ℕ) (spawned : Bool) (result : Result (Unit {0}) BuildFault) (before : World) (old : Counts) (after : World) (new : Counts) → SameCommand index
      → AnswersCalling (call_basis_on_any child setup project done) index spawned result before old after new → AnswersCalling (call_basis_on_any child setup project done') index spawned result before old after new
  answers_same index spawned result before old after new same f = record {
    unit = f.unit;
    there = f.there;
    by = f.by;
    is_child = f.is_child;
    its = subst (λ (c : Command). IfSome (child_in f.by) (FliesFor c old.starts.flying)) (same f.unit f.there) f.its;
    counts_now = f.counts_now;
    left = f.left;
    mid = f.mid;
    answer = f.answer;
    ends = f.ends;
    replied = λ started. subst (λ (c : Command). IfOk f.answer (λ ended. EndsAsReplied (child c (seen_by c f.left)) f.unit ended f.left)) (same f.unit f.there) (f.replied started);
    only = f.only;
    named = f.named;
    calls = subst (λ (c : Command). CallsBehind f.by (answered_called project f.unit c f.left f.by) f.answer (bare result) f.mid new) (same f.unit f.there) f.calls;
  }

  pub calls_same : (es : List (Event BadUnit)) → IsLawful (needs_of project) es → ((index : ℕ) → HasBegun (states_in project es) index → SameCommand index) → (first : World) (at : Counts) (last : World) (now : Counts)
      → CallsOver (call_basis_on_any child setup project done) es first at last now → CallsOver (call_basis_on_any child setup project done') es first at last now
  calls_same [] lawful same first at last now calls = calls
  calls_same (Began index spawned ∷ es) lawful same first at last now (before, old, calls, begins) =
      let (earlier, may) = began_lawful (needs_of project) _ es index spawned lawful in (
        before,
        old,
        calls_same es earlier (λ p has. same p (begun_more (states_in project es) index p Untouched Begun may.untouched refl has)) first at before old calls,
        begins_same index spawned before old last now (same index (begun_now (states_in project es) index Untouched Begun may.untouched refl)) begins,
      )
  calls_same (Gave index answer ∷ es) lawful same first at last now (before, old, calls, answers) =
      let (earlier, flies) = gave_lawful (needs_of project) _ es index answer lawful in (
        before,
        old,
        calls_same es earlier (λ p has. same p (begun_more (states_in project es) index p Begun (Answered answer) flies refl has)) first at before old calls,
        answers_same index _ _ before old last now (same index (begun_now (states_in project es) index Begun (Answered answer) flies refl)) answers,
      )

-- What a unit in flight waits for: the end of its child, which saw what it is told to see of the world that it left; or the answer that its record gives again, which counts before.
abbrev pub WaitsTold : CallBasis → ℕ → Planned → Command → World → World → List ChildInFlight → (ℕ → Type 0) → Awaited → Type 0
WaitsTold told index u c before left flying still (awaited.Child launched) = IsInFlight told.child c (told.sees index u left) launched.ticket flying still
WaitsTold told index u c before left flying still (awaited.Record again) = IsReplayed (records (records_folder told.project) before u.key) again

module _ (child : Answers) (setup : Setup) (project : Project) (order : IsInOrder project) (index : ℕ) (u : Planned) (there : unit_at project index ≡ Some u)
    (done : List (Option (List Directive))) (first before : World) (old : Counts) (still : ℕ → Type 0) (c : Command) where
  -- it was begun by the command that it has
  pub asks_now : (by : Awaited) → CarriesAgain setup project done first before u c by → CarriesAnew child setup project done before old.starts.flying still u c by → c ≡ command_of setup project u done
  asks_now (awaited.Child launched) again anew = anew.0
  asks_now (awaited.Record replays) again anew = again.asks

  module _ (asks : c ≡ command_of setup project u done) where
    is_for_unit : IsFor project u c
    is_for_unit = subst (IsFor project u) (sym asks) (is_for setup project u done (order.packages index u there))

    pub writes_to_folder : c.out ≡ Some u.out
    writes_to_folder = is_for_unit.out

    module _ (left : World) (far : (p : ℕ) → Contains u.reaches p → p ≢ index) (done' : List (Option (List Directive))) (same : command_of setup project u done ≡ command_of setup project u done') where
      -- its child changes nothing that it sees
      still_seen : ChangesOnlyInSome c.out before left → seen_by c left ≡ seen_by c before
      still_seen inside =
          seen_still project order index u there before left
          (widen (is_at_or_below (out_of (records_folder project) u.key)) (is_of (records_folder project) u.key) before left (out_within (records_folder project) u.key)
          (subst (λ (out : List ℕ). ChangesOnly (is_at_or_below out) before left) (order.folders index u there) (only_started u.out c.out before left writes_to_folder inside)))
          u c is_for_unit far

      pub waits_on_any : (by : Awaited) (answer : Result Ended StartFault) (well : Type 0) (mid : Counts) → CarriesAgain setup project done first before u c by → CarriesAnew child setup project done before old.starts.flying still u c by
          → EndsBy by answer well still before left old mid → WaitsTold (call_basis_on_any child setup project done') index u c before left old.starts.flying still by
      waits_on_any (awaited.Child launched) answer well mid again anew ends =
          let flight = anew.1 in
          let inside : ChangesOnlyInSome c.out before left =
          subst (λ (o : Option ChildInFlight). IfSome o (λ spawned. ChangesOnlyInSome spawned.command.out before left)) flight.flies ends.only in
          record {
            spawned = flight.spawned;
            flies = flight.flies;
            sees = flight.sees ∙ sym (still_seen inside) ∙ ap (λ (d : Command). seen_by d left) (asks ∙ same);
            emptied = flight.emptied;
            stands = flight.stands;
          }
      waits_on_any (awaited.Record replays) answer well mid again anew ends =
          ap (option_map replayed) (record_same reading (records_folder project) first.files before.files u.key (again.stays (record_path (records_folder project) u.key) (record_its_own (records_folder project) u.key)) ∙ again.here)
          ∙ ap Some (sym again.gives)
