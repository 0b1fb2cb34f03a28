-- A unit that has begun, whole and by its parts: what is said of it leaves out what differed.
use Rattle.std.proofs.Common.{ℕ, Bool, List, Option, Result, Ok, Err}
use Rattle.std.specs.Prelude.{IfOk}
use Rattle.pb_build_result.specs.declared.bad_unit.BadUnit.{BadUnit}
use Rattle.pb_directive.specs.declared.directive.Directive.{Directive}
use Rattle.pb_run_flight.specs.declared.flight.State.{State}
use Rattle.pb_place_types.specs.At.{At}
use Rattle.pb_place_types.specs.World.{World, Answers}
use Rattle.pb_place_types.specs.declared.child_in_flight.ChildInFlight.{ChildInFlight}
use Rattle.pb_command_types.specs.declared.project.Project.{Project}
use Rattle.pb_run.specs.Running.{AnswersUnit, StepAnswers}
use Rattle.pb_run.specs.UnitSteps.{BuildContext, CanAnswer, IsBegun, begun_with}
use Rattle.pb_run.specs.declared.begun.Begun.{Begun}
use Rattle.pb_run.specs.declared.faults.StepFault.{StepFault}
use Rattle.pb_run.specs.declared.ran.Ran.{Ran}
use Rattle.pb_store.specs.declared.store.Store.{Store}
use Rattle.pb_unit.specs.declared.plan.Planned.{Planned}

module _ (begun : Begun) where
  module _ (b : BuildContext) (i : ℕ) (key : List ℕ) (next : Option ℕ) (w : World) (flying : List ChildInFlight) (still : ℕ → Type 0) where
    pub begun_parts : IsBegun b i begun next w flying still → IsBegun b i (begun_with key begun.command begun.awaited) next w flying still
    begun_parts is_begun = record { unit = is_begun.unit; there = is_begun.there; command = is_begun.command; waits = is_begun.waits }

    pub begun_whole : IsBegun b i (begun_with key begun.command begun.awaited) next w flying still → IsBegun b i begun next w flying still
    begun_whole is_begun = record { unit = is_begun.unit; there = is_begun.there; command = is_begun.command; waits = is_begun.waits }

    pub answer_parts : (states : List (State BadUnit)) (done : List (Option (List Directive))) (u : Planned) → CanAnswer b states done i u begun next w flying still → CanAnswer b states done i u (begun_with key begun.command begun.awaited) next w flying still
    answer_parts states done u can = record { keeps = can.keeps; state = can.state; reaches = can.reaches; begun_so = begun_parts can.begun_so }

  module _ (is_modelled : Bool) (child : Answers) (project : Project) (index : ℕ) (u : Planned) (key : List ℕ) (before now : Store) (old new : At) where
    unit_whole : (result : Result Ran StepFault) → IfOk result (AnswersUnit is_modelled project u (begun_with key begun.command begun.awaited) before now old new) → IfOk result (AnswersUnit is_modelled project u begun before now old new)
    unit_whole (Ok ran) came = record { started = came.started; directives = came.directives; judged = came.judged; kept = came.kept; unkept = came.unkept; bad = came.bad; taken = came.taken }
    unit_whole (Err e) came = tt

    pub answered_whole : (result : Result Ran StepFault) → StepAnswers is_modelled child project index u (begun_with key begun.command begun.awaited) result before now old new → StepAnswers is_modelled child project index u begun result before now old new
    answered_whole result came = record {
      answers = unit_whole result came.answers;
      ends = record { lands = came.ends.lands; same = came.ends.same; untaken = came.ends.untaken; most = came.ends.most };
      build = λ premise setup sources told. record {
        outcome = λ states done can. (came.build premise setup sources told).outcome states done (answer_parts _ index key before.next old.world old.counts.starts.flying old.still states done u can);
        keeps = λ states done can. (came.build premise setup sources told).keeps states done (answer_parts _ index key before.next old.world old.counts.starts.flying old.still states done u can);
        others = λ states done other its can apart. (came.build premise setup sources told).others states done other its (answer_parts _ index key before.next old.world old.counts.starts.flying old.still states done u can) apart;
      };
      store = came.store;
      changes = came.changes;
    }
