-- What the outcome of a unit says of its answer.
use Rattle.std.proofs.Common.{◌≡◌, ◌∙◌, ◌⊎◌, ℕ, Bool, List, Option, Some, None, Result, Ok, Err, is_some, refl, sym, subst, inl, inr}
use Rattle.std.proofs.lemmas.Bool.{false≢true}
use Rattle.pb_build_result.specs.declared.fault.BuildFault.{BuildFault}
use Rattle.pb_build_result.specs.declared.fault.BuildFault.TheVariants.{Child, Device, OutOfMemory}
use Rattle.pb_build_result.specs.declared.fault.DeviceFault.TheVariants.{Place, NumbersSpent}
use Rattle.pb_place_types.specs.At.{At}
use Rattle.pb_place_types.specs.Counts.{Starts}
use Rattle.pb_place_types.specs.World.{World, Answers}
use Rattle.pb_place_types.specs.declared.command.Command.{Command}
use Rattle.pb_command_types.specs.declared.project.Project.{Project}
use Rattle.pb_run.specs.Steps.{BeginsBy, LandsBy, IsOfUnit, fault_in, MayAnswer}
use Rattle.pb_run.specs.UnitSteps.{child_of}
use Rattle.pb_run.specs.Running.{StepAnswers, HasTold, TellsAnswer, told_of}
use Rattle.pb_run.specs.declared.begun.Begun.{Begun}
use Rattle.pb_run.specs.declared.begun.SpawnedChild.{SpawnedChild}
use Rattle.pb_run.specs.declared.faults.StepFault.{StepFault}
use Rattle.pb_run.specs.declared.faults.StepFault.TheVariants as step
use Rattle.pb_run.specs.declared.unit_steps.Outcome.{Outcome}
use Rattle.pb_run.specs.declared.ran.Ran.{Ran}
use Rattle.pb_store.specs.Differences.{FirstDifference}
use Rattle.pb_store.specs.declared.difference.Difference.{Difference}
use Rattle.pb_store.specs.declared.fault.StoreFault.TheVariants as store
use Rattle.pb_store.specs.declared.store.Store.{Store}
use Rattle.pb_unit.specs.declared.plan.Planned.{Planned}

abbrev pub told_fault : StepFault → Result Outcome StepFault
told_fault e = Err e

memory_of : (key : List ℕ) (fault : BuildFault) → IsOfUnit key fault → fault_in fault ≡ step.Store store.OutOfMemory → fault ≡ OutOfMemory
memory_of key (Child unit fault) its is = cc
memory_of key (Device unit (Place fault)) its is = cc
memory_of key (Device unit NumbersSpent) its is = cc
memory_of key OutOfMemory its is = refl
memory_of key _ its is = absurd its

same_fault : (result : Result Outcome StepFault) (e f : StepFault) → result ≡ Err e → result ≡ Err f → f ≡ e
same_fault result e f first second = cc

not_both : (result : Result Outcome StepFault) (outcome : Outcome) (e : StepFault) → result ≡ Ok outcome → result ≡ Err e → ⊥
not_both result outcome e first second = cc

-- how its fault leaves the starts
may_land : (next : Option ℕ) (launched : Option SpawnedChild) (e : StepFault) (old new : Starts) → MayAnswer next launched e old new → LandsBy launched old new
may_land next launched (step.Store (store.Place fault)) old new may = may.1
may_land next launched (step.Store store.NumbersSpent) old new may = subst (λ (l : Option SpawnedChild). LandsBy l old new) (sym may.1) may.2
may_land next launched (step.Store store.OutOfMemory) old new may = may
may_land next launched (step.Start fault) old new may = may.2

-- no child of a unit was started, or something had differed
pub tried_by : (folder key : List ℕ) (c : Command) (w : World) (launched : Option SpawnedChild) (difference : Option Difference) → is_some launched ≡ is_some difference → FirstDifference folder key c w difference
    → (old mid new : Starts) → BeginsBy launched old mid → LandsBy launched mid new → (new ≡ old) ⊎ ((first : Difference) × FirstDifference folder key c w (Some first))
tried_by folder key c w None difference spawned differs old mid new begins lands = inl (lands ∙ begins)
tried_by folder key c w (Some launched) None spawned differs old mid new begins lands = absurd (false≢true (sym spawned))
tried_by folder key c w (Some launched) (Some first) spawned differs old mid new begins lands = inr (first, differs)

module _ (is_modelled : Bool) (child : Answers) (project : Project) (index : ℕ) (u : Planned) (begun : Begun) (before now : Store) (old new : At) where
  well_by : (outcome : Outcome) (answer : Result Ran StepFault) → StepAnswers is_modelled child project index u begun answer before now old new → TellsAnswer project u begun.difference answer (Ok outcome)
      → (ran : Ran) × StepAnswers is_modelled child project index u begun (Ok ran) before now old new × (outcome ≡ told_of project u begun.difference ran)
  well_by outcome (Ok ran) came told = (ran, came, told)
  well_by outcome (Err e) came told = absurd (not_both (Ok outcome) outcome e refl told)

  pub told_well : (outcome : Outcome) → HasTold is_modelled child project index u begun (Ok outcome) before now old new
      → (ran : Ran) × StepAnswers is_modelled child project index u begun (Ok ran) before now old new × (outcome ≡ told_of project u begun.difference ran)
  told_well outcome has = well_by outcome has.answer has.answered has.told

  badly_by : (fault : BuildFault) (answer : Result Ran StepFault) → IsOfUnit u.key fault → StepAnswers is_modelled child project index u begun answer before now old new → TellsAnswer project u begun.difference answer (Err (fault_in fault))
      → StepAnswers is_modelled child project index u begun (Err (fault_in fault)) before now old new ⊎ ((ran : Ran) × StepAnswers is_modelled child project index u begun (Ok ran) before now old new × (fault ≡ OutOfMemory))
  badly_by fault (Ok ran) its came told = inr (ran, came, memory_of u.key fault its told)
  badly_by fault (Err e) its came told = inl (subst (λ (f : StepFault). StepAnswers is_modelled child project index u begun (Err f) before now old new) (same_fault (Err (fault_in fault)) (fault_in fault) e refl told) came)

  -- the unit's answer ended so; or memory for its lines was refused
  pub told_badly : (fault : BuildFault) → IsOfUnit u.key fault → HasTold is_modelled child project index u begun (Err (fault_in fault)) before now old new
      → StepAnswers is_modelled child project index u begun (Err (fault_in fault)) before now old new ⊎ ((ran : Ran) × StepAnswers is_modelled child project index u begun (Ok ran) before now old new × (fault ≡ OutOfMemory))
  told_badly fault its has = badly_by fault has.answer its has.answered has.told

  lands_by : (answer : Result Ran StepFault) → StepAnswers is_modelled child project index u begun answer before now old new → LandsBy (child_of begun) old.counts.starts new.counts.starts
  lands_by (Ok ran) came = came.changes.takes.1
  lands_by (Err e) came = may_land before.next (child_of begun) e old.counts.starts new.counts.starts came.changes.takes.0

  pub told_lands : (result : Result Outcome StepFault) → HasTold is_modelled child project index u begun result before now old new → LandsBy (child_of begun) old.counts.starts new.counts.starts
  told_lands result has = lands_by has.answer has.answered
