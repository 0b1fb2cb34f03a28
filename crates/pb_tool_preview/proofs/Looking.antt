-- A fault of a look at a unit, as the build's fault.
use Rattle.std.proofs.Common.{◌≡◌, ◌∙◌, ℕ, List, Result, Ok, Err, refl}
use Rattle.pb_build_result.specs.declared.fault.BuildFault.{BuildFault}
use Rattle.pb_place_types.specs.At.{At}
use Rattle.pb_place_types.specs.Counts.{Counts}
use Rattle.pb_run.proofs.Ending.{cause_after}
use Rattle.pb_run.specs.Steps.{HasCause, fault_in, named}
use Rattle.pb_run.specs.declared.faults.StepFault.TheVariants as step
use Rattle.pb_store.specs.Calls as causes
use Rattle.pb_store.specs.declared.fault.StoreFault.{StoreFault}
use Rattle.pb_store.specs.declared.fault.StoreFault.TheVariants.{Place, NumbersSpent, OutOfMemory}
use Rattle.pb_tool_preview.specs.Foreseeing.{Looks, LookFails}

-- it has its cause
pub look_caused : (key : List ℕ) (e : StoreFault) (old new : Counts) → causes.MayLook e → causes.HasCause e old new → HasCause (named key (step.Store e)) old new
look_caused key (Place fault) old new may cause = cause
look_caused key NumbersSpent old new may cause = absurd may
look_caused key OutOfMemory old new may cause = cause

-- it has the unit's key
pub look_named : (key : List ℕ) (e : StoreFault) → causes.MayLook e → LookFails key (named key (step.Store e))
look_named key (Place fault) may = refl
look_named key NumbersSpent may = absurd may
look_named key OutOfMemory may = tt

-- Looks, one after another.

pub looks_then : {T : Type 0} (result : Result T BuildFault) (old mid new : At) → Looks {T = ℕ} (Ok 0) old mid → Looks result mid new → Looks result old new
looks_then (Ok x) old mid new first second = record {
  world = second.world ∙ first.world;
  most = second.most ∙ first.most;
  starts = second.starts ∙ first.starts;
  cause = second.cause ∙ first.cause;
}
looks_then (Err e) old mid new first second = record {
  world = second.world ∙ first.world;
  most = second.most ∙ first.most;
  starts = second.starts ∙ first.starts;
  cause = cause_after (fault_in e) old.counts mid.counts new.counts first.cause second.cause;
}

-- what is returned does not matter
pub looks_well : {T U : Type 0} (x : T) (y : U) (old new : At) → Looks (Ok x) old new → Looks (Ok y) old new
looks_well x y old new looks = record { world = looks.world; most = looks.most; starts = looks.starts; cause = looks.cause }

pub looks_none : (at : At) → Looks {T = ℕ} (Ok 0) at at
looks_none at = record { world = refl; most = refl; starts = refl; cause = refl }
