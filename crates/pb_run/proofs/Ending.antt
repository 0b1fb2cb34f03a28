-- The counters over the end of a child and the calls after it.
use Rattle.std.proofs.Common.{◌≡◌, ◌≢◌, ◌⊎◌, ◌∙◌, ℕ, Option, Some, None, refl, ap, subst, inl, inr}
use Rattle.pb_place_types.specs.Counts.{Counts, Starts, up, landed, past_finish_fault}
use Rattle.pb_place_types.specs.declared.place.StartFault.{StartFault}
use Rattle.pb_place_types.specs.declared.place.StartFault.TheVariants as start
use Rattle.pb_run.specs.Steps.{StartsRise, LandsBy, started, MayAnswer, BeginFaults, MayFollow, StepCause}
use Rattle.pb_run.specs.declared.begun.SpawnedChild.{SpawnedChild}
use Rattle.pb_run.specs.declared.faults.StepFault.{StepFault}
use Rattle.pb_run.specs.declared.faults.StepFault.TheVariants.{Store, Start}
use Rattle.pb_store.specs.declared.fault.StoreFault.TheVariants.{Place, NumbersSpent, OutOfMemory}

-- that the answer of a unit may end with a fault, which has its cause
abbrev pub TellsAnswer : Option ℕ → Option SpawnedChild → Counts → Counts → StepFault → Type 0
TellsAnswer next launched old new e = MayAnswer next launched e old.starts new.starts × StepCause e old new

pub finish_lands : (l : SpawnedChild) (old new : Counts) → new ≡ landed l.ticket old → (new.failures ≡ old.failures) × LandsBy (Some l) old.starts new.starts
finish_lands l old new counts = (ap (λ (c : Counts). c.failures) counts, ap (λ (c : Counts). c.starts) counts)

pub finish_told : (next : Option ℕ) (l : SpawnedChild) (e : StartFault) (old new : Counts) → (e ≢ start.OutOfMemory → (e ≡ start.Died) ⊎ (e ≡ start.Capture)) → new ≡ past_finish_fault e (landed l.ticket old) → TellsAnswer next (Some l) old new (started e)
finish_told next l start.CannotStart old new may counts = elim (may no_memory) [
  | inl e ↦ absurd (no_died e)
  | inr e ↦ absurd (no_capture e)
]
  where
    no_memory : start.CannotStart ≡ start.OutOfMemory → ⊥
    no_memory e = cc

    no_died : start.CannotStart ≡ start.Died → ⊥
    no_died e = cc

    no_capture : start.CannotStart ≡ start.Capture → ⊥
    no_capture e = cc
finish_told next l start.Died old new may counts =
    ((refl, inl refl, ap (λ (c : Counts). c.starts) counts), (ap (λ (c : Counts). c.failures) counts, ap (λ (c : Counts). c.late) counts, ap (λ (c : Counts). c.last) counts))
finish_told next l start.Capture old new may counts =
    ((refl, inr refl, ap (λ (c : Counts). c.starts) counts), (ap (λ (c : Counts). c.failures) counts, ap (λ (c : Counts). c.late) counts, ap (λ (c : Counts). c.last) counts))
finish_told next l start.OutOfMemory old new may counts = (ap (λ (c : Counts). c.starts) counts, ap (λ (c : Counts). c.failures) counts)

-- a cause stays one where no call failed before
pub cause_after : (e : StepFault) (old mid new : Counts) → mid.failures ≡ old.failures → StepCause e mid new → StepCause e old new
cause_after (Store (Place fault)) old mid new same cause = (cause.0 ∙ ap up same, cause.1, cause.2)
cause_after (Store NumbersSpent) old mid new same cause = cause ∙ same
cause_after (Store OutOfMemory) old mid new same cause = cause ∙ same
cause_after (Start fault) old mid new same cause = (cause.0 ∙ ap up same, cause.1, cause.2)

-- a child that is spawned after calls that start none
pub lifted_after : (ticket : ℕ) (old mid new : Counts) → mid.failures ≡ old.failures → mid.starts ≡ old.starts → (new.failures ≡ mid.failures) × StartsRise ticket mid.starts new.starts → (new.failures ≡ old.failures) × StartsRise ticket old.starts new.starts
lifted_after ticket old mid new failures same second = (second.0 ∙ failures, subst (λ (s : Starts). StartsRise ticket s new.starts) same second.1)

pub begun_after : (next : Option ℕ) (e : StepFault) (old mid new : Counts) → mid.failures ≡ old.failures → mid.starts ≡ old.starts → BeginFaults next e mid.starts new.starts × StepCause e mid new → BeginFaults next e old.starts new.starts × StepCause e old new
begun_after next e old mid new failures same second = (subst (λ (s : Starts). BeginFaults next e s new.starts) same second.0, cause_after e old mid new failures second.1)

-- a fault of a call after the child's end
follow_landed : (next : Option ℕ) (l : SpawnedChild) (e : StepFault) (old mid new : Starts) → LandsBy (Some l) old mid → MayFollow e mid new → MayAnswer next (Some l) e old new
follow_landed next l (Store (Place fault)) old mid new lands (kind, same) = (kind, same ∙ lands)
follow_landed next l (Store NumbersSpent) old mid new lands may = absurd may
follow_landed next l (Store OutOfMemory) old mid new lands may = may ∙ lands
follow_landed next l (Start fault) old mid new lands may = absurd may

pub landed_told : (next : Option ℕ) (l : SpawnedChild) (e : StepFault) (old mid new : Counts) → (mid.failures ≡ old.failures) × LandsBy (Some l) old.starts mid.starts → MayFollow e mid.starts new.starts × StepCause e mid new → TellsAnswer next (Some l) old new e
landed_told next l e old mid new first second = (follow_landed next l e old.starts mid.starts new.starts first.1 second.0, cause_after e old mid new first.0 second.1)

pub landed_more : (next : Option ℕ) (l : SpawnedChild) (e : StepFault) (old mid last new : Counts) → (mid.failures ≡ old.failures) × LandsBy (Some l) old.starts mid.starts → (last.failures ≡ mid.failures) × (last.starts ≡ mid.starts)
    → MayFollow e last.starts new.starts × StepCause e last new → TellsAnswer next (Some l) old new e
landed_more next l e old mid last new first between second = landed_told next l e old last new (between.0 ∙ first.0, between.1 ∙ first.1) second

-- a fault of a call in place of it
follow_alone : (next : Option ℕ) (e : StepFault) (old new : Starts) → MayFollow e old new → MayAnswer next None e old new
follow_alone next (Store (Place fault)) old new may = may
follow_alone next (Store NumbersSpent) old new may = absurd may
follow_alone next (Store OutOfMemory) old new may = may
follow_alone next (Start fault) old new may = absurd may

pub alone_told : (next : Option ℕ) (e : StepFault) (old new : Counts) → MayFollow e old.starts new.starts × StepCause e old new → TellsAnswer next None old new e
alone_told next e old new (may, cause) = (follow_alone next e old.starts new.starts may, cause)

pub alone_more : (next : Option ℕ) (e : StepFault) (old mid new : Counts) → (mid.failures ≡ old.failures) × (mid.starts ≡ old.starts) → TellsAnswer next None mid new e → TellsAnswer next None old new e
alone_more next e old mid new first second = (subst (λ (s : Starts). MayAnswer next None e s new.starts) first.1 second.0, cause_after e old mid new first.0 second.1)

pub ruleset finish_laws = (finish_lands, finish_told)
