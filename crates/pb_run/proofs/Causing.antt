-- The fault of a call of the store or of the place, as that of a step of a unit.
use Rattle.std.proofs.Common.{◌≡◌, ◌≢◌, ◌⊎◌, ℕ, false, Option, Some, None, Err, refl, sym, ap, subst, inl, inr}
use Rattle.pb_place_types.specs.CallsInTurn.{own_fault}
use Rattle.pb_place_types.specs.Counts.{Counts, Starts, counted_spawn, past_place_fault}
use Rattle.pb_place_types.specs.declared.call.Call.{Call}
use Rattle.pb_place_types.specs.declared.call.Call.TheVariants as call
use Rattle.pb_place_types.specs.declared.child_in_flight.ChildInFlight.{ChildInFlight}
use Rattle.pb_place_types.specs.declared.place.PlaceFault.{PlaceFault}
use Rattle.pb_place_types.specs.declared.place.PlaceFault.TheVariants as place
use Rattle.pb_place_types.specs.declared.place.StartFault.{StartFault}
use Rattle.pb_place_types.specs.declared.place.StartFault.TheVariants as start
use Rattle.pb_run.specs.Steps.{started, MayAnswer, BeginFaults, MayFollow, MayRemove, StepCause, starts}
use Rattle.pb_run.specs.declared.faults.StepFault.{StepFault}
use Rattle.pb_run.specs.declared.faults.StepFault.TheVariants.{Store, Start}
use Rattle.pb_store.specs.Calls as causes
use Rattle.pb_store.specs.Calls.{fault_in_store}
use Rattle.pb_store.specs.declared.fault.StoreFault.{StoreFault}
use Rattle.pb_store.specs.declared.fault.StoreFault.TheVariants as store

-- the faults differ
read_no_write : place.Read ≡ place.Write → ⊥
read_no_write e = cc

list_no_write : place.List ≡ place.Write → ⊥
list_no_write e = cc

remove_no_write : place.Remove ≡ place.Write → ⊥
remove_no_write e = cc

variable_no_write : place.Variable ≡ place.Write → ⊥
variable_no_write e = cc

read_no_remove : place.Read ≡ place.Remove → ⊥
read_no_remove e = cc

list_no_remove : place.List ≡ place.Remove → ⊥
list_no_remove e = cc

write_no_remove : place.Write ≡ place.Remove → ⊥
write_no_remove e = cc

variable_no_remove : place.Variable ≡ place.Remove → ⊥
variable_no_remove e = cc

-- one of three
by_three : {F : Type 0} (P : F → Type 0) (f a b c : F) → P a → P b → P c → (f ≡ a) ⊎ ((f ≡ b) ⊎ (f ≡ c)) → P f
by_three P f a b c at_a at_b at_c may = elim may [
  | inl e ↦ subst P (sym e) at_a
  | inr more ↦ elim more [
    | inl e ↦ subst P (sym e) at_b
    | inr e ↦ subst P (sym e) at_c
  ]
]

-- that a unit's begin may end with a fault, which has its cause; that a step after the answer may; and that its answer may
abbrev TellsBegin : Option ℕ → Counts → Counts → StepFault → Type 0
TellsBegin next old new e = BeginFaults next e old.starts new.starts × StepCause e old new

abbrev TellsFollow : Counts → Counts → StepFault → Type 0
TellsFollow old new e = MayFollow e old.starts new.starts × StepCause e old new

-- a call of the store that looks for a difference
pub look_told : (next : Option ℕ) (e : StoreFault) (old new : Counts) → (new.starts ≡ old.starts) × (causes.MayLook e × causes.HasCause e old new) → TellsBegin next old new (Store e)
look_told next (store.Place f) old new (same, (may, cause)) =
    ((by_three (λ (g : PlaceFault). g ≢ place.Write) f place.Read place.List place.Variable read_no_write list_no_write variable_no_write may, same), cause)
look_told next store.NumbersSpent old new (same, (may, cause)) = absurd may
look_told next store.OutOfMemory old new (same, (may, cause)) = (inl same, cause)

-- its fault is none of a start
pub look_none : (e : StoreFault) → causes.MayLook e → starts (Store e) ≡ false
look_none (store.Place f) may = by_three (λ (g : PlaceFault). starts (Store (store.Place g)) ≡ false) f place.Read place.List place.Variable refl refl refl may
look_none store.NumbersSpent may = absurd may
look_none store.OutOfMemory may = refl

-- one that takes a number and removes a record
pub drop_told : (next : Option ℕ) (e : StoreFault) (old new : Counts) → (new.starts ≡ old.starts) × (causes.MayDrop next e × causes.HasCause e old new) → TellsBegin next old new (Store e)
drop_told None (store.Place f) old new (same, (may, cause)) = absurd may
drop_told None store.NumbersSpent old new (same, (may, cause)) = ((refl, same), cause)
drop_told None store.OutOfMemory old new (same, (may, cause)) = absurd may
drop_told (Some n) (store.Place f) old new (same, (may, cause)) = ((subst (λ (g : PlaceFault). g ≢ place.Write) (sym may) remove_no_write, same), cause)
drop_told (Some n) store.NumbersSpent old new (same, (may, cause)) = absurd may
drop_told (Some n) store.OutOfMemory old new (same, (may, cause)) = (inl same, cause)

-- `spawn` of the place
pub spawn_told : (next : Option ℕ) (e : StartFault) (spawned : ℕ → ChildInFlight) (old new : Counts) → (e ≢ start.OutOfMemory → e ≡ start.CannotStart) → new ≡ counted_spawn spawned (Err e) old → TellsBegin next old new (started e)
spawn_told next start.CannotStart spawned old new may counts =
    ((refl, ap (λ (c : Counts). c.starts) counts), (ap (λ (c : Counts). c.failures) counts, ap (λ (c : Counts). c.late) counts, ap (λ (c : Counts). c.last) counts))
spawn_told next start.Died spawned old new may counts = absurd (no_died (may no_memory))
  where
    no_memory : start.Died ≡ start.OutOfMemory → ⊥
    no_memory e = cc

    no_died : start.Died ≡ start.CannotStart → ⊥
    no_died e = cc
spawn_told next start.Capture spawned old new may counts = absurd (no_capture (may no_memory))
  where
    no_memory : start.Capture ≡ start.OutOfMemory → ⊥
    no_memory e = cc

    no_capture : start.Capture ≡ start.CannotStart → ⊥
    no_capture e = cc
spawn_told next start.OutOfMemory spawned old new may counts = (inr (ap (λ (c : Counts). c.starts) counts), ap (λ (c : Counts). c.failures) counts)

-- A call of the place on files or variables.

-- its cause
place_cause : (call : Call) (f : PlaceFault) (old new : Counts) → new ≡ past_place_fault call f old → StepCause (Store (fault_in_store f)) old new
place_cause call place.OutOfMemory old new counts = ap (λ (c : Counts). c.failures) counts
place_cause call _ old new counts = (ap (λ (c : Counts). c.failures) counts, ap (λ (c : Counts). c.late) counts, ap (λ (c : Counts). c.last) counts)

place_starts : (call : Call) (f : PlaceFault) (old new : Counts) → new ≡ past_place_fault call f old → new.starts ≡ old.starts
place_starts call place.Read old new counts = ap (λ (c : Counts). c.starts) counts
place_starts call place.List old new counts = ap (λ (c : Counts). c.starts) counts
place_starts call place.Write old new counts = ap (λ (c : Counts). c.starts) counts
place_starts call place.Remove old new counts = ap (λ (c : Counts). c.starts) counts
place_starts call place.Variable old new counts = ap (λ (c : Counts). c.starts) counts
place_starts call place.OutOfMemory old new counts = ap (λ (c : Counts). c.starts) counts

-- one that removes files
may_remove : (f : PlaceFault) (old new : Starts) → (f ≢ place.OutOfMemory → f ≡ place.Remove) → new ≡ old → MayRemove (Store (fault_in_store f)) old new
may_remove place.OutOfMemory old new kind same = same
may_remove _ old new kind same = (kind (λ e. cc), same)

pub remove_told : (path : _) (f : PlaceFault) (old new : Counts) → (f ≢ place.OutOfMemory → f ≡ own_fault (call.Remove path)) → new ≡ past_place_fault (call.Remove path) f old
    → MayRemove (Store (fault_in_store f)) old.starts new.starts × StepCause (Store (fault_in_store f)) old new
remove_told path f old new kind counts = (may_remove f old.starts new.starts kind (place_starts (call.Remove path) f old new counts), place_cause (call.Remove path) f old new counts)

-- a step that removes the unit's files, as one of its begin
pub removed_told : (next : Option ℕ) (e : StepFault) (old new : Starts) → MayRemove e old new → BeginFaults next e old new
removed_told next (Store (store.Place fault)) old new may = (subst (λ f. f ≢ place.Write) (sym may.0) remove_no_write, may.1)
removed_told next (Store store.NumbersSpent) old new may = absurd may
removed_told next (Store store.OutOfMemory) old new may = inl may
removed_told next (Start fault) old new may = absurd may

-- one that reads a file
may_read : (f : PlaceFault) (old new : Starts) → (f ≢ place.OutOfMemory → f ≡ place.Read) → new ≡ old → MayFollow (Store (fault_in_store f)) old new
may_read place.Read old new kind same = (read_no_remove, same)
may_read place.List old new kind same = (list_no_remove, same)
may_read place.Write old new kind same = (write_no_remove, same)
may_read place.Remove old new kind same = absurd (no_read (kind no_memory))
  where
    no_memory : place.Remove ≡ place.OutOfMemory → ⊥
    no_memory e = cc

    no_read : place.Remove ≡ place.Read → ⊥
    no_read e = cc
may_read place.Variable old new kind same = (variable_no_remove, same)
may_read place.OutOfMemory old new kind same = same

pub read_told : (path : _) (f : PlaceFault) (old new : Counts) → (f ≢ place.OutOfMemory → f ≡ own_fault (call.Read path)) → new ≡ past_place_fault (call.Read path) f old → TellsFollow old new (Store (fault_in_store f))
read_told path f old new kind counts = (may_read f old.starts new.starts kind (place_starts (call.Read path) f old new counts), place_cause (call.Read path) f old new counts)

-- a call of the store that keeps a record
pub keep_told : (e : StoreFault) (old new : Counts) → (new.starts ≡ old.starts) × (causes.MayKeep e × causes.HasCause e old new) → TellsFollow old new (Store e)
keep_told (store.Place f) old new (same, (may, cause)) = elim may [
  | inl e ↦ ((subst (λ (g : PlaceFault). g ≢ place.Remove) (sym e) write_no_remove, same), cause)
  | inr look ↦ ((by_three (λ (g : PlaceFault). g ≢ place.Remove) f place.Read place.List place.Variable read_no_remove list_no_remove variable_no_remove look, same), cause)
]
keep_told store.NumbersSpent old new (same, (may, cause)) = absurd may
keep_told store.OutOfMemory old new (same, (may, cause)) = (same, cause)

-- and one that gives a record a number
pub migrate_told : (next : Option ℕ) (e : StoreFault) (old new : Counts) → (new.starts ≡ old.starts) × (causes.MayMigrate next e × causes.HasCause e old new) → MayAnswer next None (Store e) old.starts new.starts × StepCause (Store e) old new
migrate_told next (store.Place f) old new (same, (may, cause)) = elim may [
  | inl e ↦ ((subst (λ (g : PlaceFault). g ≢ place.Remove) (sym e) write_no_remove, same), cause)
  | inr e ↦ ((subst (λ (g : PlaceFault). g ≢ place.Remove) (sym e) read_no_remove, same), cause)
]
migrate_told next store.NumbersSpent old new (same, (may, cause)) = ((may, refl, same), cause)
migrate_told next store.OutOfMemory old new (same, (may, cause)) = (same, cause)

pub ruleset look_laws = (look_told, look_none)

pub ruleset remove_laws = (remove_told)

pub ruleset read_laws = (read_told)
