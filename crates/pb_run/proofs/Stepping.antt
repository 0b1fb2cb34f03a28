-- Calls of a step of a unit in turn, and the faults that end it.
use Rattle.std.proofs.Common.{◌≡◌, ◌≢◌, ◌∙◌, ◌++◌, inl, inr, ℕ, Bool, true, false, cond, is_some, List, [], ◌∷◌, Result, Ok, Err, sym, ap, subst, append_assoc}
use Rattle.pb_place_types.specs.CallsInTurn.{own_fault, MakesSome, past_calls}
use Rattle.pb_place_types.specs.declared.call.Call.{Call}
use Rattle.pb_place_types.specs.declared.call.Call.TheVariants as call
use Rattle.pb_place_types.specs.Counts.{Counts, past_place_fault}
use Rattle.pb_place_types.specs.declared.place.PlaceFault.{PlaceFault}
use Rattle.pb_place_types.specs.declared.place.PlaceFault.TheVariants as place
use Rattle.pb_place_types.specs.World.{World}
use Rattle.pb_place_types.specs.declared.command.Command.{Command}
use Rattle.pb_place_types.specs.declared.command.Ended.{Ended}
use Rattle.pb_place_types.proofs.CallsInTurn.{fails_left, fails_right, made_both, some_all, some_left, some_none, some_right}
use Rattle.pb_command_reply.specs.Answers.{answered_of}
use Rattle.pb_command.specs.Judge.{file_at}
use Rattle.pb_command_types.specs.Targets.{dep_info_of}
use Rattle.pb_command_types.specs.declared.project.Project.{Project}
use Rattle.pb_record.specs.declared.record.InputName.{InputName}
use Rattle.pb_run.specs.Running.{answered_called, dep_info_looked, judged_called, recorded_called}
use Rattle.pb_run.specs.Outcome.{judgement_by}
use Rattle.pb_run.specs.Invariants.{records_folder}
use Rattle.pb_run.specs.Steps.{NumberingStopsAt, NumbersInTurn, StepStopsAt}
use Rattle.pb_run.specs.declared.begun.Awaited.{Awaited}
use Rattle.pb_run.specs.declared.begun.Awaited.TheVariants as awaited
use Rattle.pb_run.specs.declared.begun.SpawnedChild.{SpawnedChild}
use Rattle.pb_run.specs.declared.faults.StepFault.{StepFault}
use Rattle.pb_run.specs.declared.faults.StepFault.TheVariants.{Store, Start}
use Rattle.pb_run.specs.declared.ran.Validated.{Validated}
use Rattle.pb_run.specs.declared.ran.Ran.{Ran}
use Rattle.pb_store_soundness.specs.Records.{record_path, records}
use Rattle.pb_store.specs.Folder.{lacks_number}
use Rattle.pb_store.specs.Looking as looking
use Rattle.pb_store.specs.Looking.{LooksOrSpent, kept_called, migrated_called}
use Rattle.pb_store.specs.Calls.{fault_in_store}
use Rattle.pb_store.specs.declared.replaying.Replayed.{Replayed}
use Rattle.pb_unit.specs.declared.plan.Planned.{Planned}
use Rattle.pb_store.specs.declared.fault.StoreFault.{StoreFault}
use Rattle.pb_store.specs.declared.fault.StoreFault.TheVariants as store

-- a first step stops it, and no second comes
pub stops_first : (e : StepFault) (a b : List Call) (old new : Counts) → StepStopsAt e a old new → StepStopsAt e (a ++ b) old new
stops_first (Store (store.Place fault)) a b old new is = fails_left fault a b old new is
stops_first (Store store.NumbersSpent) a b old new is = is
stops_first (Store store.OutOfMemory) a b old new is = some_left a b old new is
stops_first (Start fault) a b old new is = is

-- a second step stops it, after a first
pub stops_then : (e : StepFault) (a b : List Call) (old mid new : Counts) → mid ≡ past_calls a old → StepStopsAt e b mid new → StepStopsAt e (a ++ b) old new
stops_then (Store (store.Place fault)) a b old mid new first is = fails_right fault a b old mid new first is
stops_then (Store store.NumbersSpent) a b old mid new first is = is
stops_then (Store store.OutOfMemory) a b old mid new first is = some_right a b old mid new first is
stops_then (Start fault) a b old mid new first is = is

-- memory is refused before the first call, or after the last
pub memory_first : (names : List Call) (c : Counts) → StepStopsAt (Store store.OutOfMemory) names c c
memory_first names c = some_none names c

pub memory_last : (names : List Call) (old new : Counts) → new ≡ past_calls names old → StepStopsAt (Store store.OutOfMemory) names old new
memory_last names old new is = subst (λ c. MakesSome names old c) (sym is) (some_all names old)

-- the one call of the place
pub call_stops : (call : Call) (fault : PlaceFault) (old new : Counts) → (fault ≢ place.OutOfMemory → fault ≡ own_fault call) → new ≡ past_place_fault call fault old → StepStopsAt (Store (fault_in_store fault)) (call ∷ []) old new
call_stops call place.OutOfMemory old new kind is = inr is
call_stops call _ old new kind is = inl (kind (λ e. cc), is)

-- a call of the store
pub store_stops : (e : StoreFault) (names : List Call) (old new : Counts) → looking.StopsAt e names old new → StepStopsAt (Store e) names old new
store_stops (store.Place fault) names old new is = is
store_stops store.NumbersSpent names old new is = is
store_stops store.OutOfMemory names old new is = is

-- Of a step that may give a record a number: where a call stops it, as any other.
numbering_so : (e : StepFault) (calls : List Call) (old new : Counts) → StepStopsAt e calls old new → NumberingStopsAt e calls old new
numbering_so (Store (store.Place fault)) calls old new is = is
numbering_so (Store store.NumbersSpent) calls old new is = absurd is
numbering_so (Store store.OutOfMemory) calls old new is = is
numbering_so (Start fault) calls old new is = is

pub numbering_first : (e : StepFault) (a b : List Call) (old new : Counts) → StepStopsAt e a old new → NumberingStopsAt e (a ++ b) old new
numbering_first e a b old new is = numbering_so e (a ++ b) old new (stops_first e a b old new is)

numbering_then : (e : StepFault) (a b : List Call) (old mid new : Counts) → mid ≡ past_calls a old → NumberingStopsAt e b mid new → NumberingStopsAt e (a ++ b) old new
numbering_then (Store (store.Place fault)) a b old mid new first is = fails_right fault a b old mid new first is
numbering_then (Store store.NumbersSpent) a b old mid new first (before, path, is, made) =
    (a ++ before, path, ap (λ (calls : List Call). a ++ calls) is ∙ sym (append_assoc a before (call.Write path ∷ [])), made_both a before old mid new first made)
numbering_then (Store store.OutOfMemory) a b old mid new first is = some_right a b old mid new first is
numbering_then (Start fault) a b old mid new first is = is

-- it may find no number left, after the reading of the record, which is one without a number
ok_no_err : {T : Type 0} (r : Result T StoreFault) (x : T) (e : StoreFault) → r ≡ Ok x → r ≡ Err e → ⊥
ok_no_err r x e is so = cc

is_err : {T : Type 0} (r : Result T StoreFault) (e f : StoreFault) → r ≡ Err e → r ≡ Err f → e ≡ f
is_err r e f is so = cc

abbrev StopsBeforeWrite : List Call → Counts → Counts → Type 0
StopsBeforeWrite calls old new = (before : List Call) × (path : List ℕ) × (calls ≡ before ++ call.Write path ∷ []) × (new ≡ past_calls before old)

spent_there : (folder key : List ℕ) (lacks : Bool) (old new : Counts) → lacks ≡ true → new ≡ past_calls (call.Read (record_path folder key) ∷ []) old → StopsBeforeWrite (call.Read (record_path folder key) ∷ cond lacks (call.Write (record_path folder key) ∷ []) []) old new
spent_there folder key lacks old new is made = (call.Read (record_path folder key) ∷ [], record_path folder key, ap (λ b. call.Read (record_path folder key) ∷ cond b (call.Write (record_path folder key) ∷ []) []) is, made)

pub migrate_made : {T : Type 0} (r : Result T StoreFault) (x : T) (folder key : List ℕ) (w : World) (old new : Counts) → r ≡ Ok x → LooksOrSpent r (call.Read (record_path folder key) ∷ []) (migrated_called folder key w) old new → new ≡ past_calls (migrated_called folder key w) old
migrate_made r x folder key w old new is (inl (spent, made)) = absurd (ok_no_err r x store.NumbersSpent is spent)
migrate_made r x folder key w old new is (inr made) = subst (λ (o : Result _ StoreFault). looking.Looks o (migrated_called folder key w) old new) is made

pub migrate_stops : {T : Type 0} (r : Result T StoreFault) (e : StoreFault) (folder key : List ℕ) (w : World) (old new : Counts) → r ≡ Err e → (r ≡ Err store.NumbersSpent → lacks_number (records folder w key) ≡ true)
    → LooksOrSpent r (call.Read (record_path folder key) ∷ []) (migrated_called folder key w) old new → NumberingStopsAt (Store e) (migrated_called folder key w) old new
migrate_stops r e folder key w old new is lacks (inl (spent, made)) =
    subst (λ (f : StoreFault). NumberingStopsAt (Store f) (migrated_called folder key w) old new) (sym (is_err r e store.NumbersSpent is spent)) (spent_there folder key (lacks_number (records folder w key)) old new (lacks spent) made)
migrate_stops r e folder key w old new is lacks (inr stops) =
    numbering_so (Store e) (migrated_called folder key w) old new (store_stops e (migrated_called folder key w) old new (subst (λ (o : Result _ StoreFault). looking.Looks o (migrated_called folder key w) old new) is stops))

pub ruleset call_laws = (call_stops, memory_first, memory_last)

-- what came of a unit, and a fault
abbrev pub ended_well : Ran → Result Ran StepFault
ended_well ran = Ok ran

abbrev pub ended_badly : StepFault → Result Ran StepFault
ended_badly fault = Err fault

-- Two steps in turn.
numbers_then : {T : Type 0} (result : Result T StepFault) (a b : List Call) (old mid new : Counts) → mid ≡ past_calls a old → NumbersInTurn result b mid new → NumbersInTurn result (a ++ b) old new
numbers_then (Ok x) a b old mid new first second = made_both a b old mid new first second
numbers_then (Err e) a b old mid new first second = numbering_then e a b old mid new first second

-- What comes after the dep-info, by the judgement of the answer.
module _ (project : Project) (u : Planned) (c : Command) (by : Awaited) (w : World) (ended : Ended) (j : Validated)
    (judged : j ≡ judgement_by project u ended (answered_of project u c ended (file_at (dep_info_of project u) w.files))) (old mid : Counts) (first : mid ≡ past_calls (dep_info_looked (dep_info_of project u)) old) where
  told_of : {T : Type 0} (result : Result T StepFault) (new : Counts) → NumbersInTurn result (judged_called project u c w by j) mid new → NumbersInTurn result (answered_called project u c w by ended) old new
  told_of result new makes =
      subst (λ (x : Validated). NumbersInTurn result (dep_info_looked (dep_info_of project u) ++ judged_called project u c w by x) old new) judged
      (numbers_then result (dep_info_looked (dep_info_of project u)) (judged_called project u c w by j) old mid new first makes)

  -- the unit is bad
  pub bad_made : is_some j.ran.bad ≡ true → mid ≡ past_calls (answered_called project u c w by ended) old
  bad_made bad =
      subst (λ (x : Validated). mid ≡ past_calls (dep_info_looked (dep_info_of project u) ++ judged_called project u c w by x) old) judged
      (made_both (dep_info_looked (dep_info_of project u)) (judged_called project u c w by j) old mid mid first (ap (λ b. past_calls (cond b [] (recorded_called project u c w j.names by)) mid) (sym bad)))

  -- it is good, and just these calls were made then
  pub good_made : {T : Type 0} (result : Result T StepFault) (names : List Call) (new : Counts) → is_some j.ran.bad ≡ false → names ≡ recorded_called project u c w j.names by → NumbersInTurn result names mid new
      → NumbersInTurn result (answered_called project u c w by ended) old new
  good_made result names new good are makes =
      told_of result new (subst (λ b. NumbersInTurn result (cond b [] (recorded_called project u c w j.names by)) mid new) (sym good) (subst (λ (ns : List Call). NumbersInTurn result ns mid new) are makes))

  -- it is good, and a call stopped it then
  pub good_stops : (fault : StepFault) (names : List Call) (new : Counts) → is_some j.ran.bad ≡ false → names ≡ recorded_called project u c w j.names by → StepStopsAt fault names mid new → StepStopsAt fault (answered_called project u c w by ended) old new
  good_stops fault names new good are stops =
      subst (λ (x : Validated). StepStopsAt fault (dep_info_looked (dep_info_of project u) ++ judged_called project u c w by x) old new) judged
      (stops_then fault (dep_info_looked (dep_info_of project u)) (judged_called project u c w by j) old mid new first
      (subst (λ b. StepStopsAt fault (cond b [] (recorded_called project u c w j.names by)) mid new) (sym good) (subst (λ (ns : List Call). StepStopsAt fault ns mid new) are stops)))

-- the record is kept; it has a number; it is given one
pub kept_so : (project : Project) (u : Planned) (c : Command) (l : SpawnedChild) (folder key : List ℕ) (v w : World) (names told : List InputName) → folder ≡ records_folder project → key ≡ u.key → v ≡ w → names ≡ told
    → kept_called folder key c.target v names ≡ recorded_called project u c w told (awaited.Child l)
kept_so project u c l folder key v w names told is its same are =
    ap (λ (f : List ℕ). kept_called f key c.target v names) is
    ∙ ap (λ (k : List ℕ). kept_called (records_folder project) k c.target v names) its
    ∙ ap (λ (x : World). kept_called (records_folder project) u.key c.target x names) same
    ∙ ap (λ (ns : List InputName). kept_called (records_folder project) u.key c.target w ns) are

pub numbered_so : (project : Project) (u : Planned) (c : Command) (again : Replayed) (w : World) (told : List InputName) → again.numbered ≡ true → [] ≡ recorded_called project u c w told (awaited.Record again)
numbered_so project u c again w told is = ap (λ b. cond b [] (migrated_called (records_folder project) u.key w)) (sym is)

pub renewed_names : (project : Project) (u : Planned) (c : Command) (again : Replayed) (folder key : List ℕ) (v w : World) (told : List InputName) → folder ≡ records_folder project → key ≡ u.key → v ≡ w → again.numbered ≡ false
    → migrated_called folder key v ≡ recorded_called project u c w told (awaited.Record again)
renewed_names project u c again folder key v w told is its same lacks =
    ap (λ (f : List ℕ). migrated_called f key v) is
    ∙ ap (λ (k : List ℕ). migrated_called (records_folder project) k v) its
    ∙ ap (λ (x : World). migrated_called (records_folder project) u.key x) same
    ∙ ap (λ b. cond b [] (migrated_called (records_folder project) u.key w)) (sym lacks)
