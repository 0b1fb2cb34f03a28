-- Run numbers, along a story.
use Rattle.std.proofs.Common.{◌≡◌, ◌≢◌, ◌∙◌, ◌++◌, ◌⊎◌, ◌==◌, inl, inr, IsTrue, Bool, true, false, List, [], ◌∷◌, ℕ, zero, suc, Option, Some, None, IsSome, Contains, if◌then◌else◌, is_some, refl, sym, ap, subst, slice_get, slice_set, eq-eqb, eqb-true}
use Rattle.std.proofs.lemmas.Bool.{cases_eq, ne_eqb, false≢true}
use Rattle.std.specs.List.{AllByRecursion}
use Rattle.std.specs.Prelude.{MatchOption}
use Rattle.pb_build_result.specs.declared.bad_unit.BadUnit.{BadUnit}
use Rattle.pb_build_result.specs.declared.fault.BuildFault.{BuildFault}
use Rattle.pb_build_result.specs.declared.fault.BuildFault.TheVariants.{Plan, Toolchain, Child, Device, Sink, OutOfMemory}
use Rattle.pb_build_result.specs.declared.fault.DeviceFault.TheVariants.{Place, NumbersSpent}
use Rattle.pb_run_flight.specs.declared.flight.Answer.{Answer}
use Rattle.pb_run_flight.proofs.Lists.{injective, clash, contains_head, contains_tail, contains_cases, contains_none, at_contains, get_set_same, get_set_other}
use Rattle.pb_run_flight.specs.declared.flight.State.TheVariants.{Begun, Answered}
use Rattle.pb_run_flight.specs.Events as lawful
use Rattle.pb_run_flight.specs.Events.{Event, Began, Gave, IsLawful, launched_after, states_after, without}
use Rattle.pb_run_flight.specs.Table.{if_so}
use Rattle.pb_place_types.specs.Counts.{Starts}
use Rattle.pb_place_types.specs.World.{Answers}
use Rattle.pb_command_types.specs.Targets.{unit_at}
use Rattle.pb_run.proofs.Naming.{MayAnswerUnit}
use Rattle.pb_run.specs.UnitSteps.{awaits_number, child_of}
use Rattle.pb_run.specs.Invariants.{records_folder}
use Rattle.pb_run.specs.declared.begun.SpawnedChild.{SpawnedChild}
use Rattle.pb_run.specs.declared.ran.Ran.{Ran}
use Rattle.pb_store_soundness.specs.Numbers.{after}
use Rattle.pb_store_soundness.specs.Records.{records}
use Rattle.pb_store.specs.Folder.{TakesNext, TakesNumber, lacks_number}
use Rattle.pb_build_turns.proofs.Lists.{all_get, differs, get_map}
use Rattle.pb_build_turns.proofs.Waiting.{carries_none, carries_number}
use Rattle.pb_build_turns.specs.Calling.{CarriesAgain, FliesAgain}
use Rattle.pb_build_turns.specs.Executor.{AreApart, launched_of, index_of_unit, indices_of, BuildState}
use Rattle.pb_build_turns.specs.Rows.{is_started}
use Rattle.pb_build_turns.specs.History.{LacksNumber, NumbersGiven, Spends, History}
use Rattle.pb_build_turns.specs.declared.executor.RunningUnit.{RunningUnit}
use Rattle.pb_build_turns.specs.declared.executor.UnitExecutor.{UnitExecutor}
use Rattle.pb_unit.specs.declared.plan.Planned.{Planned}

-- a unit has begun
pub numbers_begun : (Lacks : ℕ → Bool → Type 0) (es : List (Event BadUnit)) (first now next : Option ℕ) (unit : ℕ) (o : Option SpawnedChild) → MatchOption o (next ≡ now) (λ launched. (now ≡ Some launched.number) × (next ≡ after launched.number))
    → NumbersGiven Lacks es first now → NumbersGiven Lacks (Began unit (is_some o) ∷ es) first next
numbers_begun Lacks es first now next unit None same numbers = subst (NumbersGiven Lacks es first) (sym same) numbers
numbers_begun Lacks es first now next unit (Some l) taken numbers = (now, numbers, (l.number, taken.0, taken.1))

pub some_or_none : (o : Option SpawnedChild) → IsSome o ⊎ (o ≡ None)
some_or_none None = inr refl
some_or_none (Some l) = inl refl

-- a unit whose child flies is in flight
launched_flies : (running : List RunningUnit) (n : ℕ) → Contains (launched_of running) n → Contains (indices_of running) n
launched_flies [] n has = has
launched_flies (x ∷ running) n has = by (child_of x.begun) (λ more. launched_flies running n more) has
  where
    by : (o : Option SpawnedChild) → (Contains (launched_of running) n → Contains (indices_of running) n) → Contains (if_so (is_some o) x.unit ++ launched_of running) n → Contains (x.unit ∷ indices_of running) n
    by None flies more = contains_tail x.unit (indices_of running) n (flies more)
    by (Some l) flies more = elim (contains_cases x.unit (launched_of running) n more) [
      | inl same ↦ subst (λ m. Contains (m ∷ indices_of running) n) (sym same) (contains_head n (indices_of running))
      | inr rest ↦ contains_tail x.unit (indices_of running) n (flies rest)
    ]

-- one in flight that is among those whose children fly has a child
pub has_child : (running : List RunningUnit) (index : ℕ) (a : RunningUnit) → AreApart (indices_of running) → slice_get running index ≡ Some a → Contains (launched_of running) a.unit → IsSome (child_of a.begun)
has_child [] index a apart at has = absurd (clash at)
has_child (x ∷ running) zero a apart at has = elim (some_or_none (child_of a.begun)) [
  | inl some ↦ some
  | inr none ↦ absurd (differs a.unit a.unit (indices_of running) (subst (λ (y : RunningUnit). AllByRecursion (λ m. y.unit ≢ m) (indices_of running)) same apart.0) (launched_flies running a.unit (left none)) refl)
]
  where
    same : x ≡ a
    same = injective at

    left : child_of a.begun ≡ None → Contains (launched_of running) a.unit
    left none = subst (λ (o : Option SpawnedChild). Contains (if_so (is_some o) x.unit ++ launched_of running) a.unit) (ap (λ (y : RunningUnit). child_of y.begun) same ∙ none) has
has_child (x ∷ running) (suc index) a apart at has = has_child running index a apart.1 at (by (child_of x.begun) has)
  where
    other : x.unit ≢ a.unit
    other = differs x.unit a.unit (indices_of running) apart.0 (at_contains (indices_of running) index a.unit (get_map index_of_unit running index a at))

    by : (o : Option SpawnedChild) → Contains (if_so (is_some o) x.unit ++ launched_of running) a.unit → Contains (launched_of running) a.unit
    by None more = more
    by (Some l) more = elim (contains_cases x.unit (launched_of running) a.unit more) [
      | inl same ↦ absurd (other same)
      | inr rest ↦ rest
    ]

last_has : (ls : List ℕ) (n : ℕ) → Contains (ls ++ n ∷ []) n
last_has [] n = contains_head n []
last_has (m ∷ ls) n = contains_tail m (ls ++ n ∷ []) n (last_has ls n)

left_has : (ls ms : List ℕ) (n : ℕ) → Contains ls n → Contains (ls ++ ms) n
left_has [] ms n has = absurd (contains_none n has)
left_has (m ∷ ls) ms n has = elim (contains_cases m ls n has) [
  | inl same ↦ subst (λ k. Contains (k ∷ (ls ++ ms)) n) (sym same) (contains_head n (ls ++ ms))
  | inr more ↦ contains_tail m (ls ++ ms) n (left_has ls ms n more)
]

other_has : (u n : ℕ) (ls : List ℕ) → u ≢ n → Contains ls n → Contains (without u ls) n
other_has u n [] ne has = has
other_has u n (m ∷ ls) ne has = by (m == u) refl (λ more. other_has u n ls ne more) (contains_cases m ls n has)
  where
    by : (b : Bool) → (m == u) ≡ b → (Contains ls n → Contains (without u ls) n) → (m ≡ n) ⊎ Contains ls n → Contains (if b then ls else (m ∷ without u ls)) n
    by true is stays (inl same) = absurd (ne (sym (eqb-true m u is) ∙ same))
    by true is stays (inr more) = more
    by false is stays (inl same) = subst (λ k. Contains (k ∷ without u ls) n) (sym same) (contains_head n (without u ls))
    by false is stays (inr more) = contains_tail m (without u ls) n (stays more)

-- a unit in flight for which a child was started is among those whose children fly
pub started_flies : (needs : List (List ℕ)) (es : List (Event BadUnit)) (unit : ℕ) → IsLawful needs es → slice_get (states_after needs es) unit ≡ Some Begun → is_started es unit ≡ true → Contains (launched_after es) unit
started_flies needs _ unit lawful.nothing begun started = absurd (false≢true started)
started_flies needs _ unit (lawful.begin es u spawned before may) begun started = elim (cases_eq u unit) [
  | inl same ↦ subst (λ n. Contains (launched_after es ++ if_so spawned n) unit) (sym same)
      (subst (λ b. Contains (launched_after es ++ if_so b unit) unit) (sym (sym (ap (λ b. if b then spawned else is_started es unit) (eq-eqb u unit same)) ∙ started)) (last_has (launched_after es) unit))
  | inr ne ↦ left_has (launched_after es) (if_so spawned u) unit
      (started_flies needs es unit before (sym (get_set_other (states_after needs es) u unit Begun ne) ∙ begun) (sym (ap (λ b. if b then spawned else is_started es unit) (ne_eqb u unit ne)) ∙ started))
]
started_flies needs _ unit (lawful.answer es u given before flying gives) begun started = elim (cases_eq u unit) [
  | inl same ↦ let is : slice_get (states_after needs es) unit ≡ Some Begun = subst (λ n. slice_get (states_after needs es) n ≡ Some Begun) same flying in
      absurd (no_answer given (injective (sym (get_set_same (states_after needs es) unit Begun (Answered given) is) ∙ subst (λ n. slice_get (slice_set (states_after needs es) n (Answered given)) unit ≡ Some Begun) same begun)))
  | inr ne ↦ other_has u unit (launched_after es) ne (started_flies needs es unit before (sym (get_set_other (states_after needs es) u unit (Answered given) ne) ∙ begun) started)
]
  where
    no_answer : (given : Answer BadUnit) → Answered given ≡ Begun → ⊥
    no_answer given e = cc

-- a fault came in place of an answer
pub spends_answered : (Lacks : ℕ → Bool → Type 0) (es : List (Event BadUnit)) (first now : Option ℕ) (key : List ℕ) (launched : Option SpawnedChild) (e : BuildFault) (old new : Starts) → MayAnswerUnit now key launched e old new → NumbersGiven Lacks es first now → Spends Lacks e first es
spends_answered Lacks es first now key launched (Plan why) old new may numbers = tt
spends_answered Lacks es first now key launched Toolchain old new may numbers = tt
spends_answered Lacks es first now key launched (Child unit fault) old new may numbers = tt
spends_answered Lacks es first now key launched (Device unit (Place fault)) old new may numbers = tt
spends_answered Lacks es first now key launched (Device unit NumbersSpent) old new may numbers = subst (NumbersGiven Lacks es first) may.1 numbers
spends_answered Lacks es first now key launched Sink old new may numbers = tt
spends_answered Lacks es first now key launched OutOfMemory old new may numbers = tt

-- The numbers along a story, over a modelled place.

pub begun_taken : (is_modelled : Bool) (child : Answers) (first old : UnitExecutor) (at now : BuildState) (still : ℕ → Type 0) (es : List (Event BadUnit)) (given unit : ℕ) → History is_modelled child first at old now still es given
    → (next : Option ℕ) (o : Option SpawnedChild) → MatchOption o (next ≡ old.store.next) (λ launched. (old.store.next ≡ Some launched.number) × (next ≡ after launched.number))
    → IsTrue is_modelled → NumbersGiven (LacksNumber old.project at.world) (Began unit (is_some o) ∷ es) first.store.next next
begun_taken is_modelled child first old at now still es given unit story next o number t =
    numbers_begun (LacksNumber old.project at.world) es first.store.next old.store.next next unit o number (story.taken t)

module _ (is_modelled : Bool) (child : Answers) (first old : UnitExecutor) (at now : BuildState) (still : ℕ → Type 0) (es : List (Event BadUnit)) (given : ℕ) (story : History is_modelled child first at old now still es given)
    (index : ℕ) (a : RunningUnit) (u : Planned) (at_index : slice_get old.running.items index ≡ Some a) (there : unit_at old.project a.unit ≡ Some u) (started : is_started es a.unit ≡ is_some (child_of a.begun)) where
  carries_its : IsTrue is_modelled → CarriesAgain old.setup old.project old.done.items at.world now.world u a.begun.command a.begun.awaited
  carries_its t = all_get (λ (x : RunningUnit). FliesAgain old.setup old.project old.done.items at.world now.world x) old.running.items index a ((story.again t).waits) at_index u there

  -- one that has no child, and whose record lacked a number, takes the next
  pub lacked_taken : (ran : Ran) (next : Option ℕ) → (IsTrue is_modelled → awaits_number a.begun.awaited ≡ true → lacks_number (records (records_folder old.project) now.world u.key) ≡ true → is_some ran.bad ≡ false → TakesNext old.store.next next)
      → IsTrue is_modelled → is_started es a.unit ≡ false → ran.bad ≡ None → lacks_number (records (records_folder old.project) at.world u.key) ≡ true → TakesNext old.store.next next
  lacked_taken ran next taken t none good lacks =
      let (waits, lacks_now) = carries_none old.setup old.project old.done.items at.world now.world u a.begun.command a.begun.awaited (sym started ∙ none) (carries_its t) lacks in
      taken t waits lacks_now (ap is_some good)

  pub answered_taken : (ran : Ran) (lines : List ℕ) (next : Option ℕ) → TakesNumber old.store.next next
      → (is_started es a.unit ≡ true → next ≡ old.store.next) → (IsSome ran.bad → next ≡ old.store.next) → (awaits_number a.begun.awaited ≡ false → next ≡ old.store.next)
      → (IsTrue is_modelled → awaits_number a.begun.awaited ≡ true → lacks_number (records (records_folder old.project) now.world u.key) ≡ true → is_some ran.bad ≡ false → TakesNext old.store.next next)
      → IsTrue is_modelled → NumbersGiven (LacksNumber old.project at.world) (Gave a.unit record { fault = ran.bad; lines = lines } ∷ es) first.store.next next
  answered_taken ran lines next takes none bad untaken taken t = (
    old.store.next,
    story.taken t,
    record {
      at_most = takes;
      child = none;
      bad = bad;
      had = λ had. untaken (carries_number old.setup old.project old.done.items at.world now.world u a.begun.command a.begun.awaited (carries_its t) (had u there));
      lacked = λ alone good lacks. lacked_taken ran next taken t alone good (lacks u there);
    },
  )
