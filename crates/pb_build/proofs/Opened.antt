-- A call that failed behind the query, before the units, is one by which the records are opened.
use Rattle.std.proofs.Common.{◌≡◌, ◌≢◌, ◌∙◌, ◌⊎◌, if◌then◌else◌, inl, inr, ℕ, true, List, [], ◌∷◌, Contains, ap, sym, subst, refl, arith}
use Rattle.std.proofs.lemmas.Bool.{cases_eq, ne_eqb}
use Rattle.pb_build_result.specs.declared.fault.BuildFault.{BuildFault}
use Rattle.pb_build_result.specs.declared.fault.BuildFault.TheVariants.{Plan, Toolchain, Child, Device, Sink, OutOfMemory}
use Rattle.pb_build_result.specs.declared.fault.DeviceFault.TheVariants as device
use Rattle.pb_run_flight.proofs.Lists.{contains_head, contains_tail}
use Rattle.pb_workspace_types.specs.declared.options.Options.{Options}
use Rattle.pb_place_types.proofs.Failing.{call_tells_fault}
use Rattle.pb_place_types.specs.CallsInTurn.{FailsAt, own_fault, past_calls}
use Rattle.pb_place_types.specs.declared.call.Call.{Call}
use Rattle.pb_place_types.specs.Counts.{Counts, name_given, named_in, one_start, past_call, past_place_fault, up}
use Rattle.pb_place_types.specs.World.{World, Answers}
use Rattle.pb_place_types.specs.declared.place.PlaceFault.{PlaceFault}
use Rattle.pb_place_types.specs.declared.place.PlaceFault.TheVariants as place
use Rattle.pb_command_types.specs.declared.project.Project.{Project}
use Rattle.pb_run.specs.Invariants.{records_folder}
use Rattle.pb_store.specs.Looking.{opened_looked}
use Rattle.pb_build.specs.Causes.{StopsBefore, plan_called}
use Rattle.pb_build.specs.Ending.{FailsBefore}
use Rattle.pb_build.specs.Environment.{environment_of}
use Rattle.pb_build.specs.Headline.{NamesOpened}
use Rattle.pb_build.specs.Planning.{IsProject}

-- no call on files or variables is a start
fault_starts : (call : Call) (fault : PlaceFault) (c : Counts) → (past_place_fault call fault c).starts ≡ c.starts
fault_starts call place.Read c = refl
fault_starts call place.List c = refl
fault_starts call place.Write c = refl
fault_starts call place.Remove c = refl
fault_starts call place.Variable c = refl
fault_starts call place.OutOfMemory c = refl

fails_starts : (fault : PlaceFault) (names : List Call) (old new : Counts) → FailsAt fault names old new → new.starts ≡ old.starts
fails_starts fault [] old new fails = absurd fails
fails_starts fault (call ∷ names) old new (inl is) = ap (λ (c : Counts). c.starts) is.1 ∙ fault_starts call fault old
fails_starts fault (name ∷ names) old new (inr is) = fails_starts fault names (past_call old) new is

past_failures : (names : List Call) (c : Counts) → (past_calls names c).failures ≡ c.failures
past_failures [] c = refl
past_failures (name ∷ names) c = past_failures names (past_call c)

-- want of memory is no failure
memory_fails : (names : List Call) (count : ℕ) (old new : Counts) → old.failures ≡ count → FailsAt place.OutOfMemory names old new → new.failures ≡ up count → new.late ≡ 0 → ⊥
memory_fails [] count old new same fails more none = fails
memory_fails (name ∷ names) count old new same (inr is) more none = memory_fails names count (past_call old) new same is more none
memory_fails (name ∷ names) count old new same (inl is) more none = elim (cases_eq old.failures 0) [
  | inl zero ↦ let kept : new.failures ≡ old.failures = ap (λ (c : Counts). c.failures) is.1 in omega (arith, zero, same, kept, more)
  | inr ne ↦ let later : new.late ≡ up old.late = ap (λ (c : Counts). c.late) is.1 ∙ ap (λ b. if b then 0 else up old.late) (ne_eqb old.failures 0 ne) in omega (arith, none, later)
]

-- the counters tell the call that failed
record Among (fault : PlaceFault) (calls : List Call) (name : List ℕ) : Type 0 where
  call : Call
  among : Contains calls call
  own : own_fault call ≡ fault
  given : name_given call ≡ name

named_among : (fault : PlaceFault) (calls : List Call) (old new : Counts) → fault ≢ place.OutOfMemory → FailsAt fault calls old new → Among fault calls (named_in new)
named_among fault [] old new real fails = absurd fails
named_among fault (call ∷ calls) old new real (inl is) =
    record { call = call; among = contains_head call calls; own = sym is.0; given = sym (ap named_in (is.1 ∙ call_tells_fault call fault old real)) }
named_among fault (call ∷ calls) old new real (inr is) =
    let rest = named_among fault calls (past_call old) new real is in
    record { call = rest.call; among = contains_tail call calls rest.call rest.among; own = rest.own; given = rest.given }

is_real : (fault : PlaceFault) → (fault ≡ place.OutOfMemory) ⊎ (fault ≢ place.OutOfMemory)
is_real place.OutOfMemory = inl refl
is_real _ = inr (λ e. cc)

module _ (child : Answers) (options : Options) (w : World) (folder : List ℕ) (same : (project : Project) → IsProject options (environment_of options w.variables).target w project → records_folder project ≡ folder) where
  pub names_opened : (fault : BuildFault) (old new : Counts) → FailsBefore true child options fault w old new → StopsBefore options w fault old new → NamesOpened folder w fault old.starts new.starts
  names_opened (Plan why) old new fails stops = tt
  names_opened Toolchain old new fails stops = tt
  names_opened (Child key fault) old new fails stops = tt
  names_opened Sink old new fails stops = tt
  names_opened OutOfMemory old new fails stops = tt
  names_opened (Device name device.NumbersSpent) old new fails stops = absurd fails
  names_opened (Device name (device.Place fault)) old new fails (inl stops) = inl (fails_starts fault (plan_called options w) old new stops)
  names_opened (Device name (device.Place fault)) old new fails (inr (project, is, inl asked)) = absurd asked
  names_opened (Device name (device.Place fault)) old new (started, (more, none, last), named) (inr (project, is, inr stops)) =
      let names = opened_looked (records_folder project) w in
      let mid = past_call (one_start (past_calls (plan_called options w) old)) in
      elim (is_real fault) [
        | inl memory ↦ absurd (memory_fails names old.failures mid new (past_failures (plan_called options w) old) (subst (λ (f : PlaceFault). FailsAt f names mid new) memory stops) more none)
        | inr real ↦
            let told = named_among fault names mid new real stops in
            inr (told.call, subst (λ (f : List ℕ). Contains (opened_looked f w) told.call) (same project is) told.among, told.own, told.given ∙ named)
      ]
