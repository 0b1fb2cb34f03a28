-- Counters, lines and lists, after one more step.
use Rattle.std.proofs.Common.{◌≡◌, ◌≢◌, ◌⊎◌, ◌∙◌, ◌++◌, ◌+◌, ◌<◌, ◌≤◌, inl, inr, Bool, true, false, List, [], ◌∷◌, ℕ, zero, suc, Option, Some, None, IsTrue, max, refl, sym, ap, subst, arith, slice_get, slice_set, is_some, map, length, append_assoc, append-nil, length-append, take}
use Rattle.std.proofs.lemmas.Bool.{cases_eq, false≢true}
use Rattle.std.proofs.lemmas.List.{length-map}
use Rattle.std.specs.Io.KnownBytes.{Appends}
use Rattle.std.specs.List.{AllByRecursion, remove}
use Rattle.std.specs.Prelude.{MatchOption}
use Rattle.pb_build_result.specs.declared.fault.BuildFault.{BuildFault}
use Rattle.pb_build_result.specs.declared.fault.BuildFault.TheVariants.{Plan, Toolchain, Child, Device, Sink, OutOfMemory}
use Rattle.pb_build_result.specs.declared.fault.DeviceFault.TheVariants.{Place, NumbersSpent}
use Rattle.pb_run_flight.specs.declared.flight.Answer.{Answer}
use Rattle.pb_run_flight.specs.declared.flight.State.TheVariants.{Untouched, Begun}
use Rattle.pb_run_flight.specs.Events as events
use Rattle.pb_run_flight.specs.Events.{Event, Began, Gave, started_by, launched_after, peak}
use Rattle.pb_run_flight.specs.Table.{due, due_first, due_after, count_due, if_so}
use Rattle.pb_run_flight.proofs.Ending.{due_begun}
use Rattle.pb_run_flight.proofs.Handing.{due_split}
use Rattle.pb_run_flight.proofs.Lists.{injective, clash, get_set_same}
use Rattle.pb_place_types.specs.Counts.{Counts, Starts, up, up_starts}
use Rattle.pb_place_types.specs.Sinks.{SinkState, TakesPart}
use Rattle.pb_place_types.specs.declared.place.StartFault.TheVariants as start
use Rattle.pb_command_types.specs.Targets.{unit_at}
use Rattle.pb_build_result.specs.declared.bad_unit.BadUnit.{BadUnit}
use Rattle.pb_command_types.specs.declared.project.Project.{Project}
use Rattle.pb_run.specs.Steps.{HasCause, is_of_start, BeginsBy, LandsBy}
use Rattle.pb_run.proofs.Naming.{MayAnswerUnit, MayBeginUnit}
use Rattle.pb_run.specs.UnitSteps.{child_of, key_at, key_in}
use Rattle.pb_run.specs.declared.begun.SpawnedChild.{SpawnedChild}
use Rattle.pb_build_turns.specs.Executor.{AreApart, indices_of, ticket_of_child, ticket_in, tickets_of, launched_of, BuildState}
use Rattle.pb_build_turns.specs.History.{states_in, upped, CameAfter, NamesUnit, CountersSoFar, NoneWritesTo, NumbersGiven, Spends, Stops, StopsAt, StopsAtSink, StopsBy}
use Rattle.pb_build_turns.specs.declared.executor.RunningUnit.{RunningUnit}
use Rattle.pb_build_turns.proofs.Lists.{all_get, flat_more, get_map, length_push, without_first, without_other}
use Rattle.pb_build_turns.proofs.Manning.{answer_fault_lands}
use Rattle.pb_build_turns.proofs.States.{due_first_begun, due_first_answered, due_all}
use Rattle.pb_unit.specs.declared.plan.Planned.{Planned}

-- Bytes that a sink took.

pub appends_more : (a b c : Option (List ℕ)) (xs ys : List ℕ) → Appends a b xs → Appends b c ys → Appends a c (xs ++ ys)
appends_more None b c xs ys first then' = tt
appends_more (Some as') None c xs ys first then' = absurd first
appends_more (Some as') (Some bs) None xs ys first then' = absurd then'
appends_more (Some as') (Some bs) (Some cs) xs ys first then' = then' ∙ ap (λ l. l ++ ys) first ∙ append_assoc as' xs ys

pub appends_none : (a : Option (List ℕ)) → Appends a a []
appends_none None = tt
appends_none (Some xs) = sym (append-nil xs)

-- the first bytes of more, after others, which were taken whole
pub appends_part : (a b c : Option (List ℕ)) (xs ys : List ℕ) → Appends a b xs → TakesPart ys b c → (n : ℕ) × (length xs ≤ n) × (n < length (xs ++ ys)) × Appends a c (take n (xs ++ ys))
appends_part a b c xs ys first (n, less, then') =
    (length xs + n, omega arith, omega (arith, less, length-append xs ys), subst (Appends a c) (sym (take_past xs ys n)) (appends_more a b c xs (take n ys) first then'))
  where
    take_past : (xs ys : List ℕ) (n : ℕ) → take (length xs + n) (xs ++ ys) ≡ xs ++ take n ys
    take_past [] ys n = let e : length {A = ℕ} [] + n ≡ n = omega arith in ap (λ k. take k ys) e
    take_past (x ∷ xs) ys n = let e : length (x ∷ xs) + n ≡ suc (length xs + n) = omega arith in ap (λ k. take k (x ∷ (xs ++ ys))) e ∙ ap (λ l. x ∷ l) (take_past xs ys n)

-- Units that have a child.

without_none : (n : ℕ) (ns : List RunningUnit) → AllByRecursion (λ m. n ≢ m) (indices_of ns) → launched_of ns ≡ events.without n (launched_of ns)
without_none n [] all = refl
without_none n (x ∷ ns) all = by (is_some (child_of x.begun)) (without_none n ns all.1)
  where
    by : (b : Bool) → launched_of ns ≡ events.without n (launched_of ns) → if_so b x.unit ++ launched_of ns ≡ events.without n (if_so b x.unit ++ launched_of ns)
    by true more = ap (λ l. x.unit ∷ l) more ∙ sym (without_other x.unit n (launched_of ns) (λ e. all.0 (sym e)))
    by false more = more

pub launched_left : (running : List RunningUnit) (index : ℕ) (a : RunningUnit) → AreApart (indices_of running) → slice_get running index ≡ Some a → launched_of (remove running index) ≡ events.without a.unit (launched_of running)
launched_left [] index a apart at = absurd (clash at)
launched_left (x ∷ running) zero a apart at = subst (λ (y : RunningUnit). launched_of running ≡ events.without y.unit (if_so (is_some (child_of x.begun)) x.unit ++ launched_of running)) (injective at) (by (is_some (child_of x.begun)))
  where
    by : (b : Bool) → launched_of running ≡ events.without x.unit (if_so b x.unit ++ launched_of running)
    by true = sym (without_first x.unit (launched_of running))
    by false = without_none x.unit running apart.0
launched_left (x ∷ running) (suc k) a apart at = by (is_some (child_of x.begun)) (launched_left running k a apart.1 at)
  where
    ne : x.unit ≢ a.unit
    ne = all_get (λ m. x.unit ≢ m) (indices_of running) k a.unit apart.0 (get_map (λ (y : RunningUnit). y.unit) running k a at)

    by : (b : Bool) → launched_of (remove running k) ≡ events.without a.unit (launched_of running) → if_so b x.unit ++ launched_of (remove running k) ≡ events.without a.unit (if_so b x.unit ++ launched_of running)
    by true more = ap (λ l. x.unit ∷ l) more ∙ sym (without_other x.unit a.unit (launched_of running) ne)
    by false more = more

-- as many children as tickets
as_many : (running : List RunningUnit) → length (tickets_of running) ≡ length (launched_of running)
as_many [] = refl
as_many (x ∷ running) = by (child_of x.begun) (as_many running)
  where
    by : (o : Option SpawnedChild) → length (tickets_of running) ≡ length (launched_of running) → length (ticket_in o ++ tickets_of running) ≡ length (if_so (is_some o) x.unit ++ launched_of running)
    by None more = more
    by (Some l) more = ap suc more

pub children_are : (now : Counts) (running : List RunningUnit) → map ticket_of_child now.starts.flying ≡ tickets_of running → length now.starts.flying ≡ length (launched_of running)
children_are now running tickets = sym (length-map now.starts.flying ticket_of_child) ∙ ap length tickets ∙ as_many running

-- The cause is that since the first.

pub cause_from : (e : BuildFault) (first now new : Counts) → now.failures ≡ first.failures → HasCause e now new → HasCause e first new
cause_from (Plan why) first now new same cause = cause ∙ same
cause_from Toolchain first now new same cause = cause ∙ same
cause_from (Child unit fault) first now new same (failed, late, last) = (failed ∙ ap up same, late, last)
cause_from (Device unit (Place fault)) first now new same (failed, late, last) = (failed ∙ ap up same, late, last)
cause_from (Device unit NumbersSpent) first now new same cause = cause ∙ same
cause_from Sink first now new same cause = cause ∙ same
cause_from OutOfMemory first now new same cause = cause ∙ same

upped_more : (n m : ℕ) (xs : List ℕ) (unit : ℕ) → n ≡ upped (length xs) m → up n ≡ upped (length (xs ++ unit ∷ [])) m
upped_more n m xs unit is = ap up is ∙ ap (λ k. upped k m) (sym (length_push xs unit))

-- A child was tried only where the starts are others than they were.
tried_or_not : (old new : Starts) → (new ≡ old) ⊎ (new ≡ up_starts old) → (new ≡ old) ⊎ ((new ≡ up_starts old) × (new ≢ old))
tried_or_not old new (inl same) = inl same
tried_or_not old new (inr more) = elim (cases_eq (up old.count) old.count) [
  | inl full ↦ inl (more ∙ ap (λ n. record old { count = n }) full)
  | inr less ↦ inr (more, λ same. less (sym (ap (λ (s : Starts). s.count) more) ∙ ap (λ (s : Starts). s.count) same))
]

-- A unit begins.

module _ (project : Project) (first now new : BuildState) (started : List ℕ) (running : List RunningUnit) (es : List (Event BadUnit)) (given unit : ℕ) (goes : CountersSoFar project first now started running es given)
    (is_given : given ≡ count_due (states_in project es)) (untouched : slice_get (states_in project es) unit ≡ Some Untouched) (heard : new.heard ≡ now.heard) where
  lines_begun : Appends first.heard.taken new.heard.taken (due_first given (slice_set (states_in project es) unit Begun))
  lines_begun =
      subst (λ (x : SinkState). Appends first.heard.taken x.taken (due_first given (slice_set (states_in project es) unit Begun))) (sym heard)
      (subst (Appends first.heard.taken now.heard.taken) (sym (due_first_begun given (states_in project es) unit is_given untouched)) goes.lines)

  due_lines_begun : Appends first.heard.taken new.heard.taken (due (slice_set (states_in project es) unit Begun))
  due_lines_begun =
      subst (Appends first.heard.taken new.heard.taken) (due_first_begun given (states_in project es) unit is_given untouched ∙ due_all given (states_in project es) is_given ∙ sym (due_begun (states_in project es) unit untouched).0) lines_begun

  faults_begun : new.heard.faults ≡ first.heard.faults
  faults_begun = ap (λ (x : SinkState). x.faults) heard ∙ goes.faults

  starts_begun : (o : Option SpawnedChild) → BeginsBy o now.counts.starts new.counts.starts → new.counts.starts.count ≡ upped (length (started_by es ++ if_so (is_some o) unit)) first.counts.starts.count
  starts_begun None same = ap (λ (s : Starts). s.count) same ∙ goes.starts ∙ ap (λ xs. upped (length xs) first.counts.starts.count) (sym (append-nil (started_by es)))
  starts_begun (Some l) lifted = ap (λ (s : Starts). s.count) lifted.lifted ∙ upped_more now.counts.starts.count first.counts.starts.count (started_by es) unit goes.starts

  settings_begun : (o : Option SpawnedChild) → BeginsBy o now.counts.starts new.counts.starts → new.counts.starts.settings ≡ first.counts.starts.settings
  settings_begun None same = ap (λ (s : Starts). s.settings) same ∙ goes.settings
  settings_begun (Some l) lifted = ap (λ (s : Starts). s.settings) lifted.lifted ∙ goes.settings

  most_begun : (o : Option SpawnedChild) → length now.counts.starts.flying ≡ length (launched_of running) → MatchOption o (new.most ≡ now.most) (λ l. new.most ≡ max now.most (length now.counts.starts.flying + 1)) → new.most ≡ max first.most (peak (Began unit (is_some o) ∷ es))
  most_begun None long same = same ∙ goes.most
  most_begun (Some l) long more =
      let e : length now.counts.starts.flying ≡ length (launched_after es) = long ∙ ap length goes.launched_are in
      omega (arith, more, e, goes.most)

  pub goes_begun : (a : RunningUnit) → a.unit ≡ unit → new.counts.failures ≡ now.counts.failures → BeginsBy (child_of a.begun) now.counts.starts new.counts.starts → length now.counts.starts.flying ≡ length (launched_of running)
      → MatchOption (child_of a.begun) (new.most ≡ now.most) (λ l. new.most ≡ max now.most (length now.counts.starts.flying + 1))
      → CountersSoFar project first new (started ++ if_so (is_some (child_of a.begun)) unit) (running ++ a ∷ []) (Began unit (is_some (child_of a.begun)) ∷ es) given
  goes_begun a its failures begins long most = record {
    started_are = ap (λ l. l ++ if_so (is_some (child_of a.begun)) unit) goes.started_are;
    launched_are = flat_more (λ (x : RunningUnit). if_so (is_some (child_of x.begun)) x.unit) running (a ∷ []) ∙ ap (λ l. launched_of running ++ l) (append-nil (if_so (is_some (child_of a.begun)) a.unit))
        ∙ ap (λ n. launched_of running ++ if_so (is_some (child_of a.begun)) n) its ∙ ap (λ l. l ++ if_so (is_some (child_of a.begun)) unit) goes.launched_are;
    lines = lines_begun;
    faults = faults_begun;
    failures = failures ∙ goes.failures;
    starts = starts_begun (child_of a.begun) begins;
    settings = settings_begun (child_of a.begun) begins;
    most = most_begun (child_of a.begun) long most;
  }

  -- memory is refused before
  pub stops_refused_begun : (is_modelled : Bool) → new.counts ≡ now.counts → Stops is_modelled OutOfMemory project first new (Began unit false ∷ es)
  stops_refused_begun is_modelled counts = record {
    by = ((given, lines_begun), faults_begun);
    cause = ap (λ (c : Counts). c.failures) counts ∙ goes.failures;
    starts = starts_begun None (ap (λ (c : Counts). c.starts) counts);
    settings = settings_begun None (ap (λ (c : Counts). c.starts) counts);
  }

  -- a fault ends it
  module _ (u : Planned) (there : unit_at project unit ≡ Some u) (is_modelled : Bool) (alone : IsTrue is_modelled → NoneWritesTo u.out new.counts.starts.flying) where
    its_key : (key : List ℕ) → key ≡ u.key → key_at project unit ≡ key ∷ []
    its_key key named = ap key_in there ∙ ap (λ (k : List ℕ). k ∷ []) (sym named)

    stops_at : (key : List ℕ) (spawned : Bool) → key ≡ u.key → StopsAt is_modelled project first new key (Began unit spawned ∷ es)
    stops_at key spawned named = record {
      index = unit;
      unit = u;
      there = there;
      named = sym named;
      flies = get_set_same (states_in project es) unit Untouched Begun untouched;
      landed = alone;
      lines = due_lines_begun;
      faults = faults_begun;
    }

    none_started : new.counts.starts ≡ now.counts.starts → new.counts.starts.count ≡ upped (length (started_by es ++ if_so false unit)) first.counts.starts.count
    none_started same = starts_begun None same

    one_started : new.counts.starts ≡ up_starts now.counts.starts → new.counts.starts.count ≡ upped (length (started_by es ++ if_so true unit)) first.counts.starts.count
    one_started same = ap (λ (s : Starts). s.count) same ∙ upped_more now.counts.starts.count first.counts.starts.count (started_by es) unit goes.starts

    set_no_more : (starts : Starts) → starts.settings ≡ now.counts.starts.settings → new.counts.starts ≡ starts → new.counts.starts.settings ≡ first.counts.starts.settings
    set_no_more starts as_before same = ap (λ (s : Starts). s.settings) same ∙ as_before ∙ goes.settings

    pub stops_begun : (next : Option ℕ) (e : BuildFault) → MayBeginUnit next u.key e now.counts.starts new.counts.starts → HasCause e now.counts new.counts
        → (spawned : Bool) × Stops is_modelled e project first new (Began unit spawned ∷ es) × (spawned ≡ true → (is_of_start e ≡ true) ⊎ (new.counts.starts ≢ now.counts.starts)) × ((Lacks : ℕ → Bool → Type 0) (at_first : Option ℕ) → NumbersGiven Lacks es at_first next → Spends Lacks e at_first (Began unit spawned ∷ es))
        × CameAfter project e es (Began unit spawned ∷ es) × NamesUnit project e None es (Began unit spawned ∷ es)
    stops_begun next (Plan why) may cause = absurd may
    stops_begun next Toolchain may cause = absurd may
    stops_begun next (Child key fault) may cause = (
      true,
      record { by = stops_at key true may.0; cause = cause_from (Child key fault) first.counts now.counts new.counts goes.failures cause; starts = one_started may.2; settings = set_no_more (up_starts now.counts.starts) refl may.2 },
      λ spawned. inl refl,
      λ Lacks at_first numbers. tt,
      subst (λ f. CameAfter project (Child key f) es (Began unit true ∷ es)) (sym may.1) (unit, its_key key may.0, refl),
      (unit, its_key key may.0, refl),
    )
    stops_begun next (Device key (Place fault)) may cause = (
      false,
      record { by = stops_at key false may.0; cause = cause_from (Device key (Place fault)) first.counts now.counts new.counts goes.failures cause; starts = none_started may.2; settings = set_no_more now.counts.starts refl may.2 },
      λ spawned. absurd (false≢true spawned),
      λ Lacks at_first numbers. tt,
      inr (unit, its_key key may.0, refl),
      (unit, its_key key may.0, refl),
    )
    stops_begun next (Device key NumbersSpent) may cause = (
      false,
      record { by = stops_at key false may.0; cause = cause_from (Device key NumbersSpent) first.counts now.counts new.counts goes.failures cause; starts = none_started may.2; settings = set_no_more now.counts.starts refl may.2 },
      λ spawned. absurd (false≢true spawned),
      λ Lacks at_first numbers. subst (NumbersGiven Lacks es at_first) may.1 numbers,
      inr (unit, its_key key may.0, refl),
      (unit, its_key key may.0, refl),
    )
    stops_begun next Sink may cause = absurd may
    stops_begun next OutOfMemory may cause = elim (tried_or_not now.counts.starts new.counts.starts may) [
      | inl same ↦ (
        false,
        record { by = ((given, lines_begun), faults_begun); cause = cause_from OutOfMemory first.counts now.counts new.counts goes.failures cause; starts = none_started same; settings = set_no_more now.counts.starts refl same },
        λ spawned. absurd (false≢true spawned),
        λ Lacks at_first numbers. tt,
        inr (unit, false, refl),
        tt,
      )
      | inr (more, other) ↦ (
        true,
        record { by = ((given, lines_begun), faults_begun); cause = cause_from OutOfMemory first.counts now.counts new.counts goes.failures cause; starts = one_started more; settings = set_no_more (up_starts now.counts.starts) refl more },
        λ spawned. inr other,
        λ Lacks at_first numbers. tt,
        inr (unit, true, refl),
        tt,
      )
    ]

-- A unit answers.

-- a fault in place of an answer came after all events
pub came_answering : (project : Project) (next : Option ℕ) (key : List ℕ) (launched : Option SpawnedChild) (e : BuildFault) (old new : Starts) → MayAnswerUnit next key launched e old new → (es : List (Event BadUnit)) → CameAfter project e es es
came_answering project next key launched (Plan why) old new may es = refl
came_answering project next key launched Toolchain old new may es = refl
came_answering project next key launched (Child unit fault) old new may es = by may.2
  where
    by : (fault ≡ start.Died) ⊎ (fault ≡ start.Capture) → CameAfter project (Child unit fault) es es
    by (inl died) = subst (λ f. CameAfter project (Child unit f) es es) (sym died) refl
    by (inr capture) = subst (λ f. CameAfter project (Child unit f) es es) (sym capture) refl
came_answering project next key launched (Device unit fault) old new may es = inl refl
came_answering project next key launched Sink old new may es = refl
came_answering project next key launched OutOfMemory old new may es = inl refl

-- it names the unit
pub names_answering : (project : Project) (next : Option ℕ) (unit : ℕ) (u : Planned) (launched : Option SpawnedChild) (e : BuildFault) (old new : Starts) → unit_at project unit ≡ Some u → MayAnswerUnit next u.key launched e old new → (es : List (Event BadUnit))
    → NamesUnit project e (Some unit) es es
names_answering project next unit u launched (Child key fault) old new there may es = (ap key_in there ∙ ap (λ (k : List ℕ). k ∷ []) (sym may.0), refl)
names_answering project next unit u launched (Device key (Place fault)) old new there may es = (ap key_in there ∙ ap (λ (k : List ℕ). k ∷ []) (sym may.0), refl)
names_answering project next unit u launched (Device key NumbersSpent) old new there may es = (ap key_in there ∙ ap (λ (k : List ℕ). k ∷ []) (sym may.0), refl)
names_answering project next unit u launched _ old new there may es = tt

module _ (project : Project) (first now new : BuildState) (started : List ℕ) (running : List RunningUnit) (es : List (Event BadUnit)) (given : ℕ) (goes : CountersSoFar project first now started running es given)
    (is_given : given ≡ count_due (states_in project es)) (index : ℕ) (a : RunningUnit) (at : slice_get running index ≡ Some a) (begun : slice_get (states_in project es) a.unit ≡ Some Begun) (heard : new.heard ≡ now.heard) where
  lines_same : (n : ℕ) → Appends first.heard.taken now.heard.taken (due_first n (states_in project es)) → Appends first.heard.taken new.heard.taken (due_first n (states_in project es))
  lines_same n lines = subst (λ (x : SinkState). Appends first.heard.taken x.taken (due_first n (states_in project es))) (sym heard) lines

  faults_same : new.heard.faults ≡ first.heard.faults
  faults_same = ap (λ (x : SinkState). x.faults) heard ∙ goes.faults

  starts_same : (o : Option SpawnedChild) → LandsBy o now.counts.starts new.counts.starts → new.counts.starts.count ≡ upped (length (started_by es)) first.counts.starts.count
  starts_same None same = ap (λ (s : Starts). s.count) same ∙ goes.starts
  starts_same (Some l) landed = ap (λ (s : Starts). s.count) landed ∙ goes.starts

  settings_same : (o : Option SpawnedChild) → LandsBy o now.counts.starts new.counts.starts → new.counts.starts.settings ≡ first.counts.starts.settings
  settings_same None same = ap (λ (s : Starts). s.settings) same ∙ goes.settings
  settings_same (Some l) landed = ap (λ (s : Starts). s.settings) landed ∙ goes.settings

  pub goes_answered : AreApart (indices_of running) → (answer : Answer BadUnit) → new.counts.failures ≡ now.counts.failures → LandsBy (child_of a.begun) now.counts.starts new.counts.starts → new.most ≡ now.most
      → CountersSoFar project first new started (remove running index) (Gave a.unit answer ∷ es) given
  goes_answered apart answer failures lands most = record {
    started_are = goes.started_are;
    launched_are = launched_left running index a apart at ∙ ap (events.without a.unit) goes.launched_are;
    lines = subst (Appends first.heard.taken new.heard.taken) (sym (due_first_answered given (states_in project es) a.unit answer is_given begun)) (lines_same given goes.lines);
    faults = faults_same;
    failures = failures ∙ goes.failures;
    starts = starts_same (child_of a.begun) lands;
    settings = settings_same (child_of a.begun) lands;
    most = most ∙ goes.most;
  }

  module _ (u : Planned) (there : unit_at project a.unit ≡ Some u) (is_modelled : Bool) (alone : IsTrue is_modelled → NoneWritesTo u.out new.counts.starts.flying) where
    stops_there : (key : List ℕ) → key ≡ u.key → StopsAt is_modelled project first new key es
    stops_there key named = record {
      index = a.unit;
      unit = u;
      there = there;
      named = sym named;
      flies = begun;
      landed = alone;
      lines = subst (Appends first.heard.taken new.heard.taken) (due_all given (states_in project es) is_given) (lines_same given goes.lines);
      faults = faults_same;
    }

    by_fault : (next : Option ℕ) (e : BuildFault) → MayAnswerUnit next u.key (child_of a.begun) e now.counts.starts new.counts.starts → StopsBy is_modelled e project first new es
    by_fault next (Child key fault) may = stops_there key may.0
    by_fault next (Device key (Place fault)) may = stops_there key may.0
    by_fault next (Device key NumbersSpent) may = stops_there key may.0
    by_fault next OutOfMemory may = ((given, lines_same given goes.lines), faults_same)
    by_fault next _ may = absurd may

    pub stops_answered : (next : Option ℕ) (e : BuildFault) → MayAnswerUnit next u.key (child_of a.begun) e now.counts.starts new.counts.starts → HasCause e now.counts new.counts → Stops is_modelled e project first new es
    stops_answered next e may cause = record {
      by = by_fault next e may;
      cause = cause_from e first.counts now.counts new.counts goes.failures cause;
      starts = starts_same (child_of a.begun) (answer_fault_lands next u.key (child_of a.begun) e now.counts.starts new.counts.starts may);
      settings = settings_same (child_of a.begun) (answer_fault_lands next u.key (child_of a.begun) e now.counts.starts new.counts.starts may);
    }

  -- memory is refused for its lines
  pub stops_untold : (is_modelled : Bool) → LandsBy (child_of a.begun) now.counts.starts new.counts.starts → new.counts.failures ≡ now.counts.failures → Stops is_modelled OutOfMemory project first new es
  stops_untold is_modelled lands failures = record { by = ((given, lines_same given goes.lines), faults_same); cause = failures ∙ goes.failures; starts = starts_same (child_of a.begun) lands; settings = settings_same (child_of a.begun) lands }

-- Lines are handed out.

module _ (project : Project) (first now new : BuildState) (started : List ℕ) (running : List RunningUnit) (es : List (Event BadUnit)) (given : ℕ) (goes : CountersSoFar project first now started running es given)
    (counts : new.counts ≡ now.counts) (most : new.most ≡ now.most) where
  pub goes_told : Appends now.heard.taken new.heard.taken (due_after given (states_in project es)) → new.heard.faults ≡ now.heard.faults → CountersSoFar project first new started running es (count_due (states_in project es))
  goes_told lines faults = record {
    started_are = goes.started_are;
    launched_are = goes.launched_are;
    lines = subst (Appends first.heard.taken new.heard.taken) (due_split given (states_in project es) ∙ sym (due_all (count_due (states_in project es)) (states_in project es) refl))
        (appends_more first.heard.taken now.heard.taken new.heard.taken (due_first given (states_in project es)) (due_after given (states_in project es)) goes.lines lines);
    faults = faults ∙ goes.faults;
    failures = ap (λ (c : Counts). c.failures) counts ∙ goes.failures;
    starts = ap (λ (c : Counts). c.starts.count) counts ∙ goes.starts;
    settings = ap (λ (c : Counts). c.starts.settings) counts ∙ goes.settings;
    most = most ∙ goes.most;
  }

  -- the sink fails behind an answer, before which all lines that were due had been handed out
  pub stops_sink : (is_modelled : Bool) (before : List (Event BadUnit)) (unit : ℕ) (answer : Answer BadUnit) → es ≡ Gave unit answer ∷ before → given ≡ count_due (states_in project before) → TakesPart (due_after given (states_in project es)) now.heard.taken new.heard.taken
      → new.heard.faults ≡ up now.heard.faults → Stops is_modelled Sink project first new es
  stops_sink is_modelled before unit answer last was lines faults =
      let (n, whole, part, taken) = appends_part first.heard.taken now.heard.taken new.heard.taken (due_first given (states_in project es)) (due_after given (states_in project es)) goes.lines lines in
      let at_sink : StopsAtSink project first new es = record {
        before = before;
        unit = unit;
        answer = answer;
        last = last;
        taken = n;
        whole = subst (λ (g : ℕ). length (due_first g (states_in project es)) ≤ n) was whole;
        part = subst (λ (l : List ℕ). n < length l) (due_split given (states_in project es)) part;
        lines = subst (λ (l : List ℕ). Appends first.heard.taken new.heard.taken (take n l)) (due_split given (states_in project es)) taken;
        faults = faults ∙ ap up goes.faults;
      } in
      record {
        by = at_sink;
        cause = ap (λ (c : Counts). c.failures) counts ∙ goes.failures;
        starts = ap (λ (c : Counts). c.starts.count) counts ∙ goes.starts;
        settings = ap (λ (c : Counts). c.starts.settings) counts ∙ goes.settings;
      }

  -- memory is refused
  pub stops_refused : (is_modelled : Bool) → new.heard ≡ now.heard → Stops is_modelled OutOfMemory project first new es
  stops_refused is_modelled heard = record {
    by = ((given, subst (λ (x : SinkState). Appends first.heard.taken x.taken (due_first given (states_in project es))) (sym heard) goes.lines), ap (λ (x : SinkState). x.faults) heard ∙ goes.faults);
    cause = ap (λ (c : Counts). c.failures) counts ∙ goes.failures;
    starts = ap (λ (c : Counts). c.starts.count) counts ∙ goes.starts;
    settings = ap (λ (c : Counts). c.starts.settings) counts ∙ goes.settings;
  }
