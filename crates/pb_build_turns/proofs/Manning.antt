-- A crew stays consistent.
use Rattle.std.proofs.Common.{◌≡◌, ◌≢◌, ◌∙◌, ◌<◌, ◌+◌, ◌++◌, ◌||◌, ◌==◌, Bool, true, false, List, [], ◌∷◌, ℕ, Option, Some, None, Contains, if◌then◌else◌, refl, sym, ap, subst, inl, inr, cond, map, length, arith, slice_get, append-nil, eq-eqb}
use Rattle.std.proofs.lemmas.Bool.{cases_eq, false≢true}
use Rattle.std.proofs.lemmas.List.{map-append}
use Rattle.std.specs.List.{AllByRecursion, remove}
use Rattle.std.specs.Prelude.{IfSome}
use Rattle.pb_build_result.specs.declared.fault.BuildFault.{BuildFault}
use Rattle.pb_build_result.specs.declared.fault.BuildFault.TheVariants.{Child, Device, OutOfMemory}
use Rattle.pb_build_result.specs.declared.fault.DeviceFault.TheVariants.{Place, NumbersSpent}
use Rattle.pb_run_flight.specs.Events as events
use Rattle.pb_run_flight.proofs.Lists.{contains_none, contains_head, contains_tail, contains_cases}
use Rattle.pb_place_types.specs.Children.{is_flying}
use Rattle.pb_place_types.specs.Counts.{Counts, Starts, without}
use Rattle.pb_place_types.specs.declared.child_in_flight.ChildInFlight.{ChildInFlight}
use Rattle.pb_command_types.specs.declared.project.Project.{Project}
use Rattle.pb_run.specs.Steps.{BeginsBy, LandsBy}
use Rattle.pb_run.proofs.Naming.{MayAnswerUnit, MayBeginUnit}
use Rattle.pb_run.specs.UnitSteps.{child_of}
use Rattle.pb_run.specs.Invariants.{IsInOrder, records_folder}
use Rattle.pb_run.specs.declared.begun.SpawnedChild.{SpawnedChild}
use Rattle.pb_store_soundness.specs.Numbers.{after, IsBefore}
use Rattle.pb_store.specs.Folder.{TakesNumber}
use Rattle.pb_build_turns.specs.Executor.{AreApart, IsConsistent, IsOfPlan, index_of_unit, indices_of, ticket_in, number_in, tickets_of, numbers_of, ticket_of_child}
use Rattle.pb_build_turns.specs.declared.executor.RunningUnit.{RunningUnit}
use Rattle.pb_build_turns.specs.declared.executor.UnitExecutor.{UnitExecutor}
use Rattle.pb_build_turns.proofs.Lists.{has_given, all_more, all_as, all_removed, all_flat, flat_more, flat_stays, flat_without, flat_ones, apart_more, apart_flat, map_removed}

-- the next number grows
pub before_next : (old new : Option ℕ) (n : ℕ) → TakesNumber old new → IsBefore old n → IsBefore new n
before_next old new n (inl same) less = subst (λ o. IsBefore o n) (sym same) less
before_next old new n (inr (number, was, now)) less = subst (λ o. IsBefore o n) (sym now) (by (number == 0xffff_ffff_ffff_ffff))
  where
    by : (b : Bool) → IsBefore (cond b None (Some (number + 1))) n
    by true = tt
    by false = let lt : n < number = subst (λ o. IsBefore o n) was less in omega (arith, lt)

pub own_before : (number : ℕ) → IsBefore (after number) number
own_before number = by (number == 0xffff_ffff_ffff_ffff)
  where
    by : (b : Bool) → IsBefore (cond b None (Some (number + 1))) number
    by true = tt
    by false = omega arith

-- a fault of a beginning leaves what flies, and one of an answer lands its child
pub begin_fault_flies : (next : Option ℕ) (key : List ℕ) (e : BuildFault) (old new : Starts) → MayBeginUnit next key e old new → new.flying ≡ old.flying
begin_fault_flies next key (Child unit fault) old new may = ap (λ (s : Starts). s.flying) may.2
begin_fault_flies next key (Device unit (Place fault)) old new may = ap (λ (s : Starts). s.flying) may.2
begin_fault_flies next key (Device unit NumbersSpent) old new may = ap (λ (s : Starts). s.flying) may.2
begin_fault_flies next key OutOfMemory old new (inl same) = ap (λ (s : Starts). s.flying) same
begin_fault_flies next key OutOfMemory old new (inr more) = ap (λ (s : Starts). s.flying) more
begin_fault_flies next key _ old new may = absurd may

pub answer_fault_lands : (next : Option ℕ) (key : List ℕ) (launched : Option SpawnedChild) (e : BuildFault) (old new : Starts) → MayAnswerUnit next key launched e old new → LandsBy launched old new
answer_fault_lands next key launched (Child unit fault) old new may = may.3
answer_fault_lands next key launched (Device unit (Place fault)) old new may = may.2
answer_fault_lands next key launched (Device unit NumbersSpent) old new may = subst (λ l. LandsBy l old new) (sym may.2) may.3
answer_fault_lands next key launched OutOfMemory old new may = may
answer_fault_lands next key launched _ old new may = absurd may

-- a ticket that no child in flight has is none of theirs
free_ticket : (ticket : ℕ) (flying : List ChildInFlight) → is_flying ticket flying ≡ false → AllByRecursion (λ t. t ≢ ticket) (map ticket_of_child flying)
free_ticket ticket [] free = tt
free_ticket ticket (f ∷ fs) free = elim (cases_eq f.ticket ticket) [
  | inl same ↦ absurd (false≢true (sym free ∙ ap (λ b. b || is_flying ticket fs) (eq-eqb f.ticket ticket same)))
  | inr ne ↦ (ne, free_ticket ticket fs (rest (f.ticket == ticket) free))
]
  where
    rest : (b : Bool) → b || is_flying ticket fs ≡ false → is_flying ticket fs ≡ false
    rest true h = cc
    rest false h = h

-- numbers below another differ from it
below_apart : (next : ℕ) (ns : List ℕ) → AllByRecursion (IsBefore (Some next)) ns → AllByRecursion (λ n. n ≢ next) ns
below_apart next [] all = tt
below_apart next (n ∷ ns) all = (λ e. omega (arith, e, all.0), below_apart next ns all.1)

-- what is not among some differs from each
none_among : (n : ℕ) (ns : List ℕ) → (Contains ns n → ⊥) → AllByRecursion (λ m. m ≢ n) ns
none_among n [] none = tt
none_among n (m ∷ ns) none = (λ e. none (subst (Contains (m ∷ ns)) e (contains_head m ns)), none_among n ns (λ h. none (contains_tail m ns n h)))

-- tickets of the children that are left
tickets_without : (ticket : ℕ) (fs : List ChildInFlight) → map ticket_of_child (without ticket fs) ≡ events.without ticket (map ticket_of_child fs)
tickets_without ticket [] = refl
tickets_without ticket (f ∷ fs) = by (f.ticket == ticket) (tickets_without ticket fs)
  where
    by : (b : Bool) → map ticket_of_child (without ticket fs) ≡ events.without ticket (map ticket_of_child fs)
        → map ticket_of_child (if b then fs else (f ∷ without ticket fs)) ≡ (if b then map ticket_of_child fs else (f.ticket ∷ events.without ticket (map ticket_of_child fs)))
    by true more = refl
    by false more = ap (λ ts. f.ticket ∷ ts) more

-- a child of a unit in flight is in flight
flies_by : (ticket : ℕ) (fs : List ChildInFlight) → Contains (map ticket_of_child fs) ticket → is_flying ticket fs ≡ true
flies_by ticket [] has = absurd (contains_none ticket has)
flies_by ticket (f ∷ fs) has = elim (contains_cases f.ticket (map ticket_of_child fs) ticket has) [
  | inl same ↦ ap (λ b. b || is_flying ticket fs) (eq-eqb f.ticket ticket same)
  | inr more ↦ either (f.ticket == ticket) (flies_by ticket fs more)
]
  where
    either : (b : Bool) → is_flying ticket fs ≡ true → b || is_flying ticket fs ≡ true
    either true h = refl
    either false h = h

pub flying_of : (c : UnitExecutor) (counts : Counts) (index : ℕ) (a : RunningUnit) → IsConsistent c counts → slice_get c.running.items index ≡ Some a → IfSome (child_of a.begun) (λ l. is_flying l.ticket counts.starts.flying ≡ true)
flying_of c counts index a consistent at = by (child_of a.begun) refl
  where
    by : (o : Option SpawnedChild) → (child_of a.begun) ≡ o → IfSome o (λ l. is_flying l.ticket counts.starts.flying ≡ true)
    by None is = tt
    by (Some l) is =
        flies_by l.ticket counts.starts.flying (subst (λ ts. Contains ts l.ticket) (sym consistent.tickets) (has_given (λ (x : RunningUnit). ticket_in (child_of x.begun)) c.running.items index a l.ticket at (ap ticket_in is)))

-- after a fault: the same units, and a next number that may have grown
pub manned_same : (old new : UnitExecutor) (before now : Counts) → IsConsistent old before → new.project ≡ old.project → new.store.folder ≡ old.store.folder → new.done.items ≡ old.done.items → length new.reasons.items ≡ length old.reasons.items → new.running.items ≡ old.running.items → TakesNumber old.store.next new.store.next
    → now.starts.flying ≡ before.starts.flying → IsConsistent new now
manned_same old new before now consistent project folder done reasons running next flying = record {
  order = subst IsInOrder (sym project) consistent.order;
  folder = folder ∙ consistent.folder ∙ ap records_folder (sym project);
  long = ap length done ∙ consistent.long ∙ ap (λ (p : Project). length p.plan.planned) (sym project);
  reasoned = reasons ∙ consistent.reasoned ∙ ap (λ (p : Project). length p.plan.planned) (sym project);
  units = subst (λ (p : Project). AllByRecursion (IsOfPlan p) new.running.items) (sym project) (subst (AllByRecursion (IsOfPlan old.project)) (sym running) consistent.units);
  units_apart = subst (λ (items : List RunningUnit). AreApart (indices_of items)) (sym running) consistent.units_apart;
  tickets = ap (map ticket_of_child) flying ∙ consistent.tickets ∙ ap tickets_of (sym running);
  tickets_apart = subst (λ (items : List RunningUnit). AreApart (tickets_of items)) (sym running) consistent.tickets_apart;
  numbers_apart = subst (λ (items : List RunningUnit). AreApart (numbers_of items)) (sym running) consistent.numbers_apart;
  before = subst (λ (items : List RunningUnit). AllByRecursion (IsBefore new.store.next) (numbers_of items)) (sym running)
      (all_as (IsBefore old.store.next) (IsBefore new.store.next) (numbers_of old.running.items) (λ n. before_next old.store.next new.store.next n next) consistent.before);
}

-- a unit more in flight
module _ (old new : UnitExecutor) (before now : Counts) (a : RunningUnit) (consistent : IsConsistent old before) (free : Contains (indices_of old.running.items) a.unit → ⊥) (of_plan : IsOfPlan old.project a)
    (project : new.project ≡ old.project) (folder : new.store.folder ≡ old.store.folder) (done : new.done.items ≡ old.done.items) (reasons : length new.reasons.items ≡ length old.reasons.items) (running : new.running.items ≡ old.running.items ++ a ∷ [])
    (next : TakesNumber old.store.next new.store.next) (begins : BeginsBy (child_of a.begun) before.starts now.starts)
    (number : (l : SpawnedChild) → (child_of a.begun) ≡ Some l → (old.store.next ≡ Some l.number) × (new.store.next ≡ after l.number)) where
  tickets_are : tickets_of new.running.items ≡ tickets_of old.running.items ++ ticket_in (child_of a.begun)
  tickets_are = ap tickets_of running ∙ flat_more (λ (x : RunningUnit). ticket_in (child_of x.begun)) old.running.items (a ∷ []) ∙ ap (λ ts. tickets_of old.running.items ++ ts) (append-nil (ticket_in (child_of a.begun)))

  numbers_are : numbers_of new.running.items ≡ numbers_of old.running.items ++ number_in (child_of a.begun)
  numbers_are = ap numbers_of running ∙ flat_more (λ (x : RunningUnit). number_in (child_of x.begun)) old.running.items (a ∷ []) ∙ ap (λ ns. numbers_of old.running.items ++ ns) (append-nil (number_in (child_of a.begun)))

  indices_are : indices_of new.running.items ≡ indices_of old.running.items ++ a.unit ∷ []
  indices_are = ap indices_of running ∙ map-append index_of_unit old.running.items (a ∷ [])

  flies : (o : Option SpawnedChild) → BeginsBy o before.starts now.starts → map ticket_of_child now.starts.flying ≡ tickets_of old.running.items ++ ticket_in o
  flies None same = ap (λ (s : Starts). map ticket_of_child s.flying) same ∙ consistent.tickets ∙ sym (append-nil (tickets_of old.running.items))
  flies (Some l) lifted =
      ap (λ (s : Starts). map ticket_of_child s.flying) lifted.lifted ∙ map-append ticket_of_child before.starts.flying (lifted.child ∷ []) ∙ ap (λ ts. ts ++ ticket_of_child lifted.child ∷ []) consistent.tickets ∙ ap (λ t. tickets_of old.running.items ++ t ∷ []) lifted.its

  tickets_so : (o : Option SpawnedChild) → BeginsBy o before.starts now.starts → AreApart (tickets_of old.running.items ++ ticket_in o)
  tickets_so None same = subst AreApart (sym (append-nil (tickets_of old.running.items))) consistent.tickets_apart
  tickets_so (Some l) lifted = apart_more (tickets_of old.running.items) l.ticket consistent.tickets_apart (subst (AllByRecursion (λ t. t ≢ l.ticket)) consistent.tickets (free_ticket l.ticket before.starts.flying lifted.free))

  numbers_so : (o : Option SpawnedChild) → (child_of a.begun) ≡ o → AreApart (numbers_of old.running.items ++ number_in o)
  numbers_so None is = subst AreApart (sym (append-nil (numbers_of old.running.items))) consistent.numbers_apart
  numbers_so (Some l) is = apart_more (numbers_of old.running.items) l.number consistent.numbers_apart (below_apart l.number (numbers_of old.running.items) (subst (λ o. AllByRecursion (IsBefore o) (numbers_of old.running.items)) (number l is).0 consistent.before))

  before_old : AllByRecursion (IsBefore new.store.next) (numbers_of old.running.items)
  before_old = all_as (IsBefore old.store.next) (IsBefore new.store.next) (numbers_of old.running.items) (λ n. before_next old.store.next new.store.next n next) consistent.before

  before_so : (o : Option SpawnedChild) → (child_of a.begun) ≡ o → AllByRecursion (IsBefore new.store.next) (numbers_of old.running.items ++ number_in o)
  before_so None is = all_more (IsBefore new.store.next) (numbers_of old.running.items) [] before_old tt
  before_so (Some l) is = all_more (IsBefore new.store.next) (numbers_of old.running.items) (l.number ∷ []) before_old (subst (λ o. IsBefore o l.number) (sym (number l is).1) (own_before l.number), tt)

  pub manned_begun : IsConsistent new now
  manned_begun = record {
    order = subst IsInOrder (sym project) consistent.order;
    folder = folder ∙ consistent.folder ∙ ap records_folder (sym project);
    long = ap length done ∙ consistent.long ∙ ap (λ (p : Project). length p.plan.planned) (sym project);
    reasoned = reasons ∙ consistent.reasoned ∙ ap (λ (p : Project). length p.plan.planned) (sym project);
    units = subst (λ (p : Project). AllByRecursion (IsOfPlan p) new.running.items) (sym project) (subst (AllByRecursion (IsOfPlan old.project)) (sym running) (all_more (IsOfPlan old.project) old.running.items (a ∷ []) consistent.units (of_plan, tt)));
    units_apart = subst AreApart (sym indices_are) (apart_more (indices_of old.running.items) a.unit consistent.units_apart (none_among a.unit (indices_of old.running.items) free));
    tickets = flies (child_of a.begun) begins ∙ sym tickets_are;
    tickets_apart = subst AreApart (sym tickets_are) (tickets_so (child_of a.begun) begins);
    numbers_apart = subst AreApart (sym numbers_are) (numbers_so (child_of a.begun) refl);
    before = subst (AllByRecursion (IsBefore new.store.next)) (sym numbers_are) (before_so (child_of a.begun) refl);
  }

-- a unit less
module _ (old new : UnitExecutor) (before now : Counts) (index : ℕ) (a : RunningUnit) (consistent : IsConsistent old before) (at : slice_get old.running.items index ≡ Some a)
    (project : new.project ≡ old.project) (folder : new.store.folder ≡ old.store.folder) (done : length new.done.items ≡ length old.done.items) (reasons : length new.reasons.items ≡ length old.reasons.items) (running : new.running.items ≡ remove old.running.items index)
    (next : TakesNumber old.store.next new.store.next) (lands : LandsBy (child_of a.begun) before.starts now.starts) where
  flies_less : (o : Option SpawnedChild) → (child_of a.begun) ≡ o → LandsBy o before.starts now.starts → map ticket_of_child now.starts.flying ≡ tickets_of (remove old.running.items index)
  flies_less None is same = ap (λ (s : Starts). map ticket_of_child s.flying) same ∙ consistent.tickets ∙ sym (flat_stays (λ (x : RunningUnit). ticket_in (child_of x.begun)) old.running.items index a at (ap ticket_in is))
  flies_less (Some l) is landed =
      ap (λ (s : Starts). map ticket_of_child s.flying) landed ∙ tickets_without l.ticket before.starts.flying ∙ ap (events.without l.ticket) consistent.tickets
      ∙ sym (flat_without (λ (x : RunningUnit). ticket_in (child_of x.begun)) old.running.items index a l.ticket consistent.tickets_apart at (ap ticket_in is))

  indices_apart : AreApart (indices_of (remove old.running.items index))
  indices_apart =
      subst AreApart (flat_ones index_of_unit (remove old.running.items index)) (apart_flat (λ (x : RunningUnit). x.unit ∷ []) old.running.items index (subst AreApart (sym (flat_ones index_of_unit old.running.items)) consistent.units_apart))

  pub manned_answered : IsConsistent new now
  manned_answered = record {
    order = subst IsInOrder (sym project) consistent.order;
    folder = folder ∙ consistent.folder ∙ ap records_folder (sym project);
    long = done ∙ consistent.long ∙ ap (λ (p : Project). length p.plan.planned) (sym project);
    reasoned = reasons ∙ consistent.reasoned ∙ ap (λ (p : Project). length p.plan.planned) (sym project);
    units = subst (λ (p : Project). AllByRecursion (IsOfPlan p) new.running.items) (sym project) (subst (AllByRecursion (IsOfPlan old.project)) (sym running) (all_removed (IsOfPlan old.project) old.running.items index consistent.units));
    units_apart = subst (λ (items : List RunningUnit). AreApart (indices_of items)) (sym running) indices_apart;
    tickets = flies_less (child_of a.begun) refl lands ∙ ap tickets_of (sym running);
    tickets_apart = subst (λ (items : List RunningUnit). AreApart (tickets_of items)) (sym running) (apart_flat (λ (x : RunningUnit). ticket_in (child_of x.begun)) old.running.items index consistent.tickets_apart);
    numbers_apart = subst (λ (items : List RunningUnit). AreApart (numbers_of items)) (sym running) (apart_flat (λ (x : RunningUnit). number_in (child_of x.begun)) old.running.items index consistent.numbers_apart);
    before = subst (λ (items : List RunningUnit). AllByRecursion (IsBefore new.store.next) (numbers_of items)) (sym running)
        (all_flat (IsBefore new.store.next) (λ (x : RunningUnit). number_in (child_of x.begun)) old.running.items index
        (all_as (IsBefore old.store.next) (IsBefore new.store.next) (numbers_of old.running.items) (λ n. before_next old.store.next new.store.next n next) consistent.before));
  }

  -- the places of those that are left
  pub indices_left : indices_of new.running.items ≡ remove (indices_of old.running.items) index
  indices_left = ap indices_of running ∙ map_removed index_of_unit old.running.items index
