-- A unit that is not in flight has no child in flight.
use Rattle.std.proofs.Common.{◌≡◌, ◌≢◌, ◌∙◌, ◌++◌, inl, inr, cond, List, [], ◌∷◌, ℕ, zero, suc, Option, Some, None, Contains, IfSome, refl, sym, ap, subst, map, slice_get}
use Rattle.std.proofs.lemmas.Bool.{cases_eq, false≢true, ne_eqb}
use Rattle.std.specs.List.{AllByRecursion, remove}
use Rattle.pb_build_result.specs.declared.bad_unit.BadUnit.{BadUnit}
use Rattle.pb_run_flight.specs.Events.{Event}
use Rattle.pb_run_flight.proofs.Lists.{injective, clash, contains_none, contains_head, contains_tail, contains_cases, contains_at, at_contains}
use Rattle.pb_place_types.specs.Children.{child_at}
use Rattle.pb_place_types.specs.World.{World}
use Rattle.pb_place_types.specs.declared.child_in_flight.ChildInFlight.{ChildInFlight}
use Rattle.pb_place_types.proofs.Within.{at_itself}
use Rattle.pb_command_types.specs.Targets.{unit_at}
use Rattle.pb_command_types.specs.declared.project.Project.{Project}
use Rattle.pb_run.specs.UnitSteps.{WritesTo, child_of}
use Rattle.pb_run.specs.Invariants.{IsInOrder}
use Rattle.pb_run.specs.declared.begun.SpawnedChild.{SpawnedChild}
use Rattle.pb_build_turns.specs.Executor.{AreApart, IsOfPlan, index_of_unit, indices_of, ticket_in, ticket_of_child, tickets_of}
use Rattle.pb_build_turns.specs.History.{Changes, FliesIn, NoneWritesTo}
use Rattle.pb_build_turns.specs.declared.executor.RunningUnit.{RunningUnit}
use Rattle.pb_build_turns.proofs.Lists.{all_get, get_map}
use Rattle.pb_unit.specs.declared.plan.Planned.{Planned}

-- a number that is taken out of numbers of which no two are one is there no more
pub apart_removed : (ns : List ℕ) (k n : ℕ) → AreApart ns → slice_get ns k ≡ Some n → Contains (remove ns k) n → ⊥
apart_removed [] k n apart at has = clash at
apart_removed (x ∷ ns) zero n apart at has = let (j, there) = contains_at ns n has in all_get (λ m. x ≢ m) ns j n apart.0 there (injective at)
apart_removed (x ∷ ns) (suc k) n apart at has = elim (contains_cases x (remove ns k) n has) [
  | inl same ↦ all_get (λ m. x ≢ m) ns k n apart.0 at same
  | inr more ↦ apart_removed ns k n apart.1 at more
]

-- the ticket of a child in flight
has_ticket : (ticket : ℕ) (flying : List ChildInFlight) (its : ChildInFlight) → child_at ticket flying ≡ Some its → Contains (map ticket_of_child flying) ticket
has_ticket ticket [] its at = absurd (clash at)
has_ticket ticket (f ∷ flying) its at = elim (cases_eq f.ticket ticket) [
  | inl same ↦ subst (λ (t : ℕ). Contains (f.ticket ∷ map ticket_of_child flying) t) same (contains_head f.ticket (map ticket_of_child flying))
  | inr ne ↦ contains_tail f.ticket (map ticket_of_child flying) ticket (has_ticket ticket flying its (sym (ap (λ b. cond b (Some f) (child_at ticket flying)) (ne_eqb f.ticket ticket ne)) ∙ at))
]

-- the unit in flight whose child has this ticket
record Owner (running : List RunningUnit) (ticket : ℕ) : Type 0 where
  pub index : ℕ
  pub one : RunningUnit
  pub at : slice_get running index ≡ Some one
  pub child : SpawnedChild
  pub is : child_of one.begun ≡ Some child
  pub its : child.ticket ≡ ticket

owner_of : (running : List RunningUnit) (ticket : ℕ) → Contains (tickets_of running) ticket → Owner running ticket
owner_of [] ticket has = absurd (contains_none ticket has)
owner_of (y ∷ running) ticket has = by (child_of y.begun) refl (λ more. owner_of running ticket more) has
  where
    later : Owner running ticket → Owner (y ∷ running) ticket
    later o = record { index = suc o.index; one = o.one; at = o.at; child = o.child; is = o.is; its = o.its }

    by : (o : Option SpawnedChild) → child_of y.begun ≡ o → (Contains (tickets_of running) ticket → Owner running ticket) → Contains (ticket_in o ++ tickets_of running) ticket → Owner (y ∷ running) ticket
    by None is rest has = later (rest has)
    by (Some l) is rest has = elim (contains_cases l.ticket (tickets_of running) ticket has) [
      | inl same ↦ record { index = 0; one = y; at = refl; child = l; is = is; its = same }
      | inr more ↦ later (rest more)
    ]

pub none_writes : (project : Project) (order : IsInOrder project) (first w : World) (running : List RunningUnit) (es : List (Event BadUnit)) (flying : List ChildInFlight) → AllByRecursion (IsOfPlan project) running → map ticket_of_child flying ≡ tickets_of running
    → Changes project first running es w flying → (unit_index : ℕ) (u : Planned) → unit_at project unit_index ≡ Some u → (Contains (indices_of running) unit_index → ⊥) → NoneWritesTo u.out flying
none_writes project order first w running es flying of_plan tickets changes unit_index u there grounded ticket its at out =
    let o = owner_of running ticket (subst (λ (ts : List ℕ). Contains ts ticket) tickets (has_ticket ticket flying its at)) in
    let planned : IsOfPlan project o.one = all_get (IsOfPlan project) running o.index o.one of_plan o.at in
    let flies : FliesIn project es w flying o.one = all_get (FliesIn project es w flying) running o.index o.one changes.flies o.at in
    let writes : WritesTo planned.unit.out (Some o.child) flying = subst (λ (l : Option SpawnedChild). WritesTo planned.unit.out l flying) o.is (flies.writes planned.unit planned.there) in
    let its_out : its.command.out ≡ Some planned.unit.out = subst (λ (c : Option ChildInFlight). IfSome c (λ s. s.command.out ≡ Some planned.unit.out)) (ap (λ (t : ℕ). child_at t flying) o.its ∙ at) writes in
    let same : planned.unit.out ≡ u.out = injective (sym its_out ∙ out) in
    let ne : o.one.unit ≢ unit_index = λ e. grounded (subst (Contains (indices_of running)) e (at_contains (indices_of running) o.index o.one.unit (get_map index_of_unit running o.index o.one o.at))) in
    false≢true (sym (order.apart o.one.unit unit_index planned.unit u planned.there there ne planned.unit.out (at_itself planned.unit.out planned.unit.out refl)) ∙ at_itself u.out planned.unit.out (sym same))
