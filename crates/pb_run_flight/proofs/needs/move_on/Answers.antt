use Rattle.std.proofs.Common.{◌≡◌, ◌≤◌, ◌∙◌, inl, inr, ℕ, List, ap, subst, arith, drop, [], length, slice_index_or}
use Rattle.std.specs.Prelude.{slice_index}
use Rattle.std.proofs.lemmas.Bool.{cases_lt}
use Rattle.std.proofs.lemmas.List.{get_or_past}
use Rattle.pb_run_flight.specs.declared.flight.State.{State}
use Rattle.pb_run_flight.specs.Working.{AreKnown, count_met, units_at}
use Rattle.pb_run_flight.proofs.Keeping.{known_more, known_all}
use Rattle.pb_run_flight.proofs.Lists.{drop_past, length_set}
use Rattle.pb_run_flight.proofs.needs.move_on.Goals as goal

-- a count that is kept is no more than what is right, past the last unit too
low : {F : Type 0} (needs : List (List ℕ)) (states : List (State F)) (units met : List ℕ) (u : ℕ) → length met ≡ length needs → AreKnown needs states units met → slice_index met u ≤ count_met states (units_at needs u)
low needs states units met u long known = elim (cases_lt u (length needs)) [
  | inl within ↦ known.each u within
  | inr past ↦ omega (arith, get_or_past met u 0 (omega (arith, long, past)))
]

pub move_one-reach-requires-clause-low : goal.move_one-reach-requires-clause-low
move_one-reach-requires-clause-low g c =
    low c.args.needs.now c.args.states.now (drop c.loop-unit.unit-index c.args.units.now) c.loop-unit.met.items (slice_index_or c.args.units.now c.loop-unit.unit-index 0) c.loop-unit.invariant.long c.loop-unit.invariant.known

pub loop-unit-preserved : goal.loop-unit-preserved
loop-unit-preserved g c = record {
  long = ap length c.move_one-reach.ensures.met ∙ length_set c.loop-unit.met.items _ _ ∙ c.loop-unit.invariant.long;
  known = known_more c.args.needs.now c.args.states.now c.args.units.now c.loop-unit.unit-index c.loop-unit.met.items c.move_one-reach.new.met.items c.loop-unit-test.true c.loop-unit.invariant.long c.loop-unit.invariant.known c.move_one-reach.ensures.met;
  far = c.move_one-reach.ensures.far c.loop-unit.invariant.far;
}

pub returns-clause-met : goal.returns-clause-met
returns-clause-met g c =
    let none : drop c.loop-unit.unit-index c.args.units.now ≡ [] = drop_past c.args.units.now c.loop-unit.unit-index (omega arith) in
    known_all c.args.needs.now c.args.states.now c.loop-unit.met.items c.loop-unit.invariant.long (subst (λ us. AreKnown c.args.needs.now c.args.states.now us c.loop-unit.met.items) none c.loop-unit.invariant.known)
