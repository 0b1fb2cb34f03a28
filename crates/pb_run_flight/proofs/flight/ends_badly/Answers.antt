use Rattle.std.proofs.Common.{◌≡◌, ◌-◌, List, ℕ, zero, suc, ap, refl, arith, slice_get}
use Rattle.pb_run_flight.specs.declared.flight.State.{State}
use Rattle.pb_run_flight.specs.Working.{ends_badly, is_bad_at}
use Rattle.pb_data.proofs.Looking.{looked_past, looked_within}
use Rattle.pb_run_flight.proofs.flight.ends_badly.Goals as goal

by_last : {F : Type 0} (count : ℕ) (states : List (State F)) → (count ≡ 0 → ⊥) → ends_badly count states ≡ is_bad_at (slice_get states (count - 1))
by_last zero states ne = absurd (ne refl)
by_last (suc n) states ne = ap (λ m. is_bad_at (slice_get states m)) (omega arith)

pub returns-in-None : goal.returns-in-None
returns-in-None g c = rw (by_last c.args.count c.args.states.now c.if-count-eq0.false, looked_past c.args.states.now (c.args.count - 1) c.in-None.ensures.lookup.0) refl

pub returns-in-Some : goal.returns-in-Some
returns-in-Some g c = rw (by_last c.args.count c.args.states.now c.if-count-eq0.false, looked_within c.args.states.now (c.args.count - 1) c.in-Some.state.now c.in-Some.ensures.lookup.0 c.in-Some.ensures.lookup.1) c.is_bad.ensures
