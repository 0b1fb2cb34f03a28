use Rattle.std.proofs.Common.{rules}
use Rattle.pb_data.proofs.Looking.{looked_past, looked_within}
use Rattle.pb_run_flight.proofs.flight.Flight.is_flying.Goals as goal

pub returns-in-None : goal.returns-in-None
returns-in-None g c = rw (← c.self.view_is, ← c.as_slice.ensures.value, looked_past c.as_slice.result.now c.args.unit c.in-None.ensures.lookup.0) (search rules)

pub returns-in-Some-Untouched : goal.returns-in-Some-Untouched
returns-in-Some-Untouched g c =
    let look = looked_within c.as_slice.result.now c.args.unit c.in-Some-Untouched.field-0.now c.in-Some-Untouched.ensures.lookup.0 c.in-Some-Untouched.ensures.lookup.1 in
    rw (← c.self.view_is, ← c.as_slice.ensures.value, look, c.in-Some-Untouched.field-0-is) (search rules)

pub returns-in-Some-Begun : goal.returns-in-Some-Begun
returns-in-Some-Begun g c =
    let look = looked_within c.as_slice.result.now c.args.unit c.in-Some-Begun.field-0.now c.in-Some-Begun.ensures.lookup.0 c.in-Some-Begun.ensures.lookup.1 in
    rw (← c.self.view_is, ← c.as_slice.ensures.value, look, c.in-Some-Begun.field-0-is) (search rules)

pub returns-in-Some-Answered : goal.returns-in-Some-Answered
returns-in-Some-Answered g c =
    let look = looked_within c.as_slice.result.now c.args.unit c.in-Some-Answered.field-0.now c.in-Some-Answered.ensures.lookup.0 c.in-Some-Answered.ensures.lookup.1 in
    rw (← c.self.view_is, ← c.as_slice.ensures.value, look, c.in-Some-Answered.field-0-is) (search rules)
