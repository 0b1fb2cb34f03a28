use Rattle.std.proofs.Common.{rules}
use Rattle.pb_data.proofs.Looking.{looked_past, looked_within}
use Rattle.pb_run_flight.proofs.flight.is_good_at.Goals as goal

pub get-requires : goal.get-requires
get-requires g c κs = search rules

pub returns-in-None : goal.returns-in-None
returns-in-None g c = let e = looked_past c.args.states.now c.args.place c.in-None.ensures.lookup.0 in simp e

pub returns-in-Some-Untouched : goal.returns-in-Some-Untouched
returns-in-Some-Untouched g c = let e = looked_within c.args.states.now c.args.place c.in-Some-Untouched.field-0.now c.in-Some-Untouched.ensures.lookup.0 c.in-Some-Untouched.ensures.lookup.1 in simp (e, c.in-Some-Untouched.field-0-is)

pub returns-in-Some-Begun : goal.returns-in-Some-Begun
returns-in-Some-Begun g c = let e = looked_within c.args.states.now c.args.place c.in-Some-Begun.field-0.now c.in-Some-Begun.ensures.lookup.0 c.in-Some-Begun.ensures.lookup.1 in simp (e, c.in-Some-Begun.field-0-is)

pub returns-in-Some-Answered : goal.returns-in-Some-Answered
returns-in-Some-Answered g c = let e = looked_within c.args.states.now c.args.place c.in-Some-Answered.field-0.now c.in-Some-Answered.ensures.lookup.0 c.in-Some-Answered.ensures.lookup.1 in simp (e, c.in-Some-Answered.field-0-is) (search rules)
