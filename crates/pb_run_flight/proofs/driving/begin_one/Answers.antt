use Rattle.pb_run_flight.proofs.Driven.{in_plan, not_flying, may_of}
use Rattle.pb_run_flight.proofs.driving.begin_one.Goals as goal

pub begin-requires-2-clause-unit : goal.begin-requires-2-clause-unit
begin-requires-2-clause-unit g c = in_plan c.args.flight.now (g.C.Executor.needs c.args.crew.now) c.args.unit c.requires.needs c.requires.ready

pub begin-requires-2-clause-grounded : goal.begin-requires-2-clause-grounded
begin-requires-2-clause-grounded g c =
    let (es, lawful, states, flying) = c.requires.flown in
    not_flying c.args.flight.now (g.C.Executor.needs c.args.crew.now) es (g.C.Executor.flying c.args.crew.now) c.args.unit c.requires.needs c.requires.ready lawful states flying

pub returns-in-Ok-clause-story : goal.returns-in-Ok-clause-story
returns-in-Ok-clause-story g c = λ first first_place first_out es given story flying lawful told states.
    (c.in-Ok.field-0, c.in-Ok.ensures.story first first_place first_out es given story flying lawful told (may_of c.args.flight.now (g.C.Executor.needs c.args.crew.now) es c.args.unit c.requires.needs c.requires.ready states))

pub returns-in-Err-clause-story : goal.returns-in-Err-clause-story
returns-in-Err-clause-story g c = λ first first_place first_out es given story flying lawful told states.
    c.in-Err.ensures.story first first_place first_out es given story flying lawful told (may_of c.args.flight.now (g.C.Executor.needs c.args.crew.now) es c.args.unit c.requires.needs c.requires.ready states)
