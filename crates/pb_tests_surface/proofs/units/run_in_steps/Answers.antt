use Rattle.pb_run.specs.UnitSteps.{child_of}
use Rattle.pb_run.proofs.InTurn.{lifted_flies}
use Rattle.pb_tests_surface.proofs.units.run_in_steps.Goals as goal

pub answer_unit-outcome-requires-clause-flies : goal.answer_unit-outcome-requires-clause-flies
answer_unit-outcome-requires-clause-flies g c = lifted_flies (child_of c.in-Ok.begun) (g.P.Place.at c.open.new.place).counts.starts (g.P.Place.at c.begin_unit.new.place).counts.starts c.in-Ok.ensures.changes.takes.1
