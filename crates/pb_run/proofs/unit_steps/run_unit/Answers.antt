use Rattle.std.proofs.Common.{subst}
use Rattle.pb_place_types.specs.declared.command.Command.{Command}
use Rattle.pb_run.specs.UnitSteps.{child_of}
use Rattle.pb_run.specs.Invariants.{records_folder}
use Rattle.pb_run.proofs.InTurn.{lifted_flies}
use Rattle.pb_run.proofs.Telling.{told_lands, tried_by}
use Rattle.pb_run.proofs.unit_steps.run_unit.Goals as goal
use Rattle.pb_store.specs.Differences.{FirstDifference}

pub answer_unit-requires-clause-flies : goal.answer_unit-requires-clause-flies
answer_unit-requires-clause-flies g c = lifted_flies (child_of c.in-Ok.begun) (g.P.Place.at c.args.place.now).counts.starts (g.P.Place.at c.begin_unit.new.place).counts.starts c.in-Ok.ensures.changes.takes.1

pub returns-in-Err-answer_unit-clause-tried : goal.returns-in-Err-answer_unit-clause-tried
returns-in-Err-answer_unit-clause-tried g c = λ is_modelled.
    tried_by (records_folder c.args.project.now) c.args.unit.now.key _ (g.P.Place.at c.args.place.now).world (child_of c.in-Ok.begun) c.in-Ok.begun.difference c.in-Ok.ensures.begins.spawned
    (subst (λ (command : Command). FirstDifference (records_folder c.args.project.now) c.args.unit.now.key command (g.P.Place.at c.args.place.now).world c.in-Ok.begun.difference) c.in-Ok.ensures.begins.asks (c.in-Ok.ensures.begins.differs is_modelled))
    (g.P.Place.at c.args.place.now).counts.starts (g.P.Place.at c.begin_unit.new.place).counts.starts (g.P.Place.at c.answer_unit.new.place).counts.starts c.in-Ok.ensures.changes.takes.1
    (told_lands _ _ _ _ _ _ _ _ _ _ _ c.in-Err-answer_unit.ensures.told)
