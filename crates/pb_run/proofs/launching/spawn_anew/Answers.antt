use Rattle.pb_run.proofs.Ending.{begun_after, lifted_after}
use Rattle.pb_run.proofs.Spawning.{spawned_anew}
use Rattle.pb_run.proofs.launching.spawn_anew.Goals as goal

pub returns-in-Ok-clause-spawned : goal.returns-in-Ok-clause-spawned
returns-in-Ok-clause-spawned g c told =
    spawned_anew g.P.Place.child c.args.command.now c.args.out.now (g.P.Place.at c.args.place.now).world (g.P.Place.at c.empty.new.place).world _ _ _ c.requires.out (c.in_ok-empty.ensures.ok told)
    c.in-Ok.ensures.flies c.in-Ok.ensures.stands

pub returns-in-Ok-clause-takes : goal.returns-in-Ok-clause-takes
returns-in-Ok-clause-takes g c next =
    lifted_after _ (g.P.Place.at c.args.place.now).counts (g.P.Place.at c.empty.new.place).counts (g.P.Place.at c.spawn.new.place).counts c.in_ok-empty.ensures.changes.takes.0 c.in_ok-empty.ensures.changes.takes.1 (c.in-Ok.ensures.takes next)

pub returns-in-Err-clause-takes : goal.returns-in-Err-clause-takes
returns-in-Err-clause-takes g c next =
    begun_after next _ (g.P.Place.at c.args.place.now).counts (g.P.Place.at c.empty.new.place).counts (g.P.Place.at c.spawn.new.place).counts c.in_ok-empty.ensures.changes.takes.0 c.in_ok-empty.ensures.changes.takes.1 (c.in-Err.ensures.takes next)
