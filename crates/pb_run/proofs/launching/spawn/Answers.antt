use Rattle.pb_run.proofs.Spawning.{spawned_lifts}
use Rattle.pb_run.proofs.launching.spawn.Goals as goal

pub returns-in-Ok-clause-takes : goal.returns-in-Ok-clause-takes
returns-in-Ok-clause-takes g c next =
    spawned_lifts (g.P.Place.child c.args.command.now) c.args.command.now (g.P.Place.at c.args.place.now).world _ _ _ c.in-Ok.ensures.spawns.fresh c.in-Ok.ensures.spawns.counts
