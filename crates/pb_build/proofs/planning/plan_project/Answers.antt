use Rattle.pb_build.proofs.Called.{refused_stops}
use Rattle.pb_build.proofs.Refusals.{refused_there}
use Rattle.pb_build.proofs.planning.plan_project.Goals as goal
use Rattle.pb_workspace.specs.LookedAt.{looked_at}

pub returns-in-Err-project_of-clause-refused : goal.returns-in-Err-project_of-clause-refused
returns-in-Err-project_of-clause-refused g c told =
    refused_there c.args.options.now c.args.target.now (g.P.Place.at c.args.place.now).world c.in-Ok.workspace c.in-Err-project_of.fault (c.in-Ok.ensures.ok told) c.in-Err-project_of.ensures.refused

pub returns-in-Err-project_of-clause-calls : goal.returns-in-Err-project_of-clause-calls
returns-in-Err-project_of-clause-calls g c told =
    refused_stops c.args.options.now c.in-Ok.workspace c.in-Err-project_of.fault (looked_at c.args.options.now.manifest c.args.target.now (g.P.Place.at c.args.place.now).world) (g.P.Place.at c.args.place.now).counts (g.P.Place.at c.read.new.place).counts
    c.in-Err-project_of.ensures.refused (c.in-Ok.ensures.calls told)
