use Rattle.std.proofs.Common.{◌≡◌, ◌++◌, subst}
use Rattle.pb_build.proofs.Called.{plan_first}
use Rattle.pb_build.proofs.builder.plan_build.Goals as goal
use Rattle.pb_build.specs.Causes.{variables_asked}
use Rattle.pb_build.specs.declared.environment.Environment.{Environment}
use Rattle.pb_place_types.proofs.CallsInTurn.{made_both}
use Rattle.pb_place_types.specs.CallsInTurn.{past_calls}
use Rattle.pb_place_types.specs.World.{World}
use Rattle.pb_workspace.specs.LookedAt.{looked_at}

pub returns-in-Err-clause-calls : goal.returns-in-Err-clause-calls
returns-in-Err-clause-calls g c told =
    plan_first c.in-Err.fault variables_asked _ (g.P.Place.at c.args.place.now).counts (g.P.Place.at c.environment_of.new.place).counts c.in-Err.ensures.calls

pub returns-in-Ok-plan_project-clause-calls : goal.returns-in-Ok-plan_project-clause-calls
returns-in-Ok-plan_project-clause-calls g c told =
    let made = made_both variables_asked (looked_at c.args.options.now.manifest c.in-Ok.environment.target (g.P.Place.at c.environment_of.new.place).world) (g.P.Place.at c.args.place.now).counts (g.P.Place.at c.environment_of.new.place).counts (g.P.Place.at c.plan_project.new.place).counts c.in-Ok.ensures.calls (c.in-Ok-plan_project.ensures.calls told) in
    subst (λ (e : Environment). (g.P.Place.at c.plan_project.new.place).counts ≡ past_calls (variables_asked ++ looked_at c.args.options.now.manifest e.target (g.P.Place.at c.args.place.now).world) (g.P.Place.at c.args.place.now).counts) (c.in-Ok.ensures.ok told)
    (subst (λ (w : World). (g.P.Place.at c.plan_project.new.place).counts ≡ past_calls (variables_asked ++ looked_at c.args.options.now.manifest c.in-Ok.environment.target w) (g.P.Place.at c.args.place.now).counts) c.in-Ok.ensures.quiet.world made)
