use Rattle.std.proofs.Common.{ℕ, List, refl}
use Rattle.pb_build.specs.Ending.{PicksFirstOf}
use Rattle.pb_build.proofs.Lending.{built_by, builds_as}
use Rattle.pb_build_turns.specs.Executor.{moment}
use Rattle.pb_run_flight.specs.Steps.{TurnsOfJobs}
use Rattle.pb_run_flight.specs.declared.turn.First.{First}
use Rattle.pb_run_flight.specs.declared.turn.Jobs.{Jobs}
use Rattle.pb_run_flight.specs.declared.turn.Step.{Step}
use Rattle.pb_tool_progress.specs.Watching.{TurnsWatched}
use Rattle.pb_tool_progress.specs.declared.watched.Watched.{Watched}
use Rattle.pb_tool_progress.proofs.Wrapping.{builds_on_as}
use Rattle.pb_tool_progress.proofs.building.build_shown.Goals as goal

inside : {S : Type 0} → Watched S → Jobs First
inside now = now.jobs

decides_as : {S : Type 0} (now : Watched S) (ready flying : List ℕ) (step : Step) (next : Watched S) → TurnsWatched now ready flying step next → TurnsOfJobs PicksFirstOf now.jobs ready flying step next.jobs
decides_as now ready flying step next turned = turned

pub returns-clause-on : goal.returns-clause-on
returns-clause-on g c = (
  record { pick = record {}; jobs = c.args.options.now.jobs },
  refl,
  c.build_plan_turns.new.turn.jobs,
  builds_on_as TurnsWatched (TurnsOfJobs PicksFirstOf) (λ now. now.jobs) decides_as g.P.Place.is_modelled g.P.Place.child c.args.options.now c.args.plan _ c.build_plan_turns.new.turn c.build_plan_turns.result
      (moment (g.P.Place.at c.args.place.now) (g.O.Out.heard c.args.out.now))
      (moment (g.P.Place.at c.build_plan_turns.new.place) (g.O.Out.heard c.build_plan_turns.new.out)) c.build_plan_turns.ensures.on,
)

pub returns-clause-builds : goal.returns-clause-builds
returns-clause-builds g c = λ from planned.
    built_by PicksFirstOf g.P.Place.is_modelled g.P.Place.child c.args.options.now _ c.build_plan_turns.new.turn.jobs c.build_plan_turns.result from
    (moment (g.P.Place.at c.build_plan_turns.new.place) (g.O.Out.heard c.build_plan_turns.new.out))
    (builds_as TurnsWatched (TurnsOfJobs PicksFirstOf) (λ now. now.jobs) decides_as g.P.Place.is_modelled g.P.Place.child c.args.options.now _ c.build_plan_turns.new.turn c.build_plan_turns.result from
    (moment (g.P.Place.at c.build_plan_turns.new.place) (g.O.Out.heard c.build_plan_turns.new.out)) (c.build_plan_turns.ensures.builds from planned))
