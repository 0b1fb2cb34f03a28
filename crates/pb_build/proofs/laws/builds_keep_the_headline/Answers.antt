use Rattle.pb_build.specs.Ending.{PicksFirstOf}
use Rattle.pb_build.proofs.Headline.{headline}
use Rattle.pb_run_flight.specs.Steps.{TurnsOfJobs}
use Rattle.pb_build.proofs.laws.builds_keep_the_headline.Goals as goal

pub returns-clause-turns : goal.returns-clause-turns
returns-clause-turns g c = λ is_modelled child options from last result old new builds. headline is_modelled child g.T.Turn.turns options from last result old new builds

pub returns-clause-first : goal.returns-clause-first
returns-clause-first g c = λ is_modelled child options result old new builds. headline is_modelled child (TurnsOfJobs PicksFirstOf) options _ _ result old new builds
