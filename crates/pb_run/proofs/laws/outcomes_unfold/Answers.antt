use Rattle.pb_run.specs.Outcome.{outcome_of}
use Rattle.pb_run.proofs.Tables.{tabled-unfold}
use Rattle.pb_run.proofs.laws.outcomes_unfold.Goals as goal

pub returns : goal.returns
returns c = λ child setup project sources i u at. tabled-unfold (outcome_of child setup project sources) project.plan.planned i u at
