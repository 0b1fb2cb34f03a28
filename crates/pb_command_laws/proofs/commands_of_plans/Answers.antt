use Rattle.pb_command_laws.proofs.OfPlans.{compiles_of_plans, runs_of_plans}
use Rattle.pb_command_laws.proofs.commands_of_plans.Goals as goal

pub returns : goal.returns
returns c = record { compiles = compiles_of_plans; runs = runs_of_plans }
