use Rattle.pb_command_laws.proofs.Wanted.{libraries_are_wanted, compiles_hear_runs, runs_start_scripts}
use Rattle.pb_command_laws.proofs.commands_follow_plans.Goals as goal

pub returns : goal.returns
returns c = record { libraries = libraries_are_wanted; heard = compiles_hear_runs; scripts = runs_start_scripts }
