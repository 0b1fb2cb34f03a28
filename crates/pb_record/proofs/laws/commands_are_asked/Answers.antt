use Rattle.pb_record.proofs.CommandLemmas.{asked_is, command_is, same_asked}
use Rattle.pb_record.proofs.laws.commands_are_asked.Goals as goal

pub returns-clause-command : goal.returns-clause-command
returns-clause-command c = asked_is

pub returns-clause-asked : goal.returns-clause-asked
returns-clause-asked c = command_is

pub returns-clause-same : goal.returns-clause-same
returns-clause-same c = same_asked
