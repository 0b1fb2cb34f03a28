use Rattle.pb_tool_clean.proofs.Made.{chosen_are_made}
use Rattle.pb_tool_clean.proofs.laws.chosen_are_made.Goals as goal

pub returns : goal.returns
returns c = chosen_are_made
