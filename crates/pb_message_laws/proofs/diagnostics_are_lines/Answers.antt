use Rattle.pb_message_laws.proofs.Diagnostics.{diagnostics_are_lines}
use Rattle.pb_message_laws.proofs.diagnostics_are_lines.Goals as goal

pub returns : goal.returns
returns c = diagnostics_are_lines
