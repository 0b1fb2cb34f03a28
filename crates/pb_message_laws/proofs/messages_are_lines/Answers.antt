use Rattle.pb_message_laws.proofs.Lines.{messages_are_lines, builds_end_in_line}
use Rattle.pb_message_laws.proofs.messages_are_lines.Goals as goal

pub returns : goal.returns
returns c = record { messages = messages_are_lines; end = builds_end_in_line }
