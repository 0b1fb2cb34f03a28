use Rattle.pb_message_laws.proofs.Telling.{lines_tell_messages}
use Rattle.pb_message_laws.proofs.lines_tell_messages.Goals as goal

pub returns : goal.returns
returns c = lines_tell_messages
