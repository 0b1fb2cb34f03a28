use Rattle.pb_message_laws.proofs.Streams.{lines_follow}
use Rattle.pb_message_laws.proofs.lines_follow.Goals as goal

pub returns : goal.returns
returns c = lines_follow
