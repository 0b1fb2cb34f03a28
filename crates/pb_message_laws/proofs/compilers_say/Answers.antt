use Rattle.pb_message_laws.proofs.Streams.{compilers_say}
use Rattle.pb_message_laws.proofs.compilers_say.Goals as goal

pub returns : goal.returns
returns c = compilers_say
