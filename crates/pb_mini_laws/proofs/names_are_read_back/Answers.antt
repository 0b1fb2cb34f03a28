use Rattle.pb_mini_laws.proofs.Reading.{reads_back}
use Rattle.pb_mini_laws.proofs.names_are_read_back.Goals as goal

pub returns : goal.returns
returns c = reads_back
