use Rattle.pb_command_laws.proofs.Sayings.{sayings_keep_words}
use Rattle.pb_command_laws.proofs.sayings_keep_words.Goals as goal

pub returns : goal.returns
returns c = sayings_keep_words
