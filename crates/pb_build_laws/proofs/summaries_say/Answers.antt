use Rattle.pb_build_laws.proofs.Summing.{summaries_say}
use Rattle.pb_build_laws.proofs.summaries_say.Goals as goal

pub returns : goal.returns
returns c = summaries_say
