use Rattle.pb_directive.proofs.InfoWords.{infos_say}
use Rattle.pb_directive.proofs.laws.infos_say.Goals as goal

pub returns : goal.returns
returns c line answer = infos_say line answer
