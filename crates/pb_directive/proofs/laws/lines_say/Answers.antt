use Rattle.pb_directive.proofs.LineLemmas.{lines_say}
use Rattle.pb_directive.proofs.laws.lines_say.Goals as goal

pub returns : goal.returns
returns c line answer = lines_say line answer
