use Rattle.pb_mini.proofs.HonestyLemmas.{tells}
use Rattle.pb_mini.proofs.laws.tells_names.Goals as goal

pub returns : goal.returns
returns c = tells
