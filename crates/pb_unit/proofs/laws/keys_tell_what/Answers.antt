use Rattle.pb_unit.proofs.Telling.{keys_tell_what}
use Rattle.pb_unit.proofs.laws.keys_tell_what.Goals as goal

pub returns : goal.returns
returns c = keys_tell_what
