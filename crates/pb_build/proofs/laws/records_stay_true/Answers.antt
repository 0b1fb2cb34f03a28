use Rattle.pb_build.proofs.Sparing.{nothing_is_sound, records_stay_true}
use Rattle.pb_build.proofs.laws.records_stay_true.Goals as goal

pub returns-clause-empty : goal.returns-clause-empty
returns-clause-empty c = nothing_is_sound

pub returns-clause-stay : goal.returns-clause-stay
returns-clause-stay c = records_stay_true
