use Rattle.pb_record.proofs.LawLemmas.{one_reading}
use Rattle.pb_record.proofs.laws.texts_have_one_reading.Goals as goal

pub returns : goal.returns
returns c = one_reading
