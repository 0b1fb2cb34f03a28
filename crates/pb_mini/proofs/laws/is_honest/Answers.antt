use Rattle.pb_mini.proofs.HonestyLemmas.{honest}
use Rattle.pb_mini.proofs.laws.is_honest.Goals as goal

pub returns : goal.returns
returns c = honest
