use Rattle.pb_store_soundness.proofs.Flying.{others, number_waits}
use Rattle.pb_store_soundness.proofs.laws.others_stay_apart.Goals as goal

pub returns : goal.returns
returns c = record {
  others = others;
  waits = number_waits;
}
