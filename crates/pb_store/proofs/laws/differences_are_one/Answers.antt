use Rattle.pb_store.proofs.Once.{one_difference}
use Rattle.pb_store.proofs.laws.differences_are_one.Goals as goal

pub returns : goal.returns
returns c = one_difference
