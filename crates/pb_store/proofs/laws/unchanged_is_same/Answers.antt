use Rattle.pb_store.proofs.Once.{unchanged_is_same}
use Rattle.pb_store.proofs.laws.unchanged_is_same.Goals as goal

pub returns : goal.returns
returns c = unchanged_is_same
