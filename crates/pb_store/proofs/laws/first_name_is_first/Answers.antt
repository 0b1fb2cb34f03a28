use Rattle.pb_store.proofs.Names.{first_is_first}
use Rattle.pb_store.proofs.laws.first_name_is_first.Goals as goal

pub returns : goal.returns
returns c = first_is_first
