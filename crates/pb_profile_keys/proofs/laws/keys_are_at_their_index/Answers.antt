use Rattle.pb_profile_keys.proofs.Indexed.{at_index}
use Rattle.pb_profile_keys.proofs.laws.keys_are_at_their_index.Goals as goal

pub returns : goal.returns
returns c = at_index
