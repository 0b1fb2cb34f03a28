use Rattle.pb_profile_keys.proofs.Indexed.{told_once}
use Rattle.pb_profile_keys.proofs.laws.keys_are_told_once.Goals as goal

pub returns : goal.returns
returns c = told_once
