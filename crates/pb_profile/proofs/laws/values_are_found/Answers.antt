use Rattle.pb_profile.proofs.Found.{all_found}
use Rattle.pb_profile.proofs.laws.values_are_found.Goals as goal

pub returns : goal.returns
returns c = all_found
