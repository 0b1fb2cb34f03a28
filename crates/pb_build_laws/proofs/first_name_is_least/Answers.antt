use Rattle.pb_build_laws.proofs.Naming.{name_is_least}
use Rattle.pb_build_laws.proofs.first_name_is_least.Goals as goal

pub returns : goal.returns
returns c = name_is_least
