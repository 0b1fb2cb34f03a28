use Rattle.pb_unit_laws.proofs.Resolving.{features_are_one}
use Rattle.pb_unit_laws.proofs.features_are_one.Goals as goal

pub returns : goal.returns
returns c = features_are_one
