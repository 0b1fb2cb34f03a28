use Rattle.pb_unit_laws.proofs.Levelling.{levels_are, packages_have_names}
use Rattle.pb_unit_laws.proofs.levels_are_these.Goals as goal

pub returns : goal.returns
returns c = record { levels = levels_are; packages = packages_have_names }
