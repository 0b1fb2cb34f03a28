use Rattle.pb_unit_laws.proofs.Having.{plans_have}
use Rattle.pb_unit_laws.proofs.Making.{units_make, runs_make}
use Rattle.pb_unit_laws.proofs.units_make_targets.Goals as goal

pub returns : goal.returns
returns c = record { targets = units_make; runs = runs_make; plans = plans_have }
