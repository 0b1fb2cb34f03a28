use Rattle.pb_build_laws.proofs.Told.{lines_are_told, good_units_tell, bad_units_tell}
use Rattle.pb_build_laws.proofs.units_tell.Goals as goal

pub returns : goal.returns
returns c = record { lines = lines_are_told; good = good_units_tell; bad = bad_units_tell }
