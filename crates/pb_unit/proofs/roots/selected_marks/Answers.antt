use Rattle.pb_unit.proofs.Sets.{least_seeds}
use Rattle.pb_unit.proofs.roots.selected_marks.Goals as goal

pub returns : goal.returns
returns c = least_seeds _ _ c.in_ok-marks.ensures
