use Rattle.pb_unit_laws.proofs.Checking.{lines_are_checked}
use Rattle.pb_unit_laws.proofs.Inheriting.{lines_are}
use Rattle.pb_unit_laws.proofs.lines_are_these.Goals as goal

pub returns : goal.returns
returns c = record { lines = lines_are; checked = lines_are_checked }
