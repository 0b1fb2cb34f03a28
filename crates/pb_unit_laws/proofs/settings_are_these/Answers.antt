use Rattle.pb_unit_laws.proofs.Setting.{settings_are}
use Rattle.pb_unit_laws.proofs.settings_are_these.Goals as goal

pub returns : goal.returns
returns c = settings_are
