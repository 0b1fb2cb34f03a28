use Rattle.pb_unit_laws.proofs.Needing.{needs_are}
use Rattle.pb_unit_laws.proofs.needs_are_these.Goals as goal

pub returns : goal.returns
returns c = needs_are
