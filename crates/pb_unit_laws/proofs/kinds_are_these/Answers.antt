use Rattle.pb_unit_laws.proofs.Sorts.{kinds_are, roles_are, folders_are, runs_say}
use Rattle.pb_unit_laws.proofs.kinds_are_these.Goals as goal

pub returns : goal.returns
returns c = record { kinds = kinds_are; roles = roles_are; folders = folders_are; said = runs_say }
