use Rattle.pb_build_laws.proofs.Asking.{part_for_part}
use Rattle.pb_build_laws.proofs.asked_part_for_part.Goals as goal

pub returns : goal.returns
returns c = part_for_part
