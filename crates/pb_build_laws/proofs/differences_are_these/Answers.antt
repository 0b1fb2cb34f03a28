use Rattle.pb_build_laws.proofs.Differing.{differences_are_these}
use Rattle.pb_build_laws.proofs.differences_are_these.Goals as goal

pub returns : goal.returns
returns c = differences_are_these
