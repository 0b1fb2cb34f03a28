use Rattle.pb_build_laws.proofs.Giving.{outcomes_are_these}
use Rattle.pb_build_laws.proofs.outcomes_are_these.Goals as goal

pub returns : goal.returns
returns c = outcomes_are_these
