use Rattle.pb_build_laws.proofs.Calling.{calls_are_told}
use Rattle.pb_build_laws.proofs.calls_are_told.Goals as goal

pub returns : goal.returns
returns c = calls_are_told
