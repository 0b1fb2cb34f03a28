use Rattle.pb_build_laws.proofs.Giving.{inputs_are_judged}
use Rattle.pb_build_laws.proofs.inputs_are_judged.Goals as goal

pub returns : goal.returns
returns c = inputs_are_judged
