use Rattle.pb_build.proofs.OneResult.{one_result}
use Rattle.pb_build.proofs.laws.worlds_have_one_result.Goals as goal

pub returns : goal.returns
returns c = one_result
