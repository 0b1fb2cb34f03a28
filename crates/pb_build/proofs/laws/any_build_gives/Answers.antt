use Rattle.pb_build.proofs.Sparing.{any_build_gives}
use Rattle.pb_build.proofs.laws.any_build_gives.Goals as goal

pub returns : goal.returns
returns c = any_build_gives
