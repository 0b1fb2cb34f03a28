use Rattle.pb_build.specs.Result.{finished}
use Rattle.pb_build.proofs.laws.units_are_of_the_result.Goals as goal

pub returns : goal.returns
returns c child options w units = finished units.project units.toolchain units.is units.says
