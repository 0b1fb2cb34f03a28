use Rattle.pb_build.proofs.Edits.{unaffected}
use Rattle.pb_build.proofs.laws.earlier_builds_change_nothing.Goals as goal

pub returns : goal.returns
returns c = unaffected
