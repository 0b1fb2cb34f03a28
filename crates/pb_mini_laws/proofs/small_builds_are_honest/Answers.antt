use Rattle.pb_mini_laws.proofs.Honest.{small_builds_are_honest}
use Rattle.pb_mini_laws.proofs.small_builds_are_honest.Goals as goal

pub returns : goal.returns
returns c = small_builds_are_honest
