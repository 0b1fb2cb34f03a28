use Rattle.pb_build_turns.proofs.Repeating.{starts_nothing}
use Rattle.pb_build_turns.proofs.laws.nothing_differs_again.Goals as goal

pub returns : goal.returns
returns c = starts_nothing
