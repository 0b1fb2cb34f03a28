use Rattle.pb_place_types.proofs.Worlds.{partly-all, partly-none}
use Rattle.pb_tests_place.proofs.failing.partial_removals.Goals as goal

pub returns : goal.returns
returns c = record { all = partly-all; none = partly-none }
