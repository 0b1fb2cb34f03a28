use Rattle.pb_place_types.proofs.Worlds.{torn-old, torn-first, torn-none}
use Rattle.pb_tests_place.proofs.failing.torn_writes.Goals as goal

pub returns : goal.returns
returns c = record { old = torn-old; first = torn-first; none = torn-none }
