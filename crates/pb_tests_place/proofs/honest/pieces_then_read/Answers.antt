use Rattle.std.proofs.Common.{◌∙◌}
use Rattle.pb_place_types.proofs.Worlds.{written-read}
use Rattle.pb_tests_place.proofs.honest.pieces_then_read.Goals as goal

pub returns-clause-found : goal.returns-clause-found
returns-clause-found g c = λ told. c.in_ok-found.ensures.ok told ∙ written-read _ _ _ _ (c.in_ok-write_pieces.ensures.ok told)
