use Rattle.std.proofs.Common.{◌∙◌, ap}
use Rattle.std.specs.List.{list_any}
use Rattle.pb_place_types.specs.World.{is_same_path}
use Rattle.pb_place_types.proofs.Worlds.{written-listed}
use Rattle.pb_tests_place.proofs.honest.written_then_listed.Goals as goal

pub returns-clause-listed : goal.returns-clause-listed
returns-clause-listed g c = λ told. ap (list_any (is_same_path c.args.path.now)) (c.in_ok-paths.ensures.ok told) ∙ written-listed _ _ _ _ _ (c.in_ok-write.ensures.ok told)
