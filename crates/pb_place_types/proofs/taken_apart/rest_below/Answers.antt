use Rattle.pb_place_types.proofs.TakenApart.{cut_after}
use Rattle.pb_place_types.proofs.taken_apart.rest_below.Goals as goal

pub range_from-requires : goal.range_from-requires
range_from-requires c = λ some. cut_after c.args.stem.now c.args.path.now c.utf8.path c.requires
