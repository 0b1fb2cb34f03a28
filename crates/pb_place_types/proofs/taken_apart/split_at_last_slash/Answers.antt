use Rattle.pb_place_types.proofs.TakenApart.{last_part-splits}
use Rattle.pb_place_types.proofs.taken_apart.split_at_last_slash.Goals as goal

pub returns : goal.returns
returns c = last_part-splits c.args.text.now _ c.rsplit_once.ensures.cases
