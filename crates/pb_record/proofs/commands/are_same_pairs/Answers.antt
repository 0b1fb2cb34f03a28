use Rattle.pb_record.proofs.CommandLemmas.{pairs_same}
use Rattle.pb_record.proofs.commands.are_same_pairs.Goals as goal

pub returns : goal.returns
returns c = pairs_same c.args.pairs.now c.args.others.now c.eq.result c.eq.ensures
