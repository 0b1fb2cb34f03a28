use Rattle.pb_data.proofs.MentionLemmas.{mentioned_all-once}
use Rattle.pb_data.proofs.ordered_set.mentions_are_once.Goals as goal

pub returns : goal.returns
returns c texts = mentioned_all-once texts
