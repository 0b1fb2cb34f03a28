use Rattle.pb_data.proofs.MentionLemmas.{is_mentioned-once}
use Rattle.pb_data.proofs.ordered_set.once_keeps_texts.Goals as goal

pub returns : goal.returns
returns c texts text = is_mentioned-once texts text
