use Rattle.pb_data.proofs.MentionLemmas.{once-IsDistinct}
use Rattle.pb_data.proofs.ordered_set.once_is_distinct.Goals as goal

pub returns : goal.returns
returns c texts = once-IsDistinct texts
