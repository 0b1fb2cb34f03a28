use Rattle.pb_directive.proofs.TextLemmas.{after_prefix-strips}
use Rattle.pb_directive.proofs.texts.after_prefix.Goals as goal

pub returns : goal.returns
returns c = after_prefix-strips _ _ _ c.strip_prefix.ensures.cases
