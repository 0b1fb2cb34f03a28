use Rattle.pb_directive.proofs.JoinLemmas.{directives-followed_by}
use Rattle.pb_directive.proofs.laws.directives_concatenate.Goals as goal

pub returns : goal.returns
returns c text more = directives-followed_by text more
