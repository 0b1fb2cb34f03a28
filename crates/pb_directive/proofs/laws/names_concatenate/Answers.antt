use Rattle.pb_directive.proofs.JoinLemmas.{names-followed_by}
use Rattle.pb_directive.proofs.laws.names_concatenate.Goals as goal

pub returns : goal.returns
returns c text more = names-followed_by text more
