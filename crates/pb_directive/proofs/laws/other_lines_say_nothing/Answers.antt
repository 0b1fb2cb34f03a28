use Rattle.pb_directive.proofs.JoinLemmas.{said_other}
use Rattle.pb_directive.proofs.laws.other_lines_say_nothing.Goals as goal

pub returns : goal.returns
returns c number before after line new old = said_other number before after line new old
