use Rattle.pb_record.proofs.SkipLemmas.{no_head, no_rest, says_needs}
use Rattle.pb_record.proofs.numbers.numbers_numbered.Goals as goal

pub returns-in_default : goal.returns-in_default
returns-in_default c = no_head (rw c.in_default.is at c.in_ok-found.ensures)

pub returns-in-Some-2 : goal.returns-in-Some-2
returns-in-Some-2 c = says_needs (rw c.in-Some.is at c.in_ok-found.ensures) (rw c.in-Some-2.is at c.in_ok-needs.ensures)

pub returns-in-None : goal.returns-in-None
returns-in-None c = no_rest (rw c.in-Some.is at c.in_ok-found.ensures) (rw c.in-None.is at c.in_ok-needs.ensures)
