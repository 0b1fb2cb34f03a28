use Rattle.pb_record.proofs.SkipLemmas.{has_needs, no_end, no_needs}
use Rattle.std.proofs.lemmas.Bool.{true≢false}
use Rattle.std.proofs.Common.{◌∙◌, sym}
use Rattle.pb_record.proofs.numbers.needs_at.Goals as goal

pub returns-then-branch : goal.returns-then-branch
returns-then-branch c = has_needs (rw c.in-Some.is at c.in_ok-behind.ensures) c.in-Some-found.needs c.in-Some-found.rest.now (rw c.in-Some-found.is at c.in_ok-found.ensures) (c.in_ok-is_end-in-Some-found.ensures.0 c.if-branch.true)

pub returns-else-branch : goal.returns-else-branch
returns-else-branch c = no_end (rw c.in-Some.is at c.in_ok-behind.ensures) c.in-Some-found.needs c.in-Some-found.rest.now (rw c.in-Some-found.is at c.in_ok-found.ensures) (λ end. true≢false (sym (c.in_ok-is_end-in-Some-found.ensures.1 end) ∙ c.if-branch.false))

pub returns-in-None : goal.returns-in-None
returns-in-None c = no_needs (rw c.in-Some.is at c.in_ok-behind.ensures) (rw c.in-None.is at c.in_ok-found.ensures)
