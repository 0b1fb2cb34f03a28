use Rattle.std.proofs.Common.{◌∙◌, sym}
use Rattle.std.proofs.lemmas.Bool.{true≢false}
use Rattle.std.proofs.lemmas.Slice.Eq.{bytes_eq-Decides}
use Rattle.pb_record.proofs.SkipLemmas.{behind_spelling, no_behind, no_key, not_last, says_key}
use Rattle.pb_record.proofs.numbers.numbers_copied.Goals as goal

pub returns-in_default : goal.returns-in_default
returns-in_default c = no_key (rw c.in_default.is at c.in_ok-found.ensures)

pub returns-then-eq : goal.returns-then-eq
returns-then-eq c =
    let some = rw c.in-Some-2.is at c.in_ok-rest.ensures in
    says_key (rw c.in-Some.is at c.in_ok-found.ensures) c.in-Some-2.rest.now some.part some.stands
    ((bytes_eq-Decides c.in-Some-2.rest.now c.as_slice.result.now).0 (sym c.eq.ensures ∙ c.if-eq.true) ∙ c.as_slice.ensures)

pub returns-else-eq : goal.returns-else-eq
returns-else-eq c = not_last (rw c.in-Some.is at c.in_ok-found.ensures) c.in-Some-2.rest.now behind_spelling (rw c.in-Some-2.is at c.in_ok-rest.ensures)
    (λ e. true≢false (sym (c.eq.ensures ∙ (bytes_eq-Decides c.in-Some-2.rest.now c.as_slice.result.now).1 (e ∙ sym c.as_slice.ensures)) ∙ c.if-eq.false))

pub returns-in-None : goal.returns-in-None
returns-in-None c = no_behind (rw c.in-Some.is at c.in_ok-found.ensures) (rw c.in-None.is at c.in_ok-rest.ensures)
