use Rattle.std.proofs.Common.{◌∙◌, sym}
use Rattle.std.proofs.lemmas.Slice.Eq.{bytes_eq-Decides}
use Rattle.pb_record.proofs.SkipLemmas.{is_ended, ends_so}
use Rattle.pb_record.proofs.numbers.is_end.Goals as goal

pub returns-in-Ok-Some : goal.returns-in-Ok-Some
returns-in-Ok-Some c =
    let some = rw c.in-Ok-Some.field-0-is at c.in-Ok-Some.ensures in
    let same = bytes_eq-Decides c.in-Ok-Some.rest.now c.as_slice.result.now in
    ((λ e. is_ended some (same.0 (sym c.eq.ensures ∙ e) ∙ c.as_slice.ensures)), (λ end. c.eq.ensures ∙ same.1 (ends_so some end ∙ sym c.as_slice.ensures)))
