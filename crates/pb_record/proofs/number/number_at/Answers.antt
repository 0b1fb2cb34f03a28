use Rattle.pb_record.proofs.NumberLemmas.{no_line_no_number, no_number, number_stands}
use Rattle.pb_record.proofs.number.number_at.Goals as goal

pub returns-in_err-digits : goal.returns-in_err-digits
returns-in_err-digits c = rw c.from_residual.ensures (no_line_no_number c.args.text.now c.in_err-digits.ensures)

pub returns-in_err-n : goal.returns-in_err-n
returns-in_err-n c =
    rw c.from_residual-in_err-n.ensures (no_number c.args.text.now c.in_ok-digits.digits.now c.in_ok-digits.rest.now c.in_ok-digits.ensures.0 c.in_ok-digits.ensures.1 c.in_err-n.ensures)

pub returns : goal.returns
returns c = number_stands c.args.text.now c.in_ok-digits.digits.now c.in_ok-digits.rest.now c.in_ok-n.n c.in_ok-n.ensures.0 c.in_ok-digits.ensures.0 c.in_ok-n.ensures.1
