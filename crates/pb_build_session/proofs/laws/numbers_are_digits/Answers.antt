use Rattle.pb_build_session.proofs.Numbers.{digits_are_taken, minus_is_bad, point_is_bad, exponent_is_bad}
use Rattle.pb_build_session.proofs.laws.numbers_are_digits.Goals as goal

pub returns-clause-digits : goal.returns-clause-digits
returns-clause-digits c = digits_are_taken

pub returns-clause-minus : goal.returns-clause-minus
returns-clause-minus c = minus_is_bad

pub returns-clause-point : goal.returns-clause-point
returns-clause-point c = point_is_bad

pub returns-clause-exponent : goal.returns-clause-exponent
returns-clause-exponent c = exponent_is_bad
