use Rattle.pb_record.proofs.LawLemmas.{no_zero_leads, numbers_have_digits, record_zero, record_digits, record_fits}
use Rattle.pb_record.proofs.laws.numbers_have_one_spelling.Goals as goal

pub returns-clause-zero : goal.returns-clause-zero
returns-clause-zero c = no_zero_leads

pub returns-clause-digits : goal.returns-clause-digits
returns-clause-digits c = numbers_have_digits

pub returns-clause-record_zero : goal.returns-clause-record_zero
returns-clause-record_zero c = record_zero

pub returns-clause-record_digits : goal.returns-clause-record_digits
returns-clause-record_digits c = record_digits

pub returns-clause-record_fits : goal.returns-clause-record_fits
returns-clause-record_fits c = record_fits
