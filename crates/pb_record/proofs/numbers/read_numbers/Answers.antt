use Rattle.pb_record.proofs.SkipLemmas.{numbers_read}
use Rattle.pb_record.proofs.numbers.read_numbers.Goals as goal

pub returns : goal.returns
returns c = numbers_read c.args.text.now c.in_ok-found.found c.in_ok-found.ensures
