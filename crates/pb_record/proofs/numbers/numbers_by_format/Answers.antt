use Rattle.pb_record.proofs.WholeLemmas.{no_format}
use Rattle.pb_record.proofs.numbers.numbers_by_format.Goals as goal

pub returns : goal.returns
returns c = no_format c.args.text.now c.in_default.ensures c.in_default-after.ensures
