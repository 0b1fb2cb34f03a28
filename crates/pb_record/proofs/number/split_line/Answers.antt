use Rattle.std.proofs.Common.{arith}
use Rattle.pb_record.proofs.NumberLemmas.{no_line}
use Rattle.pb_record.proofs.number.split_line.Goals as goal

pub returns : goal.returns
returns c = no_line c.args.text.now (λ k within. c.loop-i.invariant k (omega arith))
