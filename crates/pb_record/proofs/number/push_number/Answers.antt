use Rattle.std.proofs.Common.{rules}
use Rattle.pb_record.proofs.NumberLemmas.{decimals_is}
use Rattle.pb_record.specs.Grammar.{number}
use Rattle.std.proofs.lemmas.List.{append_assoc}
use Rattle.pb_record.proofs.number.push_number.Goals as goal

pub returns : goal.returns
unfolding number
returns c = let e = decimals_is c.args.n c.ranges.n.fits in rw e (search (rules, append_assoc))
