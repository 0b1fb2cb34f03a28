use Rattle.std.proofs.Common.{rules}
use Rattle.std.proofs.lemmas.List.{append_assoc}
use Rattle.pb_record.specs.Grammar.{block}
use Rattle.pb_record.proofs.block.push_block.Goals as goal

pub returns : goal.returns
unfolding block
returns c = search (rules, append_assoc)
