use Rattle.std.proofs.Common.{rules}
use Rattle.std.proofs.lemmas.List.{append_assoc}
use Rattle.pb_record.specs.Grammar.{listed}
use Rattle.pb_record.proofs.lists.ItemsPart.write.Goals as goal

pub returns-clause-written : goal.returns-clause-written
unfolding listed
returns-clause-written g c = search (rules, append_assoc)
