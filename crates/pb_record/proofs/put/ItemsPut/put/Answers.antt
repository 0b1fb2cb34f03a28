use Rattle.std.proofs.Common.{rules}
use Rattle.std.proofs.lemmas.List.{append_assoc}
use Rattle.pb_record.specs.Grammar.{listed}
use Rattle.pb_record.proofs.put.ItemsPut.put.Goals as goal

pub returns-clause-added : goal.returns-clause-added
unfolding listed
returns-clause-added g c = search (rules, append_assoc)
