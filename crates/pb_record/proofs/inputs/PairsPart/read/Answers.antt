use Rattle.pb_record.specs.Sorted.{are_sorted}
use Rattle.pb_record.proofs.BlockLemmas.{refused}
use Rattle.pb_record.proofs.InputLemmas.{not_sorted}
use Rattle.pb_record.proofs.inputs.PairsPart.read.Goals as goal

pub returns-in-None-of : goal.returns-in-None-of
returns-in-None-of c = not_sorted (rw c.in-Some.is at c.in_ok-found.ensures) (refused are_sorted c.in-Some.items c.of.result c.of.ensures c.in-None-of.is)
