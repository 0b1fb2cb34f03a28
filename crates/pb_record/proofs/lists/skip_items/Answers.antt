use Rattle.std.proofs.Common.{arith}
use Rattle.pb_record.proofs.PartLemmas.{stops_short}
use Rattle.pb_record.proofs.SkipLemmas.{some_more}
use Rattle.pb_record.proofs.lists.skip_items.Goals as goal

pub returns-in-None : goal.returns-in-None
returns-in-None g c = stops_short c.spells.ensures c.loop.invariant.stands (omega arith) (rw c.in-None.is at c.in_ok-after.ensures)

pub loop-preserved : goal.loop-preserved
loop-preserved g c = some_more c.loop.invariant (rw c.in-Some.is at c.in_ok-after.ensures)
