use Rattle.std.proofs.Common.{arith}
use Rattle.pb_record.proofs.PartLemmas.{stops_short}
use Rattle.pb_record.proofs.lists.read_items.Goals as goal

pub returns-in-None : goal.returns-in-None
returns-in-None g c = stops_short c.spells.ensures c.loop.invariant (omega arith) (rw c.in-None.is at c.in_ok-item.ensures)
