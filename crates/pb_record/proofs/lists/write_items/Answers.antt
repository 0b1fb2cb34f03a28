use Rattle.std.proofs.lemmas.List.{take_all}
use Rattle.pb_record.proofs.PartLemmas.{wrote_more}
use Rattle.pb_record.proofs.lists.write_items.Goals as goal

pub loop-item-preserved : goal.loop-item-preserved
loop-item-preserved g c =
    let more = wrote_more g.T.Part.is_part g.T.Part.spelled c.args.items.now c.loop-item.item-index c.item-item.result c.args.out.now.items c.loop-item.out.items c.write.new.out.items
    c.loop-item-test.true c.item-item.is c.loop-item.invariant.written c.loop-item.invariant.are c.in_ok-write.ensures.written c.in_ok-write.ensures.is in
    record { written = more.0; are = more.1 }

pub returns-clause-written : goal.returns-clause-written
returns-clause-written g c = rw (← take_all c.loop-item.item-index c.args.items.now c.loop-item-test.false) c.loop-item.invariant.written

pub returns-clause-are : goal.returns-clause-are
returns-clause-are g c = rw (← take_all c.loop-item.item-index c.args.items.now c.loop-item-test.false) c.loop-item.invariant.are
