use Rattle.std.proofs.Common.{sym}
use Rattle.pb_feature.proofs.Finding.{slot_none, slot_some}
use Rattle.pb_feature.proofs.numbers.slot.Goals as goal

pub returns-in_default : goal.returns-in_default
returns-in_default c = sym (slot_none c.args.features.now c.args.name.now c.in_default.ensures)

pub returns-then-index-as_slice : goal.returns-then-index-as_slice
returns-then-index-as_slice c = sym (slot_some c.args.features.now c.args.name.now c.in-Some.index c.in-Some.ensures).0
