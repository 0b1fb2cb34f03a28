use Rattle.pb_feature.proofs.Finding.{entry_first, entry_second}
use Rattle.pb_feature.proofs.items.is_entry.Goals as goal

pub returns-then-is_some : goal.returns-then-is_some
returns-then-is_some c = entry_first c.args.name.now c.args.entries.now c.index_of.result c.is_some.result c.index_of.ensures.index c.is_some.ensures c.if-is_some.true

pub returns-else-is_some : goal.returns-else-is_some
returns-else-is_some c =
    entry_second c.args.name.now c.args.entries.now c.index_of.result c.index_of-else-is_some.result c.is_some.result c.is_some-else-is_some.result
    c.index_of.ensures.index c.is_some.ensures c.if-is_some.false c.index_of-else-is_some.ensures.index c.is_some-else-is_some.ensures
