use Rattle.std.proofs.Common.{arith}
use Rattle.pb_record.proofs.PartLemmas.{none_count}
use Rattle.pb_record.proofs.SkipLemmas.{list_skipped}
use Rattle.pb_record.proofs.lists.ItemsPart.skip.Goals as goal

pub returns-in-Some : goal.returns-in-Some
returns-in-Some g c = list_skipped g.T.Part.is_part g.T.Part.spelled c.skip_items.result c.in-Some.ensures c.skip_items.ensures

pub returns-in-None : goal.returns-in-None
returns-in-None g c = none_count g.T.Part.is_part g.T.Part.spelled c.spells.ensures (omega arith) c.in-None.ensures
