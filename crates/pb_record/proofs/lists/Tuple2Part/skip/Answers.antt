use Rattle.pb_record.proofs.SkipLemmas.{both_skipped}
use Rattle.pb_record.proofs.lists.Tuple2Part.skip.Goals as goal

pub returns-in-Ok-Some : goal.returns-in-Ok-Some
returns-in-Ok-Some g c = both_skipped g.B.Part.is_part g.B.Part.spelled c.skip-in-Ok-Some.result c.spells.ensures (rw c.in-Ok-Some.field-0-is at c.in-Ok-Some.ensures) c.skip-in-Ok-Some.ensures
