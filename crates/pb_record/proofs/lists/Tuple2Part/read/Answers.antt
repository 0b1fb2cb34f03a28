use Rattle.pb_record.proofs.PartLemmas.{stands_both, none_first, none_second}
use Rattle.pb_record.proofs.lists.Tuple2Part.read.Goals as goal

pub returns-in-Ok-Some-read : goal.returns-in-Ok-Some-read
returns-in-Ok-Some-read g c = stands_both (rw c.in-Ok-Some.field-0-is at c.in-Ok-Some.ensures) (rw c.in-Ok-Some-read.field-0-is at c.in-Ok-Some-read.ensures)

pub returns-in-Ok-None-read : goal.returns-in-Ok-None-read
returns-in-Ok-None-read g c = none_second c.spells.ensures (rw c.in-Ok-Some.field-0-is at c.in-Ok-Some.ensures) (rw c.in-Ok-None-read.field-0-is at c.in-Ok-None-read.ensures)

pub returns-in-Ok-None : goal.returns-in-Ok-None
returns-in-Ok-None g c = none_first g.B.Part.is_part g.B.Part.spelled (rw c.in-Ok-None.field-0-is at c.in-Ok-None.ensures)
