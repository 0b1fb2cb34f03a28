use Rattle.std.specs.Str.{IsUtf8}
use Rattle.pb_record.proofs.BlockLemmas.{block_spelling}
use Rattle.pb_record.proofs.PartLemmas.{none_but}
use Rattle.pb_record.proofs.block.text_at.Goals as goal

pub returns-in-Err : goal.returns-in-Err
returns-in-Err c = none_but IsUtf8 block_spelling c.in_ok-bytes.ensures c.in-Err.ensures.cases.0
