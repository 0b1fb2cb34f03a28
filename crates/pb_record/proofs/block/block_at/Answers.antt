use Rattle.std.proofs.Common.{arith}
use Rattle.pb_record.proofs.BlockLemmas.{no_block_count, block_cuts}
use Rattle.pb_record.proofs.block.block_at.Goals as goal

pub returns-in_err-count : goal.returns-in_err-count
returns-in_err-count c = rw c.from_residual.ensures (no_block_count (omega arith) c.in_err-count.ensures)

pub returns : goal.returns
returns c = block_cuts c.cut_block.result c.in_ok-count.ensures c.cut_block.ensures
