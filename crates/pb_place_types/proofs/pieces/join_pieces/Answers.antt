use Rattle.std.proofs.Common.{rules}
use Rattle.pb_place_types.proofs.Joins.{concat_more}
use Rattle.pb_place_types.proofs.pieces.join_pieces.Goals as goal

pub loop-piece-preserved : goal.loop-piece-preserved
loop-piece-preserved c = rw (concat_more c.args.pieces.now c.loop-piece.piece-index c.piece-item.result c.loop-piece-test.true c.piece-item.is) (search rules)
