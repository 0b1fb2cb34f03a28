use Rattle.pb_place_types.proofs.Joins.{length_more}
use Rattle.pb_place_types.proofs.pieces.length_of.Goals as goal

pub loop-piece-preserved : goal.loop-piece-preserved
loop-piece-preserved c =
    rw (c.saturating_add-length.ensures, c.as_slice.ensures) (length_more c.args.pieces.now c.loop-piece.piece-index c.piece-item.result c.loop-piece.length c.loop-piece-test.true c.piece-item.is c.loop-piece.invariant)
