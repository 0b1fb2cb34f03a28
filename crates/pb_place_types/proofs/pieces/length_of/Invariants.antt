use Rattle.std.proofs.Common.{◌≡◌, take, length}
use Rattle.std.specs.Prelude.{min}
use Rattle.std.specs.List.{concat}
use Rattle.pb_place_types.proofs.pieces.length_of.Given as goal

abbrev pub invariant-loop-piece : goal.invariant-loop-piece
invariant-loop-piece l = l.length ≡ min (length (concat (take l.piece-index l.pieces))) 0xffff_ffff_ffff_ffff
