use Rattle.std.proofs.Common.{◌≡◌, length}
use Rattle.pb_place_types.proofs.Wholes.{Told}
use Rattle.pb_place_types.proofs.whole.write_all.Given as goal

abbrev pub invariant-loop-rest : goal.invariant-loop-rest
invariant-loop-rest g l = record {
  told : Told (g.O.Out.heard l.fn.out).taken (g.O.Out.heard l.out).taken l.bytes l.rest;
  faults : (g.O.Out.heard l.out).faults ≡ (g.O.Out.heard l.fn.out).faults;
}

abbrev pub decreases-loop-rest : goal.decreases-loop-rest
decreases-loop-rest g l = length l.rest
