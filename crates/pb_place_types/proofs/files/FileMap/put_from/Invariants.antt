use Rattle.std.proofs.Common.{◌≡◌, ℕ, List, Bool, drop}
use Rattle.std.specs.FinMap.{empty}
use Rattle.pb_place_types.specs.World.{AgreeBut, Map}
use Rattle.pb_place_types.specs.Copies.{put_from, PutsSome}
use Rattle.pb_place_types.proofs.files.FileMap.put_from.Given as goal

abbrev pub invariant-loop-path : goal.invariant-loop-path
invariant-loop-path l = record {
  put : put_from l.from (drop l.path-index l.paths) l.self ≡ put_from l.from l.paths l.fn.self;
  some : (m : Map) → PutsSome l.from (drop l.path-index l.paths) l.self m → PutsSome l.from l.paths l.fn.self m;
  only : (may : List ℕ → Bool) → AgreeBut may empty l.from → AgreeBut may l.fn.self l.self;
}
