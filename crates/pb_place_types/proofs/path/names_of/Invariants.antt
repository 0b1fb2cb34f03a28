use Rattle.std.proofs.Common.{◌≡◌, map, drop}
use Rattle.std.specs.List.{fold}
use Rattle.pb_place_types.specs.Paths.{walked, names_of}
use Rattle.pb_place_types.proofs.path.names_of.Given as goal

abbrev pub invariant-loop-part : goal.invariant-loop-part
invariant-loop-part l = fold walked (map (λ name. name.now) l.names.items) (map (λ part. part.now) (drop l.part-index l.part-items)) ≡ names_of l.text
