use Rattle.std.proofs.Common.{◌≡◌, true, map}
use Rattle.std.specs.List.{list_all}
use Rattle.pb_place_types.specs.Paths.{is_name}
use Rattle.pb_place_types.proofs.relative.is_relative.Given as goal

abbrev pub invariant-loop-part : goal.invariant-loop-part
invariant-loop-part l = list_all is_name (map (λ part. part.now) l.yielded) ≡ true
