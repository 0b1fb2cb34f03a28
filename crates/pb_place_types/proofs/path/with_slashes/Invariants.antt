use Rattle.std.proofs.Common.{◌≡◌, ◌++◌, map, drop, string_bytes}
use Rattle.pb_place_types.specs.Paths.{slashed}
use Rattle.pb_place_types.proofs.path.with_slashes.Given as goal

abbrev pub invariant-loop-name : goal.invariant-loop-name
invariant-loop-name l = string_bytes l.text ++ slashed (map (λ name. name.now) (drop l.name-index l.names)) ≡ slashed (map (λ name. name.now) l.names)
