use Rattle.std.proofs.Common.{◌≡◌, ◌++◌}
use Rattle.std.specs.List.{filter}
use Rattle.std.specs.Map.{keys_of}
use Rattle.pb_place_types.specs.Paths.{is_at_or_below}
use Rattle.pb_place_types.proofs.files.names_at_or_below.Given as goal

abbrev pub invariant-loop-name : goal.invariant-loop-name
invariant-loop-name l = l.names.items ++ keys_of (filter (λ e. is_at_or_below l.path e.0) l.name-iterator) ≡ keys_of (filter (λ e. is_at_or_below l.path e.0) l.files.entries)
