use Rattle.std.proofs.Common.{◌≡◌, ◌++◌}
use Rattle.pb_place_types.proofs.text_map.pairs_of.Given as goal

abbrev pub invariant-loop-name : goal.invariant-loop-name
invariant-loop-name l = l.pairs ++ l.name-iterator ≡ l.fn.entries.entries
