use Rattle.std.proofs.Common.{◌≡◌, drop, [], map, List, ℕ}
use Rattle.pb_data.specs.OrderedSet.{mentioned_all}
use Rattle.pb_command_reply.proofs.input_names.names_set.Given as goal

abbrev pub invariant-loop-pair : goal.invariant-loop-pair
invariant-loop-pair l = mentioned_all l.names (map (λ (pair : List ℕ × List ℕ). pair.0) (drop l.pair-index l.pairs)) ≡ mentioned_all [] (map (λ (pair : List ℕ × List ℕ). pair.0) l.pairs)
