use Rattle.std.proofs.Common.{◌≡◌, ◌++◌, drop, map, string_bytes}
use Rattle.pb_message.specs.Json.{after_commas, json_pair}
use Rattle.pb_message.proofs.json.push_more_pairs.Given as goal

abbrev pub invariant-loop-pair : goal.invariant-loop-pair
invariant-loop-pair l = string_bytes l.out ++ after_commas (map json_pair (drop l.pair-index l.pairs)) ≡ string_bytes l.fn.out ++ after_commas (map json_pair l.pairs)
