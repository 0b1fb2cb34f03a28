use Rattle.std.proofs.Common.{◌≡◌, ◌++◌, drop, map, string_bytes}
use Rattle.pb_json.specs.Json.{json_string}
use Rattle.pb_message.specs.Json.{after_commas}
use Rattle.pb_message.proofs.json.push_more_texts.Given as goal

abbrev pub invariant-loop-text : goal.invariant-loop-text
invariant-loop-text l = string_bytes l.out ++ after_commas (map json_string (drop l.text-index l.texts)) ≡ string_bytes l.fn.out ++ after_commas (map json_string l.texts)
