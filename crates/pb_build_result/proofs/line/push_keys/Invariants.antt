use Rattle.std.proofs.Common.{◌≡◌, ◌++◌, drop, string_bytes}
use Rattle.pb_build_result.specs.ResultLine.{keys_rest}
use Rattle.pb_build_result.proofs.line.push_keys.Given as goal

abbrev pub invariant-loop-key : goal.invariant-loop-key
invariant-loop-key l = string_bytes l.text ++ keys_rest (drop l.key-index l.keys) ≡ string_bytes l.initial.text ++ keys_rest l.keys
