use Rattle.std.proofs.Common.{◌≡◌, ◌++◌, drop, string_bytes, ◌∷◌, []}
use Rattle.std.specs.List.{flat_map}
use Rattle.pb_command_environment.proofs.run_pairs.push_flags.Given as goal

abbrev pub invariant-loop-flag : goal.invariant-loop-flag
invariant-loop-flag l = string_bytes l.text ++ flat_map (λ flag. (31 ∷ []) ++ flag) (drop l.flag-index l.flags) ≡ string_bytes l.fn.text ++ flat_map (λ flag. (31 ∷ []) ++ flag) l.flags
