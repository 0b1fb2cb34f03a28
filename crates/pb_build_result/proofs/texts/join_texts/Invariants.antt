use Rattle.std.proofs.Common.{◌≡◌, ◌++◌, drop, map, string_bytes}
use Rattle.std.specs.List.{concat}
use Rattle.pb_build_result.proofs.texts.join_texts.Given as goal

abbrev pub invariant-loop-part : goal.invariant-loop-part
invariant-loop-part l = string_bytes l.text ++ concat (map (λ part. part.now) (drop l.part-index l.parts)) ≡ concat (map (λ part. part.now) l.parts)
