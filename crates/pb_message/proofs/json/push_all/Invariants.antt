use Rattle.std.proofs.Common.{◌≡◌, ◌++◌, drop, map, string_bytes}
use Rattle.std.specs.List.{concat}
use Rattle.pb_message.proofs.json.push_all.Given as goal

abbrev pub invariant-loop-part : goal.invariant-loop-part
invariant-loop-part l = string_bytes l.out ++ concat (map (λ part. part.now) (drop l.part-index l.parts)) ≡ string_bytes l.fn.out ++ concat (map (λ part. part.now) l.parts)
