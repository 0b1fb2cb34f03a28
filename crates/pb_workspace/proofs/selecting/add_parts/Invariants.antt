use Rattle.std.proofs.Common.{◌≡◌, ◌++◌, drop, map}
use Rattle.std.specs.List.{flat_map}
use Rattle.pb_workspace.specs.Selected.{spaced_words}
use Rattle.pb_workspace.proofs.selecting.add_parts.Given as goal

abbrev pub invariant-loop-part : goal.invariant-loop-part
invariant-loop-part l = l.words ++ flat_map spaced_words (map (λ part. part.now) (drop l.part-index l.parts)) ≡ l.fn.words ++ flat_map spaced_words (map (λ part. part.now) l.parts)
