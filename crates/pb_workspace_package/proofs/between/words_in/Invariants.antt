use Rattle.std.proofs.Common.{◌≡◌, ◌++◌, drop, map}
use Rattle.std.specs.Prelude.{filter}
use Rattle.pb_workspace_package.specs.Between.{is_word}
use Rattle.pb_workspace_package.proofs.between.words_in.Given as goal

abbrev pub invariant-loop-part : goal.invariant-loop-part
invariant-loop-part l = map (λ word. word.now) l.words.items ++ filter is_word (map (λ part. part.now) (drop l.part-index l.parts)) ≡ filter is_word (map (λ part. part.now) l.parts)
