use Rattle.std.proofs.Common.{◌≡◌, ◌++◌, drop, map}
use Rattle.std.specs.Prelude.{filter}
use Rattle.pb_workspace_package.specs.Between.{is_word}
use Rattle.pb_workspace.proofs.selecting.add_words.Given as goal

abbrev pub invariant-loop-word : goal.invariant-loop-word
invariant-loop-word l = l.words ++ filter is_word (map (λ part. part.now) (drop l.word-index l.parts)) ≡ l.fn.words ++ filter is_word (map (λ part. part.now) l.parts)
