use Rattle.std.proofs.Common.{◌≡◌, ◌∙◌, sym, false, rules}
use Rattle.pb_directive.specs.Directives.{is_empty}
use Rattle.pb_directive.proofs.WordLemmas.{words_of-word}
use Rattle.pb_directive.proofs.words.first_word.Goals as goal

pub returns-then-not-is_empty : goal.returns-then-not-is_empty
returns-then-not-is_empty c =
    let word : is_empty c.in-Some.part.now ≡ false = search rules in
    sym c.loop-part.invariant.1 ∙ words_of-word c.loop-part.rest.now c.in-Some.part.now c.in-Some.after.now c.in-Some.ensures word
