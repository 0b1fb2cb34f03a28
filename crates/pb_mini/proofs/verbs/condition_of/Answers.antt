use Rattle.std.proofs.Common.{rules}
use Rattle.pb_mini.proofs.ConditionLemmas.{not_when, is_when}
use Rattle.pb_mini.proofs.verbs.condition_of.Goals as goal

pub returns-then-ne-clause-line : goal.returns-then-ne-clause-line
returns-then-ne-clause-line c given = not_when given c.args.line.now _ c.word_and_rest.ensures.word (search rules)

pub returns-clause-line : goal.returns-clause-line
returns-clause-line c given = is_when given c.args.line.now _ _ _ _ c.word_and_rest.ensures.word (search rules) c.word_and_rest.ensures.rest c.word_and_rest-2.ensures.word c.word_and_rest-2.ensures.rest
