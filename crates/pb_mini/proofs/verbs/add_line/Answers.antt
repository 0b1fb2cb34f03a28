use Rattle.std.proofs.Common.{rules}
use Rattle.pb_mini.proofs.DoingLemmas.{line_done, line_passed}
use Rattle.pb_mini.proofs.verbs.add_line.Goals as goal

pub returns-then-is_passed_over-clause-done : goal.returns-then-is_passed_over-clause-done
returns-then-is_passed_over-clause-done g c is_modelled =
    line_passed c.args.scope.now (g.V.View.shown c.args.view.now) c.args.number c.args.line.now c.in_ok-meant.meant.now c.args.effects.now c.in_ok-meant.ensures (search rules)

pub returns-clause-done : goal.returns-clause-done
returns-clause-done g c is_modelled =
    line_done c.args.scope.now (g.V.View.shown c.args.view.now) c.args.number c.args.line.now c.in_ok-meant.meant.now _ _ c.verb_of-verb.result c.args.effects.now c.add_by.new.effects c.in_ok-meant.ensures (search rules)
    c.word_and_rest.ensures.word c.word_and_rest.ensures.rest c.verb_of-verb.ensures (c.in_ok-add_by.ensures.done is_modelled)
