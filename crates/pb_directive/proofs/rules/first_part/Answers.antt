use Rattle.std.proofs.Common.{◌∙◌, sym, ap, rules, arith}
use Rattle.pb_directive.specs.DepInfo.{parts_of, onto_part}
use Rattle.pb_directive.proofs.WordLemmas.{split_first-shorter}
use Rattle.pb_directive.proofs.RuleLemmas.{onto_none, parts_step, parts_end, parts_last}
use Rattle.pb_directive.proofs.rules.first_part.Goals as goal

pub loop-part-init : goal.loop-part-init
loop-part-init c = (c.utf8.text, ap (λ p. onto_part p (parts_of c.args.text.now)) c.new-piece.ensures.bytes ∙ onto_none c.args.text.now, search rules)

pub loop-part-preserved : goal.loop-part-preserved
loop-part-preserved c = (
  search rules,
  parts_step _ c.loop-part.left.now c.in-Some.part.now c.in-Some.rest.now c.in-Some-before_backslash.front.now _ _ _ c.loop-part.invariant.1 c.in-Some.ensures c.in-Some-before_backslash.ensures
      c.in_ok-push_str-in-Some-before_backslash.ensures.bytes c.in_ok-push_str-in-Some-before_backslash-2.ensures.bytes,
  omega (arith, split_first-shorter 32 c.loop-part.left.now _ c.in-Some.rest.now (sym c.in-Some.ensures)),
)

pub returns-in-None-clause-parts : goal.returns-in-None-clause-parts
returns-in-None-clause-parts c = parts_end _ c.loop-part.left.now c.in-Some.part.now c.in-Some.rest.now _ _ c.loop-part.invariant.1 c.in-Some.ensures c.in-None.ensures c.in_ok-push_str-in-None.ensures.bytes

pub returns-clause-parts : goal.returns-clause-parts
returns-clause-parts c = parts_last _ c.loop-part.left.now _ _ c.loop-part.invariant.1 (search rules) c.in_ok-push_str.ensures.bytes

pub returns-in-None-clause-shorter : goal.returns-in-None-clause-shorter
returns-in-None-clause-shorter c = omega (arith, split_first-shorter 32 c.loop-part.left.now _ c.in-Some.rest.now (sym c.in-Some.ensures))
