use Rattle.std.proofs.Common.{arith, rules}
use Rattle.std.proofs.lemmas.Grind.{common_steps}
use Rattle.pb_store.proofs.Called.{reads_one, within_head, within_tail}
use Rattle.pb_store.proofs.LookingBy.{row_reached, row_read, row_unread}
use Rattle.pb_store.proofs.opening.greatest_of.Goals as goal

pub returns-in_err-number-clause-told : goal.returns-in_err-number-clause-told
returns-in_err-number-clause-told g c =
    let h = reads_one c.args.paths _ c.in_err-number.field-0.0 (within_head _ _ _ _ c.loop-path.invariant.within c.in-Some.ensures.steps.0) c.in_err-number.ensures.told in
    search (rules, h)

pub returns-in_err-number-clause-looks : goal.returns-in_err-number-clause-looks
returns-in_err-number-clause-looks g c =
    let h = row_unread c.in_err-number.field-0.0 _ _ _ _ _ _ _ c.loop-path.invariant.reached c.in-Some.ensures.steps.0 c.in_err-number.ensures.looks in
    search (rules, h)

pub loop-path-preserved : goal.loop-path-preserved
loop-path-preserved g c = record {
  quiet = search rules;
  found = first_of (search rules, grind (arith, common_steps));
  held = first_of (search rules, grind (arith, common_steps));
  within = within_tail _ _ _ _ c.loop-path.invariant.within c.in-Some.ensures.steps.0;
  looks = row_read _ _ _ _ _ _ c.loop-path.invariant.looks c.in-Some.ensures.steps.0 c.in_ok-number.ensures.looks;
  reached = row_reached _ _ _ _ _ _ _ c.loop-path.invariant.reached c.in-Some.ensures.steps.0 c.in_ok-number.ensures.looks;
}
