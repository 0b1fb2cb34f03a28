use Rattle.std.proofs.Common.{◌≡◌, ◌≤◌, ◌∙◌, ◌+◌, sym, ap, arith, length, drop}
use Rattle.pb_run_flight.specs.Table.{count_due, due}
use Rattle.pb_run_flight.proofs.Ending.{bad_end, good_end, count_within}
use Rattle.pb_run_flight.proofs.flight.due_after.Goals as goal

pub returns-then-ends_badly-clause-lines : goal.returns-then-ends_badly-clause-lines
returns-then-ends_badly-clause-lines g c = c.new-lines.ensures.items ∙ sym (bad_end c.args.given c.args.states.now c.requires (sym c.ends_badly.ensures ∙ c.if-ends_badly.true)).0

pub returns-then-ends_badly-clause-count : goal.returns-then-ends_badly-clause-count
returns-then-ends_badly-clause-count g c = sym (bad_end c.args.given c.args.states.now c.requires (sym c.ends_badly.ensures ∙ c.if-ends_badly.true)).1

pub after-requires : goal.after-requires
after-requires g c = let most : count_due c.args.states.now ≤ length c.args.states.now = count_within c.args.states.now in omega (arith, most, c.requires)

pub overflow_add-result : goal.overflow_add-result
overflow_add-result g c =
    let most : count_due c.args.states.now ≤ length c.args.states.now = count_within c.args.states.now in
    let e : c.args.given + count_due (drop c.args.given c.args.states.now) ≡ count_due c.args.states.now = (good_end c.args.given c.args.states.now c.requires (sym c.ends_badly.ensures ∙ c.if-ends_badly.false)).1 in
    let f : c.in_ok-more.more.count ≡ count_due (drop c.args.given c.args.states.now) = c.in_ok-more.ensures.count ∙ ap count_due c.after.ensures in
    omega (arith, most, e, f)

pub returns-clause-lines : goal.returns-clause-lines
returns-clause-lines g c = c.in_ok-more.ensures.lines ∙ ap due c.after.ensures ∙ (good_end c.args.given c.args.states.now c.requires (sym c.ends_badly.ensures ∙ c.if-ends_badly.false)).0

pub returns-clause-count : goal.returns-clause-count
returns-clause-count g c = ap (λ n. c.args.given + n) (c.in_ok-more.ensures.count ∙ ap count_due c.after.ensures) ∙ (good_end c.args.given c.args.states.now c.requires (sym c.ends_badly.ensures ∙ c.if-ends_badly.false)).1
