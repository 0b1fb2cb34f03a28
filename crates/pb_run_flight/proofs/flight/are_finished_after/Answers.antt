use Rattle.std.proofs.Common.{◌≤◌, ◌∙◌, sym, ap, arith, length}
use Rattle.pb_run_flight.specs.Table.{count_due, is_finished}
use Rattle.pb_run_flight.proofs.Ending.{bad_end, good_end, count_within}
use Rattle.pb_run_flight.proofs.flight.are_finished_after.Goals as goal

pub after-requires : goal.after-requires
after-requires g c = let most : count_due c.args.states.now ≤ length c.args.states.now = count_within c.args.states.now in omega (arith, most, c.requires)

pub returns-then-ends_badly : goal.returns-then-ends_badly
returns-then-ends_badly g c = c.if-ends_badly.true ∙ sym (bad_end c.args.given c.args.states.now c.requires (sym c.ends_badly.ensures ∙ c.if-ends_badly.true)).2

pub returns-else-ends_badly : goal.returns-else-ends_badly
returns-else-ends_badly g c = c.are_finished.ensures ∙ ap is_finished c.after.ensures ∙ (good_end c.args.given c.args.states.now c.requires (sym c.ends_badly.ensures ∙ c.if-ends_badly.false)).2
