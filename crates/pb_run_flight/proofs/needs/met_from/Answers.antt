use Rattle.std.proofs.Common.{◌≤◌, sym, ◌∙◌, arith, length}
use Rattle.pb_run_flight.specs.Working.{count_met}
use Rattle.pb_run_flight.proofs.Meeting.{met_goes, met_stops, met_within}
use Rattle.pb_run_flight.proofs.needs.met_from.Goals as goal

pub loop-met-preserved : goal.loop-met-preserved
loop-met-preserved g c = met_goes c.args.states.now c.args.needs.now c.loop-met.met c.loop-met-test.true c.loop-met.invariant (sym c.is_good_at.ensures ∙ c.if-is_good_at.true)

pub returns-else-is_good_at : goal.returns-else-is_good_at
returns-else-is_good_at g c =
    let most : count_met c.args.states.now c.args.needs.now ≤ c.loop-met.met = met_stops c.args.states.now c.args.needs.now c.loop-met.met c.loop-met-test.true (sym c.is_good_at.ensures ∙ c.if-is_good_at.false) in
    let least : c.loop-met.met ≤ count_met c.args.states.now c.args.needs.now = c.loop-met.invariant in
    omega (arith, most, least)

pub returns-after-loop-met : goal.returns-after-loop-met
returns-after-loop-met g c =
    let most : count_met c.args.states.now c.args.needs.now ≤ length c.args.needs.now = met_within c.args.states.now c.args.needs.now in
    let least : c.loop-met.met ≤ count_met c.args.states.now c.args.needs.now = c.loop-met.invariant in
    omega (arith, most, least, c.loop-met-test.false)
