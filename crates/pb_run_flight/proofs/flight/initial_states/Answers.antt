use Rattle.std.proofs.lemmas.List.{take_all}
use Rattle.pb_run_flight.specs.declared.flight.State.TheVariants.{Untouched}
use Rattle.pb_run_flight.proofs.Looking.{same_more}
use Rattle.pb_run_flight.proofs.flight.initial_states.Goals as goal

pub loop-preserved : goal.loop-preserved
loop-preserved g c = same_more Untouched c.args.needs.now c.loop.index c.loop-item.result c.loop.states.items c.push.new.self.items c.loop-test.true c.loop.invariant c.in_ok-push.ensures.items

pub returns : goal.returns
returns g c = rw (← take_all c.loop.index c.args.needs.now c.loop-test.false) c.loop.invariant
