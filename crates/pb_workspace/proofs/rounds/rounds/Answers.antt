use Rattle.std.proofs.Common.{Ok, Err, rules}
use Rattle.pb_workspace.proofs.LookingOver.{round_looks, round_stop, rounds_end}
use Rattle.pb_workspace.proofs.RoundSteps.{round_gives, round_fails}
use Rattle.pb_workspace.proofs.rounds.rounds.Goals as goal

pub returns-in-Err-clause-ok : goal.returns-in-Err-clause-ok
returns-in-Err-clause-ok g c told inside =
    round_fails _ _ _ _ _ c.args.count c.loop-done.done _ _ _ (c.loop-done.invariant.quiet.world) c.loop-done-test.true (c.in-Err.ensures.ok told inside) (c.loop-done.invariant.read told)

pub loop-done-preserved : goal.loop-done-preserved
loop-done-preserved g c = record {
  read = λ told. round_gives _ _ _ _ _ c.args.count c.loop-done.done _ _ _ (c.loop-done.invariant.quiet.world) c.loop-done-test.true (c.in-Ok.ensures.ok told) (c.loop-done.invariant.read told);
  kept = c.in-Ok.ensures.kept;
  quiet = search rules;
  looks = λ told r new more. c.loop-done.invariant.looks told r new (round_looks c.args.target.now c.args.frame.now c.args.meant.now _ _ c.args.count c.loop-done.done c.loop-done.reading _ r _ _ new c.loop-done-test.true (c.loop-done.invariant.quiet.world) (c.in-Ok.ensures.ok told) (c.in-Ok.ensures.looks told) more);
}

pub returns-in-Err-clause-looks : goal.returns-in-Err-clause-looks
returns-in-Err-clause-looks g c told =
    c.loop-done.invariant.looks told (Err c.in-Err.fault) _ (round_stop c.args.target.now c.args.frame.now c.args.meant.now _ _ c.args.count c.loop-done.done c.loop-done.reading c.in-Err.fault _ _ c.loop-done-test.true (c.loop-done.invariant.quiet.world) (c.in-Err.ensures.ok told) (c.in-Err.ensures.looks told))

pub returns-clause-looks : goal.returns-clause-looks
returns-clause-looks g c told =
    c.loop-done.invariant.looks told (Ok c.loop-done.reading) _ (rounds_end c.args.target.now c.args.frame.now c.args.meant.now (g.P.Place.at c.args.place.now).world (g.P.Place.at c.args.place.now).world c.args.count c.loop-done.done c.loop-done.reading (g.P.Place.at c.loop-done.place).counts c.loop-done-test.false)
