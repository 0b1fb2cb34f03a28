use Rattle.std.proofs.Common.{arith, rules}
use Rattle.std.proofs.lemmas.Grind.{common_steps}
use Rattle.pb_place_types.proofs.Failing.{on_err}
use Rattle.pb_place_types.proofs.Copies.{one_safe, agree_same, some_on, some_none}
use Rattle.pb_place_types.proofs.Worlds.{AgreeBut-then}
use Rattle.pb_place_types.proofs.files.FileMap.put_from.Goals as goal

pub loop-path-preserved : goal.loop-path-preserved
loop-path-preserved c = record {
  put = grind (arith, common_steps);
  some = λ m later. c.loop-path.invariant.some m
      (some_on c.args.from.now c.args.paths.now c.loop-path.path-index c.path-item.result c.loop-path.self c.take_over.new.self m (search rules) c.path-item.is c.in_ok-take_over.ensures.ok later);
  only = λ may alone. AgreeBut-then may c.args.self.now c.loop-path.self c.take_over.new.self (c.loop-path.invariant.only may alone)
      (one_safe may c.path-item.result c.args.from.now c.loop-path.self c.take_over.new.self c.in_ok-take_over.ensures.ok alone);
}

pub returns-in_err-take_over-clause-only : goal.returns-in_err-take_over-clause-only
returns-in_err-take_over-clause-only c = λ may alone. AgreeBut-then may c.args.self.now c.loop-path.self c.take_over.new.self (c.loop-path.invariant.only may alone) (agree_same may c.loop-path.self c.take_over.new.self c.in_err-take_over.ensures.err)

pub returns-in_err-take_over-clause-some : goal.returns-in_err-take_over-clause-some
returns-in_err-take_over-clause-some c = on_err c.from_residual.result (c.loop-path.invariant.some c.take_over.new.self
    (some_none c.args.from.now c.args.paths.now c.loop-path.path-index c.path-item.result c.loop-path.self c.take_over.new.self (search rules) c.path-item.is c.in_err-take_over.ensures.err))
