use Rattle.std.proofs.Common.{arith, ap, length}
use Rattle.pb_directive.proofs.ReadLemmas.{directives_step}
use Rattle.pb_directive.proofs.read.read_directives.Goals as goal

pub loop-line-preserved : goal.loop-line-preserved
loop-line-preserved c = record {
  read = directives_step _ _ _ _ _ _ _ c.loop-line.invariant.read c.in-Some.ensures.steps c.in-Ok.ensures;
  counted = omega (arith, ap length c.in-Some.ensures.steps);
}
