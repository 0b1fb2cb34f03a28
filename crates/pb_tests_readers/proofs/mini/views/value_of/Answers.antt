use Rattle.std.proofs.Common.{rules}
use Rattle.pb_tests_readers.proofs.FilesShown.{found-here, found-later}
use Rattle.pb_tests_readers.proofs.mini.views.value_of.Goals as goal

pub returns-then-eq : goal.returns-then-eq
returns-then-eq c = found-here c.args.name.now c.args.variables.now c.loop-variable.variable-index c.variable-item.result _ c.loop-variable-test.true c.variable-item.is (search rules) (search rules) c.loop-variable.invariant

pub loop-variable-preserved : goal.loop-variable-preserved
loop-variable-preserved c = found-later c.args.name.now c.args.variables.now c.loop-variable.variable-index c.variable-item.result c.loop-variable-test.true c.variable-item.is (search rules) c.loop-variable.invariant
