use Rattle.std.proofs.Common.{◌≡◌, drop}
use Rattle.std.specs.Ordering.{nat_cmp}
use Rattle.std.specs.Cmp.Lexicographic.{slice_cmp}
use Rattle.std.specs.FinMap as finite
use Rattle.pb_tests_readers.proofs.mini.views.value_of.Given as goal

abbrev pub invariant-loop-variable : goal.invariant-loop-variable
invariant-loop-variable l = finite.find (slice_cmp nat_cmp) l.name (drop l.variable-index l.variables) ≡ finite.find (slice_cmp nat_cmp) l.name l.variables
