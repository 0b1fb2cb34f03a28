use Rattle.std.proofs.Common.{◌≡◌, drop}
use Rattle.pb_data.specs.OrderedSet.{mentioned_all, once}
use Rattle.pb_mini.proofs.scope.conditions_of.Given as goal

abbrev pub invariant-loop-condition : goal.invariant-loop-condition
invariant-loop-condition l = mentioned_all l.conditions (drop l.condition-index l.given) ≡ once l.given
