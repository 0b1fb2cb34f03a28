use Rattle.std.proofs.Common.{◌≡◌, ◌++◌, drop}
use Rattle.pb_mini.specs.DepInfo.{variables_text}
use Rattle.pb_mini.proofs.dep_info.push_variables.Given as goal

abbrev pub invariant-loop-variable : goal.invariant-loop-variable
invariant-loop-variable l = l.text.items ++ variables_text (drop l.variable-index l.variables) ≡ l.fn.text.items ++ variables_text l.variables
