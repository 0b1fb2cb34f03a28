use Rattle.std.proofs.Common.{◌≡◌, ◌++◌, drop}
use Rattle.std.specs.List.{flat_map}
use Rattle.pb_command_reply.specs.Answers.{changed_variable}
use Rattle.pb_command_reply.proofs.judging.changed_variables.Given as goal

abbrev pub invariant-loop-directive : goal.invariant-loop-directive
invariant-loop-directive l = l.names ++ flat_map changed_variable (drop l.directive-index l.said) ≡ flat_map changed_variable l.said
