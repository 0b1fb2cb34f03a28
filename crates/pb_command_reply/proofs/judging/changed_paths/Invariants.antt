use Rattle.std.proofs.Common.{◌≡◌, ◌++◌, drop}
use Rattle.std.specs.List.{flat_map}
use Rattle.pb_command_reply.specs.Answers.{changed_path}
use Rattle.pb_command_reply.proofs.judging.changed_paths.Given as goal

abbrev pub invariant-loop-directive : goal.invariant-loop-directive
invariant-loop-directive l = l.paths ++ flat_map changed_path (drop l.directive-index l.said) ≡ flat_map changed_path l.said
