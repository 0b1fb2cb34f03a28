use Rattle.std.proofs.Common.{◌≡◌, ◌++◌, drop, filter, not}
use Rattle.pb_data.specs.OrderedSet.{is_mentioned}
use Rattle.pb_command_reply.proofs.input_names.names_but.Given as goal

abbrev pub invariant-loop-name : goal.invariant-loop-name
invariant-loop-name l = l.left ++ filter (λ name. not (is_mentioned l.others name)) (drop l.name-index l.names) ≡ filter (λ name. not (is_mentioned l.others name)) l.names
