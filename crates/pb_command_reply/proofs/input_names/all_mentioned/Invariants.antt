use Rattle.std.proofs.Common.{◌≡◌, drop, []}
use Rattle.pb_data.specs.OrderedSet.{mentioned_all}
use Rattle.pb_command_reply.proofs.input_names.all_mentioned.Given as goal

abbrev pub invariant-loop-name : goal.invariant-loop-name
invariant-loop-name l = mentioned_all l.made (drop l.name-index l.names) ≡ mentioned_all [] l.names
