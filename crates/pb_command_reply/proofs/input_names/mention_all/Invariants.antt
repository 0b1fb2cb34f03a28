use Rattle.std.proofs.Common.{◌≡◌}
use Rattle.std.specs.Vec.Iter.{into_iter_items}
use Rattle.pb_data.specs.OrderedSet.{mentioned_all}
use Rattle.pb_command_reply.proofs.input_names.mention_all.Given as goal

abbrev pub invariant-loop-path : goal.invariant-loop-path
invariant-loop-path l = (l.seen ≡ l.paths) × (mentioned_all l.paths (into_iter_items l.path-iterator) ≡ mentioned_all l.fn.paths l.fn.said)
