use Rattle.std.proofs.Common.{◌≡◌, ◌++◌, map, filter}
use Rattle.std.specs.Vec.Iter.{into_iter_items}
use Rattle.pb_command_reply.specs.Answers.{is_source}
use Rattle.pb_record.specs.declared.record.InputName.TheVariants.{Path}
use Rattle.pb_command_reply.proofs.input_names.push_sources.Given as goal

abbrev pub invariant-loop-path : goal.invariant-loop-path
invariant-loop-path l = l.inputs ++ map Path (filter (is_source l.command) (into_iter_items l.path-iterator)) ≡ l.fn.inputs ++ map Path (filter (is_source l.command) l.fn.paths)
