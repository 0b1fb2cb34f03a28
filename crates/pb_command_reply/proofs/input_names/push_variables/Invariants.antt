use Rattle.std.proofs.Common.{◌≡◌, ◌++◌, map}
use Rattle.std.specs.Vec.Iter.{into_iter_items}
use Rattle.pb_record.specs.declared.record.InputName.TheVariants.{Variable}
use Rattle.pb_command_reply.proofs.input_names.push_variables.Given as goal

abbrev pub invariant-loop-name : goal.invariant-loop-name
invariant-loop-name l = l.inputs ++ map Variable (into_iter_items l.name-iterator) ≡ l.fn.inputs ++ map Variable l.fn.names
