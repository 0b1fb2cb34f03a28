use Rattle.std.proofs.Common.{◌≡◌, ◌++◌, map}
use Rattle.std.specs.Vec.Iter.{into_iter_items}
use Rattle.pb_message.specs.Diagnostics.{diagnostics_of}
use Rattle.pb_message.specs.declared.message.Message.TheVariants.{CompilerMessage}
use Rattle.pb_message_units.proofs.messages.add_diagnostics.Given as goal

abbrev pub invariant-loop-text : goal.invariant-loop-text
invariant-loop-text l = l.messages ++ map CompilerMessage (into_iter_items l.text-iterator) ≡ l.fn.messages ++ map CompilerMessage (diagnostics_of l.stderr)
