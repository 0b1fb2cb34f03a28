use Rattle.std.proofs.Common.{◌≡◌, ◌++◌}
use Rattle.pb_message.specs.Diagnostics.{plain_lines_in, plain_lines_of}
use Rattle.pb_message.proofs.diagnostic.plain_lines.Given as goal

abbrev pub invariant-loop-line : goal.invariant-loop-line
invariant-loop-line l = l.plain.items ++ plain_lines_in l.line-iterator ≡ plain_lines_of l.stderr
