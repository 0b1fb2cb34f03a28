use Rattle.std.proofs.Common.{◌≡◌, ◌++◌}
use Rattle.pb_message.specs.Diagnostics.{diagnostics_in, diagnostics_of}
use Rattle.pb_message.proofs.diagnostic.diagnostics.Given as goal

abbrev pub invariant-loop-line : goal.invariant-loop-line
invariant-loop-line l = l.found ++ diagnostics_in l.line-iterator ≡ diagnostics_of l.stderr
