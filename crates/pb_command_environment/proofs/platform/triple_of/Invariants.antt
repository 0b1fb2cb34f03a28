use Rattle.std.proofs.Common.{◌≡◌}
use Rattle.pb_directive.specs.Lines.{lines_of}
use Rattle.pb_command_environment.specs.Pairs.{first_host}
use Rattle.pb_command_environment.proofs.platform.triple_of.Given as goal

abbrev pub invariant-loop-line : goal.invariant-loop-line
invariant-loop-line l = first_host l.line-iterator ≡ first_host (lines_of l.toolchain)
