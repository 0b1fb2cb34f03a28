use Rattle.std.proofs.Common.{◌≡◌}
use Rattle.std.specs.List.{list_any}
use Rattle.pb_directive.specs.Lines.{lines_of}
use Rattle.pb_build.specs.Result.{is_host}
use Rattle.pb_build.proofs.toolchain.has_host.Given as goal

abbrev pub invariant-loop-line : goal.invariant-loop-line
invariant-loop-line l = list_any is_host l.line-iterator ≡ list_any is_host (lines_of l.text)
