use Rattle.std.proofs.Common.{◌≡◌, ◌+◌, ◌++◌, Ok, length}
use Rattle.pb_data.specs.UnlessOom.{◌>>=◌}
use Rattle.pb_directive.specs.Lines.{lines_of}
use Rattle.pb_directive.specs.Directives.{directives_from, directives_of}
use Rattle.pb_directive.proofs.read.read_directives.Given as goal

abbrev pub invariant-loop-line : goal.invariant-loop-line
invariant-loop-line l = record {
  read : (directives_from l.number l.line-iterator >>= (λ more. Ok (l.found ++ more))) ≡ directives_of l.bytes;
  counted : l.number + length l.line-iterator ≡ 1 + length (lines_of l.bytes);
}
