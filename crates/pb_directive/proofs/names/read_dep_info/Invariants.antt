use Rattle.std.proofs.Common.{◌≡◌, ◌+◌, Ok, length}
use Rattle.pb_data.specs.UnlessOom.{◌>>=◌}
use Rattle.pb_directive.specs.Lines.{lines_of}
use Rattle.pb_directive.specs.DepInfo.{info_from, dep_info_of, with_info}
use Rattle.pb_directive.proofs.names.read_dep_info.Given as goal

abbrev pub invariant-loop-line : goal.invariant-loop-line
invariant-loop-line l = record {
  read : (info_from l.number l.line-iterator >>= (λ more. Ok (with_info l.info more))) ≡ dep_info_of l.bytes;
  counted : l.number + length l.line-iterator ≡ 1 + length (lines_of l.bytes);
}
