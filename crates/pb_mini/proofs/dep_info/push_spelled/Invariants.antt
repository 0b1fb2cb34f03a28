use Rattle.std.proofs.Common.{◌≡◌, ◌++◌, drop}
use Rattle.pb_mini.specs.DepInfo.{spelled}
use Rattle.pb_mini.proofs.dep_info.push_spelled.Given as goal

abbrev pub invariant-loop-byte : goal.invariant-loop-byte
invariant-loop-byte l = l.text.items ++ spelled (drop l.byte-index l.byte-items) ≡ l.fn.text.items ++ spelled l.path
