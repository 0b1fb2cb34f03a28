use Rattle.std.proofs.Common.{◌≡◌, length}
use Rattle.pb_tool_screen.proofs.colored.write_lines.Given as goal

-- no write has failed so far
abbrev pub invariant-loop-rest : goal.invariant-loop-rest
invariant-loop-rest g l = (g.S.Out.heard l.sink).faults ≡ (g.S.Out.heard l.fn.sink).faults

abbrev pub decreases-loop-rest : goal.decreases-loop-rest
decreases-loop-rest g l = length l.rest
