use Rattle.std.proofs.Common.{◌≡◌, ◌++◌, map, drop}
use Rattle.pb_mini.specs.Lines.{marked}
use Rattle.pb_mini.proofs.lines.push_marked.Given as goal

abbrev pub invariant-loop-line : goal.invariant-loop-line
invariant-loop-line l = l.buffer ++ marked l.mark (map (λ line. line.now) (drop l.line-index l.lines)) ≡ l.fn.buffer ++ marked l.mark (map (λ line. line.now) l.lines)
