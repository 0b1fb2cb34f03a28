use Rattle.std.proofs.Common.{◌≡◌, IsTrue, map, drop}
use Rattle.pb_mini.specs.Script.{before, lines_run}
use Rattle.pb_mini.proofs.script.run_lines.Given as goal

abbrev pub invariant-loop-line : goal.invariant-loop-line
invariant-loop-line g l = IsTrue g.V.View.is_modelled
    → before l.output (lines_run l.pairs (g.V.View.shown l.view) (map (λ line. line.now) (drop l.line-index l.lines))) ≡ lines_run l.pairs (g.V.View.shown l.view) (map (λ line. line.now) l.lines)
