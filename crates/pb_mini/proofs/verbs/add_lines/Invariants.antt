use Rattle.std.proofs.Common.{◌≡◌, IsTrue, map, drop}
use Rattle.pb_mini.specs.Effects.{followed_by}
use Rattle.pb_mini.specs.Verbs.{effects_from}
use Rattle.pb_mini.proofs.verbs.add_lines.Given as goal

abbrev pub invariant-loop-index : goal.invariant-loop-index
invariant-loop-index g l = IsTrue g.V.View.is_modelled
    → followed_by l.effects (effects_from l.scope (g.V.View.shown l.view) l.index (map (λ line. line.now) (drop l.index l.lines))) ≡ followed_by l.fn.effects (effects_from l.scope (g.V.View.shown l.view) 0 (map (λ line. line.now) l.lines))
