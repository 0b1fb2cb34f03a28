use Rattle.pb_tool_program.specs.Guarding.{Guarded}
use Rattle.pb_tool_program.specs.Running.{IsShownAs}
use Rattle.pb_tool_program.proofs.Ahead.{shown_changes_nothing}
use Rattle.pb_tool_program.proofs.laws.shown_changes_nothing.Goals as goal

pub returns : goal.returns
returns g c = shown_changes_nothing g.P.Place.is_modelled g.P.Place.child (Guarded g.G.Guard.asks g.G.Guard.waits) (IsShownAs g.P.Speaking.speaks g.P.Noting.notes g.O.Screen.shows g.E.Coloring.colors)
