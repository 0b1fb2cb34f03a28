use Rattle.pb_tool_notes_pages.specs.Looks.{LooksAgain}
use Rattle.pb_tool_notes_workspace.proofs.above.tell_above.Given as goal

abbrev pub invariant-loop-step : goal.invariant-loop-step
invariant-loop-step g l = LooksAgain (g.P.Place.at l.fn.place) (g.P.Place.at l.place)
