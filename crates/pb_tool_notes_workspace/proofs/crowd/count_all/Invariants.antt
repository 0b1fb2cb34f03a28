use Rattle.pb_tool_notes_pages.specs.Looks.{LooksAgain}
use Rattle.pb_tool_notes_workspace.proofs.crowd.count_all.Given as goal

abbrev pub invariant-loop-page : goal.invariant-loop-page
invariant-loop-page g l = LooksAgain (g.P.Place.at l.fn.place) (g.P.Place.at l.place)
