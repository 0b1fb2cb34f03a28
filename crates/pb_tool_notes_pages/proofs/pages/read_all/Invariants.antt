use Rattle.pb_tool_notes_pages.specs.Looks.{LooksAgain}
use Rattle.pb_tool_notes_pages.proofs.pages.read_all.Given as goal

abbrev pub invariant-loop-number : goal.invariant-loop-number
invariant-loop-number g l = LooksAgain (g.P.Place.at l.fn.place) (g.P.Place.at l.place)
