use Rattle.pb_tool_notes_pages.specs.Looks.{LooksAgain}
use Rattle.pb_tool_notes_pages.proofs.globs.folders_of.Given as goal

abbrev pub invariant-loop-part : goal.invariant-loop-part
invariant-loop-part g l = LooksAgain (g.P.Place.at l.fn.place) (g.P.Place.at l.place)
