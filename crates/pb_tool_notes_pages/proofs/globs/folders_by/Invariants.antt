use Rattle.pb_tool_notes_pages.specs.Looks.{LooksAgain}
use Rattle.pb_tool_notes_pages.proofs.globs.folders_by.Given as goal

abbrev pub invariant-loop-folder : goal.invariant-loop-folder
invariant-loop-folder g l = LooksAgain (g.P.Place.at l.fn.place) (g.P.Place.at l.place)
