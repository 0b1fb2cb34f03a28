use Rattle.pb_tool_notes_pages.specs.Looks.{LooksAgain}
use Rattle.pb_tool_notes_pages.proofs.globs.member_folders.Given as goal

abbrev pub invariant-loop-pattern : goal.invariant-loop-pattern
invariant-loop-pattern g l = LooksAgain (g.P.Place.at l.fn.place) (g.P.Place.at l.place)
