use Rattle.std.proofs.Common.{◌≡◌, ◌++◌, drop, IsTrue}
use Rattle.pb_tool_clean.specs.Calls.{Looked, NoneFailed, folders_of, moment_of}
use Rattle.pb_tool_clean.proofs.looking.folders_of.Given as goal

abbrev pub invariant-loop-folder : goal.invariant-loop-folder
invariant-loop-folder g l = record {
  looked : Looked (moment_of (g.P.Place.at l.fn.place)) (moment_of (g.P.Place.at l.place));
  quiet : NoneFailed (g.P.Place.at l.fn.place).counts (g.P.Place.at l.place).counts;
  found : IsTrue g.P.Place.is_modelled → l.found ++ folders_of (drop l.folder-index l.folders) (g.P.Place.at l.fn.place).world ≡ folders_of l.folders (g.P.Place.at l.fn.place).world;
}
