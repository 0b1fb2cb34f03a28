use Rattle.std.proofs.Common.{◌≡◌, drop, IsTrue}
use Rattle.pb_place_types.specs.World.{ChangesOnly, World}
use Rattle.pb_tool_clean.specs.Calls.{Changed, CutsEach, NoneFailed, moment_of, removed_each}
use Rattle.pb_tool_clean.specs.Names.{is_among}
use Rattle.pb_tool_clean.proofs.removing.remove_each.Given as goal

abbrev pub invariant-loop-path : goal.invariant-loop-path
invariant-loop-path g l = record {
  changed : Changed (is_among l.paths) (moment_of (g.P.Place.at l.fn.place)) (moment_of (g.P.Place.at l.place));
  quiet : NoneFailed (g.P.Place.at l.fn.place).counts (g.P.Place.at l.place).counts;
  cut : IsTrue g.P.Place.is_modelled → (w : World) → CutsEach (drop l.path-index l.paths) (g.P.Place.at l.place).world w → CutsEach l.paths (g.P.Place.at l.fn.place).world w;
  gone : IsTrue g.P.Place.is_modelled → removed_each (drop l.path-index l.paths) (g.P.Place.at l.place).world ≡ removed_each l.paths (g.P.Place.at l.fn.place).world;
}
