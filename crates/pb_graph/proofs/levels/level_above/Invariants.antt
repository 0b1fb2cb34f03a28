use Rattle.std.proofs.Common.{◌≡◌, drop, max, map, slice_index}
use Rattle.pb_graph.specs.Graph.{above}
use Rattle.pb_graph.proofs.levels.level_above.Given as goal

abbrev pub invariant-loop-need : goal.invariant-loop-need
invariant-loop-need l = max l.level (above (map (slice_index l.levels) (drop l.need-index l.needs))) ≡ above (map (slice_index l.levels) l.needs)
