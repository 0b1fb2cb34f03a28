use Rattle.pb_graph.proofs.Reaching.{found_within_as}
use Rattle.pb_graph.proofs.reach.reached_from.Goals as goal

pub clear-requires-clause-within : goal.clear-requires-clause-within
clear-requires-clause-within c = found_within_as _ _ _ _ _ _ c.in_ok-found.ensures c.deref.ensures.value c.deref_mut.ensures.value
