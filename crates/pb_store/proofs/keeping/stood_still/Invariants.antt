use Rattle.pb_place_types.specs.At.{IsUnchanged}
use Rattle.pb_store.proofs.keeping.stood_still.Given as goal

abbrev pub invariant-loop-name : goal.invariant-loop-name
invariant-loop-name g l = IsUnchanged (g.P.Place.at l.fn.place) (g.P.Place.at l.place)
