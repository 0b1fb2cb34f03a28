use Rattle.std.proofs.Common.{◌≡◌, ℕ, max, IsTrue, Contains, List, Ok}
use Rattle.std.specs.List.{fold}
use Rattle.std.specs.Vec.Iter.{into_iter_items}
use Rattle.pb_place_types.specs.CallsInTurn.{past_calls}
use Rattle.pb_store.specs.Looking.{records_looked}
use Rattle.pb_store.specs.Folder.{greatest_at, greatest_of}
use Rattle.pb_store.specs.Presence.{noted_at}
use Rattle.pb_store.specs.Calls.{OnlyOpens}
use Rattle.pb_store.proofs.Looking.{Reached}
use Rattle.pb_store.proofs.opening.greatest_of.Given as goal

abbrev pub invariant-loop-path : goal.invariant-loop-path
invariant-loop-path g l = record {
  quiet : OnlyOpens {T = ℕ} (Ok 0) (g.P.Place.at l.fn.place) (g.P.Place.at l.place);
  found : IsTrue g.P.Place.is_modelled → fold (λ m path. max m (greatest_at (g.P.Place.at l.fn.place).world.files path)) l.greatest (into_iter_items l.path-iterator) ≡ greatest_of (g.P.Place.at l.fn.place).world.files l.fn.paths;
  held : IsTrue g.P.Place.is_modelled → fold (noted_at l.folder (g.P.Place.at l.fn.place).world.files) l.numbers (into_iter_items l.path-iterator) ≡ fold (noted_at l.folder (g.P.Place.at l.fn.place).world.files) l.fn.numbers l.fn.paths;
  within : (p : List ℕ) → Contains (into_iter_items l.path-iterator) p → Contains l.fn.paths p;
  looks : past_calls (records_looked (into_iter_items l.path-iterator)) (g.P.Place.at l.place).counts ≡ past_calls (records_looked l.fn.paths) (g.P.Place.at l.fn.place).counts;
  reached : Reached (records_looked l.fn.paths) (records_looked (into_iter_items l.path-iterator)) (g.P.Place.at l.fn.place).counts (g.P.Place.at l.place).counts;
}
