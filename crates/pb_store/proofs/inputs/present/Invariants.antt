use Rattle.std.proofs.Common.{Ok, ℕ, ◌≡◌, ◌++◌, drop, map, IsTrue}
use Rattle.pb_store.specs.Calls.{MayLook, OnlyLooks}
use Rattle.pb_store_soundness.specs.Inputs.{input_in}
use Rattle.pb_store.specs.Looking.{names_looked}
use Rattle.pb_store.proofs.Looking.{Reached}
use Rattle.pb_store.proofs.inputs.present.Given as goal

abbrev pub invariant-loop-name : goal.invariant-loop-name
invariant-loop-name g l = record {
  quiet : OnlyLooks {T = ℕ} MayLook (Ok 0) (g.P.Place.at l.fn.place) (g.P.Place.at l.place);
  inputs : IsTrue g.P.Place.is_modelled → l.made ++ map (input_in l.target (g.P.Place.at l.fn.place).world) (drop l.name-index l.names) ≡ map (input_in l.target (g.P.Place.at l.fn.place).world) l.names;
  looks : IsTrue g.P.Place.is_modelled → Reached (names_looked l.target (g.P.Place.at l.fn.place).world l.names) (names_looked l.target (g.P.Place.at l.fn.place).world (drop l.name-index l.names)) (g.P.Place.at l.fn.place).counts (g.P.Place.at l.place).counts;
}
