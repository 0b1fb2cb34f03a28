use Rattle.std.proofs.Common.{Ok, ℕ, take, drop, IsTrue}
use Rattle.std.specs.List.{AllByRecursion}
use Rattle.pb_store.specs.Calls.{MayLook, OnlyLooks}
use Rattle.pb_store.specs.Differences.{IsPresent}
use Rattle.pb_store.specs.Looking.{inputs_looked}
use Rattle.pb_store.proofs.Looking.{Reached}
use Rattle.pb_store.proofs.differing.first_input.Given as goal

abbrev pub invariant-loop-input : goal.invariant-loop-input
invariant-loop-input g l = record {
  quiet : OnlyLooks {T = ℕ} MayLook (Ok 0) (g.P.Place.at l.fn.place) (g.P.Place.at l.place);
  all : IsTrue g.P.Place.is_modelled → AllByRecursion (IsPresent l.target (g.P.Place.at l.fn.place).world) (take l.input-index l.inputs);
  looks : IsTrue g.P.Place.is_modelled → Reached (inputs_looked l.target (g.P.Place.at l.fn.place).world l.inputs) (inputs_looked l.target (g.P.Place.at l.fn.place).world (drop l.input-index l.inputs)) (g.P.Place.at l.fn.place).counts (g.P.Place.at l.place).counts;
}
