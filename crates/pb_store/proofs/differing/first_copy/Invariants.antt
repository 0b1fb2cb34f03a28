use Rattle.std.proofs.Common.{Ok, ℕ, take, drop, IsTrue}
use Rattle.std.specs.List.{AllByRecursion}
use Rattle.pb_store.specs.Calls.{MayLook, OnlyLooks}
use Rattle.pb_store.specs.Differences.{HasFiles}
use Rattle.pb_store.specs.Looking.{copies_looked}
use Rattle.pb_store.proofs.Looking.{Reached}
use Rattle.pb_store.proofs.differing.first_copy.Given as goal

abbrev pub invariant-loop-need : goal.invariant-loop-need
invariant-loop-need g l = record {
  quiet : OnlyLooks {T = ℕ} MayLook (Ok 0) (g.P.Place.at l.fn.place) (g.P.Place.at l.place);
  all : IsTrue g.P.Place.is_modelled → AllByRecursion (HasFiles l.folder (g.P.Place.at l.fn.place).world.files) (take l.need-index l.copies);
  looks : IsTrue g.P.Place.is_modelled → Reached (copies_looked l.folder (g.P.Place.at l.fn.place).world l.copies) (copies_looked l.folder (g.P.Place.at l.fn.place).world (drop l.need-index l.copies)) (g.P.Place.at l.fn.place).counts (g.P.Place.at l.place).counts;
}
