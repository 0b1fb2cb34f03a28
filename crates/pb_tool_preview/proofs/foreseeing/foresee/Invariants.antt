use Rattle.std.proofs.Common.{IsTrue, Ok, ℕ, take}
use Rattle.pb_tool_preview.specs.Foreseeing.{Foresees, Looks}
use Rattle.pb_tool_preview.proofs.foreseeing.foresee.Given as goal

abbrev pub invariant-loop-index : goal.invariant-loop-index
invariant-loop-index g l = record {
  quiet : Looks {T = ℕ} (Ok 0) (g.P.Place.at l.fn.place) (g.P.Place.at l.place);
  fates : IsTrue g.P.Place.is_modelled → Foresees l.setup l.project (g.P.Place.at l.fn.place).world (take l.index l.units) l.fates.items l.done.items;
}
