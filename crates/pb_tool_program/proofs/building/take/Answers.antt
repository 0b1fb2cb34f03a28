use Rattle.std.proofs.Common.{Bool, inl, inr, refl, subst}
use Rattle.pb_tool_program.proofs.building.take.Goals as goal

pub returns-then-is_taken : goal.returns-then-is_taken
returns-then-is_taken g c = inr (
  c.is_taken.new.self,
  subst (λ (taken : Bool). g.G.Guard.asks c.args.guard.now c.args.folder.now (g.P.Place.at c.args.place.now).counts (g.E.Out.heard c.args.err.now) taken c.is_taken.new.self) c.if-is_taken.true c.is_taken.ensures,
  c.tell_waiting.ensures,
  c.wait.ensures,
)

pub returns-else-is_taken : goal.returns-else-is_taken
returns-else-is_taken g c = inl (subst (λ (taken : Bool). g.G.Guard.asks c.args.guard.now c.args.folder.now (g.P.Place.at c.args.place.now).counts (g.E.Out.heard c.args.err.now) taken c.is_taken.new.self) c.if-is_taken.false c.is_taken.ensures, refl)
