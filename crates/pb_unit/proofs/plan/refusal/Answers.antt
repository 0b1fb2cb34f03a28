use Rattle.std.proofs.Common.{◌↔◌, inr, refl, List, ℕ, map, Contains, subst, sym}
use Rattle.pb_graph.specs.declared.graph.OrderFault.{OrderFault}
use Rattle.pb_unit.specs.declared.fault.PlanFault.TheVariants.{Cycle}
use Rattle.pb_unit.specs.Drawing.{name_behind, IsRefusal}
use Rattle.pb_unit.proofs.plan.refusal.Goals as goal

pub returns-in-Ok : goal.returns-in-Ok
returns-in-Ok c =
    inr (subst (λ (f : OrderFault). IsRefusal c.args.workspace.now c.args.units.now f (Cycle c.in-Ok.names)) (sym c.in-Circle.is)
    (c.in-Ok.names, refl, c.in-Ok.ensures.order, λ name. subst (λ (l : List ℕ). Contains c.in-Ok.names name ↔ Contains (map (name_behind c.args.workspace.now c.args.units.now) l) name) c.as_slice.ensures (c.in-Ok.ensures.same name)))
