use Rattle.std.proofs.Common.{◌≡◌, ◌≢◌, ◌<◌, ◌≤◌, List, ℕ, map, vec_len, length, sym, subst, ◌∙◌, arith}
use Rattle.std.proofs.lemmas.Bool.{false≢true}
use Rattle.std.proofs.lemmas.Bool.Decides.{Decides-eqb}
use Rattle.pb_graph.specs.declared.graph.Step.{Step}
use Rattle.pb_graph.specs.declared.levels.Extent.{Extent}
use Rattle.pb_graph.specs.Order.{IsOrder}
use Rattle.pb_graph.specs.Working.{AreRising, node_of, IsOrdered, AreByKey}
use Rattle.pb_graph.proofs.Circles.{turning_lent, circle_within, circle_is, surveyed_within, straight_from, rising_from}
use Rattle.pb_graph.proofs.Crowds.{why_crowd}
use Rattle.pb_graph.proofs.Ordering.{plan_is, built_from}
use Rattle.pb_graph.proofs.order.order.Goals as goal

pub by_key-requires-clause-list : goal.by_key-requires-clause-list
by_key-requires-clause-list c =
    circle_within _ _ _ _ c.requires.graph c.requires.roots (turning_lent _ _ _ _ _ c.in_ok-extents.ensures.survey c.deref.ensures.value c.in_ok-circle.ensures) c.deref-then-not-is_empty.ensures.value

pub returns-then-not-is_empty-clause-why : goal.returns-then-not-is_empty-clause-why
returns-then-not-is_empty-clause-why c =
    let are = turning_lent _ _ _ _ _ c.in_ok-extents.ensures.survey c.deref.ensures.value c.in_ok-circle.ensures in
    let some : 0 < length c.in_ok-circle.circle.items =
    let ne : vec_len c.in_ok-circle.circle ≢ 0 = λ e. false≢true (sym c.if-not-is_empty.true ∙ c.is_empty.ensures ∙ (Decides-eqb _ 0).1 e) in
    omega (arith, ne) in
    circle_is _ _ _ _ are some (subst (λ (l : List ℕ). AreByKey c.args.nodes.now l c.in_ok-nodes.nodes) c.deref-then-not-is_empty.ensures.value c.in_ok-nodes.ensures)

pub order_nodes-requires-clause-extents : goal.order_nodes-requires-clause-extents
order_nodes-requires-clause-extents c =
    let are = turning_lent _ _ _ _ _ c.in_ok-extents.ensures.survey c.deref.ensures.value c.in_ok-circle.ensures in
    let none : length c.in_ok-circle.circle.items ≡ 0 = omega (arith, (Decides-eqb _ 0).0 (sym c.is_empty.ensures ∙ c.if-not-is_empty.false)) in
    subst (AreRising c.args.nodes.now) (sym c.deref-2.ensures.value) (rising_from _ _ _ c.in_ok-extents.ensures.survey (straight_from _ _ _ are none))

pub order_nodes-requires-clause-within : goal.order_nodes-requires-clause-within
order_nodes-requires-clause-within c = surveyed_within _ _ _ _ c.requires.graph c.requires.roots c.in_ok-extents.ensures.survey c.deref-2.ensures.value

pub returns-in-Err-clause-why : goal.returns-in-Err-clause-why
returns-in-Err-clause-why c =
    let are = turning_lent _ _ _ _ _ c.in_ok-extents.ensures.survey c.deref.ensures.value c.in_ok-circle.ensures in
    let none : length c.in_ok-circle.circle.items ≡ 0 = omega (arith, (Decides-eqb _ 0).0 (sym c.is_empty.ensures ∙ c.if-not-is_empty.false)) in
    why_crowd _ _ _ _ _ _ c.in_ok-extents.ensures.survey c.deref-2.ensures.value (straight_from _ _ _ are none) c.in-Err.ensures.crowd

pub returns-clause-order : goal.returns-clause-order
returns-clause-order c =
    let are = turning_lent _ _ _ _ _ c.in_ok-extents.ensures.survey c.deref.ensures.value c.in_ok-circle.ensures in
    let none : length c.in_ok-circle.circle.items ≡ 0 = omega (arith, (Decides-eqb _ 0).0 (sym c.is_empty.ensures ∙ c.if-not-is_empty.false)) in
    let ordered = subst (λ (x : List Extent). IsOrdered c.args.nodes.now (map node_of x) c.in-Ok.plan.items) c.deref-2.ensures.value c.in-Ok.ensures.ordered in
    subst (IsOrder c.args.nodes.now c.args.roots.now) (sym c.from_vec.ensures) (plan_is _ _ _ (built_from _ _ _ _ c.in_ok-extents.ensures.survey ordered) (straight_from _ _ _ are none))

pub returns-clause-few : goal.returns-clause-few
returns-clause-few c = subst (λ (x : List Step). length x ≤ c.args.most) (sym c.from_vec.ensures) c.in-Ok.ensures.few
