use Rattle.std.proofs.Common.{sym, ◌∙◌, subst}
use Rattle.pb_graph.specs.Closure.{is_on}
use Rattle.pb_graph.proofs.Walking.{Walking, walk_begun, walk_past, walk_with}
use Rattle.pb_graph.proofs.index.put_linked.Goals as goal

pub loop-link-init : goal.loop-link-init
loop-link-init c = walk_begun _ _ _ _ c.clear.ensures.items

pub loop-link-preserved : goal.loop-link-preserved
loop-link-preserved c = walk_past _ _ _ _ _ c.in-Some.link c.loop-link.invariant (sym c.link_at.ensures ∙ c.in-Some.is) c.if-known-link.false

pub loop-link-preserved-in_ok-push : goal.loop-link-preserved-in_ok-push
loop-link-preserved-in_ok-push c =
    subst (Walking (is_on c.args.known.now) c.args.links.now c.args.head c.in-Some.link.next) (sym c.in_ok-push.ensures.items)
    (walk_with _ _ _ _ _ c.in-Some.link c.loop-link.invariant (sym c.link_at.ensures ∙ c.in-Some.is) c.if-known-link.true)
