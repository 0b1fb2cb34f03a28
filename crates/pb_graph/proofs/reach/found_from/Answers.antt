use Rattle.std.proofs.Common.{◌≡◌, ℕ, List, length, Contains, subst, sym, arith}
use Rattle.std.proofs.lemmas.List.Elements.{Contains-push}
use Rattle.pb_graph.specs.Working.{Marked}
use Rattle.pb_graph.proofs.Reaching.{Closing, closing_start, closing_step, waits_within, needs_within, found_all}
use Rattle.pb_graph.proofs.reach.found_from.Goals as goal

pub loop-u-init : goal.loop-u-init
loop-u-init c = closing_start _ _ _ _ _ _ _ c.requires.long c.requires.clear c.new-waiting.ensures.items c.new-found.ensures.items c.in_ok-mark_all.ensures

pub needs_at-requires : goal.needs_at-requires
needs_at-requires c =
    waits_within _ _ _ _ _ c.loop-u.invariant c.in-Some.u (subst (λ w. Contains w c.in-Some.u) (sym c.in-Some.ensures.items) (Contains-push c.pop.new.self.items c.in-Some.u))

pub mark_all-requires-in-Some : goal.mark_all-requires-in-Some
mark_all-requires-in-Some c = needs_within _ _ _ _ c.requires.graph c.needs_at.ensures c.loop-u.invariant.long

pub loop-u-preserved : goal.loop-u-preserved
loop-u-preserved c =
    let nodes = c.args.nodes.now in
    let old = subst (λ (w : List ℕ). Closing nodes c.args.roots.now c.loop-u.marks.items w c.loop-u.found.items) c.in-Some.ensures.items c.loop-u.invariant in
    let new = subst (λ (list : List ℕ). Marked list (length list) c.loop-u.marks.items c.pop.new.self.items c.mark_all-in-Some.new.marks.items c.mark_all-in-Some.new.waiting.items) c.needs_at.ensures c.in_ok-mark_all-2.ensures in
    subst (λ (f : List ℕ). Closing nodes c.args.roots.now c.mark_all-in-Some.new.marks.items c.mark_all-in-Some.new.waiting.items f) (sym c.in_ok-push.ensures.items) (closing_step nodes _ _ _ _ _ _ _ old new)

pub returns : goal.returns
returns c =
    let none : length c.loop-u.waiting.items ≡ 0 = omega (arith, c.in_default.ensures.cases.0) in
    found_all _ _ _ _ _ c.loop-u.invariant none
