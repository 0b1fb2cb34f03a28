use Rattle.std.proofs.Common.{List, ℕ, subst, sym, take, ◌+◌}
use Rattle.std.specs.List.{AllZip}
use Rattle.pb_graph.proofs.Elements.{zip_more}
use Rattle.pb_graph.specs.declared.graph.Step.{Step}
use Rattle.pb_graph.specs.declared.ranks.Rank.{Rank}
use Rattle.std.proofs.lemmas.List.{take_all}
use Rattle.pb_graph.specs.Working.{IsPlaced}
use Rattle.pb_graph.proofs.order.steps_of.Goals as goal

pub loop-rank-preserved : goal.loop-rank-preserved
loop-rank-preserved c =
    let R = IsPlaced c.args.nodes.now c.in_ok-indices.indices.items in
    let one = subst (λ (x : List ℕ). IsPlaced c.args.nodes.now x c.rank-item.result c.in_ok-item.item) c.deref.ensures.value c.in_ok-item.ensures.step in
    record {
      each = subst (λ (x : List Step). AllZip R (take (c.loop-rank.rank-index + 1) c.args.ranks.now) x) (sym c.in_ok-push.ensures.items)
          (zip_more R c.args.ranks.now c.loop-rank.plan.items c.loop-rank.rank-index c.rank-item.result c.in_ok-item.item c.loop-rank-test.true c.rank-item.is c.loop-rank.invariant.each one);
      long = c.in_ok-item.ensures.long;
      clear = c.in_ok-item.ensures.clear;
    }

pub returns : goal.returns
returns c = record {
  indices = c.in_ok-indices.indices.items;
  told = c.in_ok-indices.ensures;
  each = subst (λ (x : List Rank). AllZip (IsPlaced c.args.nodes.now c.in_ok-indices.indices.items) x c.loop-rank.plan.items)
      (take_all c.loop-rank.rank-index c.args.ranks.now c.loop-rank-test.false) c.loop-rank.invariant.each;
}
