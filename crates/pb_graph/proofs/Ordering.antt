-- The plan, from its parts.
use Rattle.std.proofs.Common.{◌≡◌, inl, inr, ◌↔◌, ℕ, List, map, slice_get, slice_index, Some, sym, ap, subst, ◌∙◌, arith, Contains, All, AllPairs}
use Rattle.std.specs.List.{AllZip}
use Rattle.pb_graph.specs.declared.graph.Node.{Node}
use Rattle.pb_graph.specs.declared.graph.Step.{Step}
use Rattle.pb_graph.specs.declared.levels.Extent.{Extent}
use Rattle.pb_graph.specs.declared.ranks.Rank.{Rank}
use Rattle.pb_graph.specs.Graph.{needs_at, key_at, Reaches, direct, onward, IsReached, above, IsBelow}
use Rattle.pb_graph.specs.Order.{IsOrder, AreIndices, ComesBefore, level_of, level_at}
use Rattle.pb_graph.specs.Working.{node_of, IsRank, RanksBefore, rank_node, IsOrdered, IsPlaced, AreIndicesBy, AreSurveyed}
use Rattle.pb_graph.proofs.Elements.{contains_map, map_contains, at_from_contains, contains_from_at, all_from_at, all_at, pair_at, pairs_from_at, zip_left, zip_right, above_same}
use Rattle.std.proofs.lemmas.Option.{slice_get_within}
use Rattle.pb_graph.proofs.Extents.{reaches_row}
use Rattle.pb_graph.proofs.Reaching.{reached_more}

-- the parts of a plan
pub record Built (nodes : List Node) (roots : List ℕ) (plan : List Step) : Type 0 where
  pub levels : List ℕ
  pub ranks : List Rank
  pub indices : List ℕ
  pub same : (v : ℕ) → Contains (map rank_node ranks) v ↔ IsReached nodes roots v
  pub leveled : (v : ℕ) → IsReached nodes roots v → slice_index levels v ≡ above (map (slice_index levels) (needs_at nodes v))
  pub ranked : All (IsRank nodes levels) ranks
  pub order : AllPairs RanksBefore ranks
  pub told : (k : ℕ) (r : Rank) → slice_get ranks k ≡ Some r → slice_index indices r.node ≡ k
  pub each : AllZip (IsPlaced nodes indices) ranks plan

abbrev step_node : Step → ℕ
step_node p = p.node

-- the rank behind an index
record Behind (nodes : List Node) (levels : List ℕ) (ranks : List Rank) (indices : List ℕ) (k : ℕ) (p : Step) : Type 0 where
  pub rank : Rank
  pub at : slice_get ranks k ≡ Some rank
  pub is : IsRank nodes levels rank
  pub placed : IsPlaced nodes indices rank p

behind : (nodes : List Node) (roots : List ℕ) (plan : List Step) (b : Built nodes roots plan) (k : ℕ) (p : Step) → slice_get plan k ≡ Some p → Behind nodes b.levels b.ranks b.indices k p
behind nodes roots plan b k p at = let (r, there, h) = zip_right (IsPlaced nodes b.indices) b.ranks plan b.each k p at in record { rank = r; at = there; is = all_at (IsRank nodes b.levels) b.ranks b.ranked k r there; placed = h }

-- a node of the plan is reached
node_reached : (nodes : List Node) (roots : List ℕ) (plan : List Step) (b : Built nodes roots plan) (k : ℕ) (p : Step) → slice_get plan k ≡ Some p → IsReached nodes roots p.node
node_reached nodes roots plan b k p at =
    let h = behind nodes roots plan b k p at in
    subst (IsReached nodes roots) (sym h.placed.node) ((b.same h.rank.node).0 (contains_map rank_node b.ranks h.rank (contains_from_at b.ranks k h.rank h.at)))

-- what is reached stands at its index
record Stands (plan : List Step) (index v n : ℕ) : Type 0 where
  pub step : Step
  pub at : slice_get plan index ≡ Some step
  pub node : step.node ≡ v
  pub level : step.level ≡ n

stands : (nodes : List Node) (roots : List ℕ) (plan : List Step) (b : Built nodes roots plan) (v : ℕ) → IsReached nodes roots v → Stands plan (slice_index b.indices v) v (slice_index b.levels v)
stands nodes roots plan b v reached =
    let (r, has, e) = map_contains rank_node b.ranks v ((b.same v).1 reached) in
    let (k, there) = at_from_contains b.ranks r has in
    let (p, at, h) = zip_left (IsPlaced nodes b.indices) b.ranks plan b.each k r there in
    let is = all_at (IsRank nodes b.levels) b.ranks b.ranked k r there in
    let index : slice_index b.indices v ≡ k = ap (slice_index b.indices) (sym e) ∙ b.told k r there in
    record {
      step = p;
      at = ap (slice_get plan) index ∙ at;
      node = h.node ∙ e;
      level = h.level ∙ is.level ∙ ap (slice_index b.levels) e;
    }

-- the indices of reached nodes that are wanted
indices_are : (nodes : List Node) (roots : List ℕ) (plan : List Step) (b : Built nodes roots plan) (Wanted : ℕ → Type 0) (list found : List ℕ) → ((v : ℕ) → Contains list v ↔ Wanted v) → ((v : ℕ) → Contains list v → IsReached nodes roots v) → AreIndicesBy b.indices list found → AreIndices plan Wanted found
indices_are nodes roots plan b Wanted list found exact reached h = record {
  rises = h.rises;
  same = λ index. (
    λ has.
        let (v, in', e) = map_contains (slice_index b.indices) list index ((h.same index).0 has) in
        let s = stands nodes roots plan b v (reached v in') in
        (s.step, ap (slice_get plan) (sym e) ∙ s.at, subst Wanted (sym s.node) ((exact v).0 in')),
    λ some.
        let k = behind nodes roots plan b index some.0 some.1 in
        let wanted : Wanted k.rank.node = subst Wanted k.placed.node some.2 in
        (h.same index).1 (subst (Contains (map (slice_index b.indices) list)) (b.told index k.rank k.at) (contains_map (slice_index b.indices) list k.rank.node ((exact k.rank.node).1 wanted))),
  );
}

reach_more : (nodes : List Node) (roots : List ℕ) (u v : ℕ) → IsReached nodes roots u → Reaches nodes u v → IsReached nodes roots v
reach_more nodes roots u v h (direct _ _ need) = reached_more nodes roots u v h need
reach_more nodes roots u w h (onward _ v _ need more) = reach_more nodes roots v w (reached_more nodes roots u v h need) more

level_at_stands : (plan : List Step) (index v level : ℕ) → Stands plan index v level → level_at plan index ≡ level
level_at_stands plan index v level s = ap level_of s.at ∙ s.level

levels_are : (nodes : List Node) (roots : List ℕ) (plan : List Step) (b : Built nodes roots plan) (k : ℕ) (p : Step) → slice_get plan k ≡ Some p → p.level ≡ above (map (level_at plan) p.needs)
levels_are nodes roots plan b k p at =
    let h = behind nodes roots plan b k p at in
    let u = h.rank.node in
    let reached : IsReached nodes roots u = subst (IsReached nodes roots) h.placed.node (node_reached nodes roots plan b k p at) in
    let needed : (v : ℕ) → Contains (needs_at nodes u) v → IsReached nodes roots v = λ v need. reached_more nodes roots u v reached need in
    h.placed.level ∙ h.is.level ∙ b.leveled u reached ∙ above_same _ _
    (λ n has.
    let (v, need, e) = map_contains (slice_index b.levels) (needs_at nodes u) n has in
    let there : Contains p.needs (slice_index b.indices v) = (h.placed.needs.same (slice_index b.indices v)).1 (contains_map (slice_index b.indices) (needs_at nodes u) v need) in
    subst (Contains (map (level_at plan) p.needs)) (level_at_stands plan _ v _ (stands nodes roots plan b v (needed v need)) ∙ e) (contains_map (level_at plan) p.needs (slice_index b.indices v) there))
    (λ n has.
    let (index, in', e) = map_contains (level_at plan) p.needs n has in
    let (v, need, f) = map_contains (slice_index b.indices) (needs_at nodes u) index ((h.placed.needs.same index).0 in') in
    let level : level_at plan index ≡ slice_index b.levels v = ap (level_at plan) (sym f) ∙ level_at_stands plan _ v _ (stands nodes roots plan b v (needed v need)) in
    subst (Contains (map (slice_index b.levels) (needs_at nodes u))) (sym level ∙ e) (contains_map (slice_index b.levels) (needs_at nodes u) v need))

comes_before : (nodes : List Node) (indices : List ℕ) (r s : Rank) (p q : Step) → IsPlaced nodes indices r p → IsPlaced nodes indices s q → RanksBefore r s → ComesBefore p q
comes_before nodes indices r s p q hp hq h = record {
  order = elim h.order [
    | inl lt ↦ inl (omega (arith, lt, hp.level, hq.level))
    | inr both ↦ inr (hp.level ∙ both.0 ∙ sym hq.level, subst (λ (k : List ℕ). IsBelow k q.key) (sym hp.key) (subst (IsBelow r.key) (sym hq.key) both.1))
  ];
}

pub plan_is : (nodes : List Node) (roots : List ℕ) (plan : List Step) → Built nodes roots plan → ((u : ℕ) → IsReached nodes roots u → Reaches nodes u u → ⊥) → IsOrder nodes roots plan
plan_is nodes roots plan b straight = record {
  units = λ u. (
    λ has.
        let (p, in', e) = map_contains step_node plan u has in
        let (k, at) = at_from_contains plan p in' in
        subst (IsReached nodes roots) e (node_reached nodes roots plan b k p at),
    λ reached.
        let s = stands nodes roots plan b u reached in
        subst (Contains (map step_node plan)) s.node (contains_map step_node plan s.step (contains_from_at plan _ s.step s.at)),
  );
  keys = all_from_at (λ p. p.key ≡ key_at nodes p.node) plan (λ k p at. let h = behind nodes roots plan b k p at in h.placed.key ∙ h.is.key ∙ ap (key_at nodes) (sym h.placed.node));
  levels = all_from_at (λ p. p.level ≡ above (map (level_at plan) p.needs)) plan (levels_are nodes roots plan b);
  order = pairs_from_at ComesBefore plan (λ i j p q lt x y.
      let h = behind nodes roots plan b i p x in
      let k = behind nodes roots plan b j q y in
      comes_before nodes b.indices h.rank k.rank p q h.placed k.placed (pair_at RanksBefore b.ranks b.order i j h.rank k.rank lt h.at k.at));
  needs = all_from_at (λ p. AreIndices plan (Contains (needs_at nodes p.node)) p.needs) plan (λ k p at.
      let h = behind nodes roots plan b k p at in
      let reached = node_reached nodes roots plan b k p at in
      subst (λ (u : ℕ). AreIndices plan (Contains (needs_at nodes u)) p.needs) (sym h.placed.node)
      (indices_are nodes roots plan b (Contains (needs_at nodes h.rank.node)) (needs_at nodes h.rank.node) p.needs (λ v. (λ x. x, λ x. x))
      (λ v need. reached_more nodes roots h.rank.node v (subst (IsReached nodes roots) h.placed.node reached) need) h.placed.needs));
  reaches = all_from_at (λ p. AreIndices plan (Reaches nodes p.node) p.reaches) plan (λ k p at.
      let h = behind nodes roots plan b k p at in
      let reached = node_reached nodes roots plan b k p at in
      subst (λ (u : ℕ). AreIndices plan (Reaches nodes u) p.reaches) (sym h.placed.node)
      (indices_are nodes roots plan b (Reaches nodes h.rank.node) h.placed.reached p.reaches (reaches_row nodes h.rank.node h.placed.reached h.placed.are)
      (λ v has. reach_more nodes roots h.rank.node v (subst (IsReached nodes roots) h.placed.node reached) ((reaches_row nodes h.rank.node h.placed.reached h.placed.are v).0 has)) h.placed.reaches));
  no_circle = straight;
}

pub built_from : (nodes : List Node) (roots : List ℕ) (extents : List Extent) (plan : List Step) → AreSurveyed nodes roots extents → IsOrdered nodes (map node_of extents) plan → Built nodes roots plan
built_from nodes roots extents plan s o = record {
  levels = o.levels;
  ranks = o.ranks;
  indices = o.steps.indices;
  same = λ v. (λ has. (s.same v).0 ((o.same v).0 ((o.ranked.same v).0 has)), λ reached. (o.ranked.same v).1 ((o.same v).1 ((s.same v).1 reached)));
  leveled = λ v reached. o.leveled.each v ((s.same v).1 reached);
  ranked = o.ranked.each;
  order = o.ranked.order;
  told = λ k r at. o.steps.told.tell k r (slice_get_within o.ranks k r at) at;
  each = o.steps.each;
}
