-- Too many nodes, and the nodes of a list in the order of their keys.
use Rattle.std.proofs.Common.{◌≡◌, ◌⊎◌, inl, inr, ◌↔◌, ℕ, ◌<◌, ◌≤◌, List, map, length, sym, ap, subst, ◌∙◌, arith, Contains, All}
use Rattle.std.proofs.lemmas.Slice.Zip.{AllZip-long}
use Rattle.pb_graph.specs.declared.graph.Node.{Node}
use Rattle.pb_graph.specs.declared.graph.Step.{Step}
use Rattle.pb_graph.specs.declared.graph.OrderFault.{OrderFault}
use Rattle.pb_graph.specs.declared.graph.OrderFault.TheVariants.{OutOfMemory, TooMany}
use Rattle.pb_graph.specs.declared.levels.Extent.{Extent}
use Rattle.pb_graph.specs.declared.ranks.Rank.{Rank}
use Rattle.pb_graph.specs.Graph.{Reaches, IsReached}
use Rattle.pb_graph.specs.Order.{IsCrowd, IsWhy}
use Rattle.pb_graph.specs.Working.{node_of, AreRanked, AreSurveyed, AreByKey, AreSteps, IsPlaced, IsCrowded}
use Rattle.pb_graph.proofs.Elements.{all_from_at, all_at, at_from_contains, contains_from_at}
use Rattle.pb_graph.proofs.Circles.{all_within, nodes_within}

-- the nodes in the order of their keys are nodes
pub by_key_within : (nodes : List Node) (n : ℕ) (extents : List Extent) (items lent found shown : List ℕ) → All (λ e. e.node < n) extents → items ≡ map node_of extents → lent ≡ items → AreByKey nodes lent found → shown ≡ found → All (λ v. v < n) shown
by_key_within nodes n extents items lent found shown within is same h shows = all_within n shown (λ v has.
    let (k, at) = at_from_contains lent v ((h.same v).0 (subst (λ (l : List ℕ). Contains l v) shows has)) in
    all_at (λ w. w < n) lent (nodes_within n extents items lent within is same) k v at)

-- and the same as in the list
pub by_key_same : (nodes : List Node) (list items lent found shown : List ℕ) → items ≡ list → lent ≡ items → AreByKey nodes lent found → shown ≡ found → (v : ℕ) → Contains shown v ↔ Contains list v
by_key_same nodes list items lent found shown is same h shows v = (
  λ has. subst (λ (l : List ℕ). Contains l v) (same ∙ is) ((h.same v).0 (subst (λ (l : List ℕ). Contains l v) shows has)),
  λ has. subst (λ (l : List ℕ). Contains l v) (sym shows) ((h.same v).1 (subst (λ (l : List ℕ). Contains l v) (sym (same ∙ is)) has)),
)

-- no more steps than nodes
pub steps_few : (nodes : List Node) (found shown levels : List ℕ) (ranks lent : List Rank) (steps : List Step) (most : ℕ) → length found ≤ most → shown ≡ found → AreRanked nodes shown levels ranks → lent ≡ ranks → AreSteps nodes lent steps → length steps ≤ most
steps_few nodes found shown levels ranks lent steps most few shows ranked same are =
    let long : length steps ≡ length lent = AllZip-long (IsPlaced nodes are.indices) lent steps are.each in
    let a : length lent ≡ length ranks = ap length same in
    let b : length shown ≡ length found = ap length shows in
    omega (arith, long, a, b, few, ranked.few)

-- too many nodes of those that are reached
pub crowd_is : (nodes : List Node) (roots : List ℕ) (extents lent : List Extent) (most : ℕ) → AreSurveyed nodes roots extents → lent ≡ extents → ((u : ℕ) → IsReached nodes roots u → Reaches nodes u u → ⊥) → IsCrowded nodes (map node_of lent) most → IsCrowd nodes roots most
crowd_is nodes roots extents lent most s same straight h = record {
  straight = straight;
  found = h.found;
  reached = all_from_at (IsReached nodes roots) h.found (λ k v at.
      (s.same v).0 (subst (λ (l : List Extent). Contains (map node_of l) v) same ((h.listed.same v).0 (contains_from_at h.found k v at))));
  order = h.listed.order;
  many = h.many;
}

pub why_crowd : (nodes : List Node) (roots : List ℕ) (extents lent : List Extent) (most : ℕ) (e : OrderFault) → AreSurveyed nodes roots extents → lent ≡ extents → ((u : ℕ) → IsReached nodes roots u → Reaches nodes u u → ⊥) → (e ≡ OutOfMemory) ⊎ ((e ≡ TooMany) × IsCrowded nodes (map node_of lent) most) → IsWhy nodes roots most e
why_crowd nodes roots extents lent most e s same straight h = elim h [
  | inl memory ↦ subst (IsWhy nodes roots most) (sym memory) tt
  | inr both ↦ subst (IsWhy nodes roots most) (sym both.0) (crowd_is nodes roots extents lent most s same straight both.1)
]
