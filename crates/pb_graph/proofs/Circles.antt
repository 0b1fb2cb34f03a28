-- Which nodes reach themselves, in the order of their keys.
use Rattle.std.proofs.Common.{◌≡◌, ◌≢◌, inl, inr, ◌↔◌, ℕ, zero, suc, ◌<◌, true, List, map, replicate, filter, length, get_or, slice_index, refl, sym, ap, subst, ◌∙◌, arith, Contains, All, AllPairs}
use Rattle.std.specs.Ordering.{nat_cmp}
use Rattle.std.specs.declared.cmp.Ordering.TheVariants.{Less, Equal}
use Rattle.std.specs.Cmp.Lexicographic.{slice_cmp}
use Rattle.std.specs.List.Sorted.{IsPermutation, IsNonDecreasingBy}
use Rattle.std.proofs.lemmas.Cmp.{tied_itself, nat_list_cmp_total}
use Rattle.std.proofs.lemmas.List.Sorted.{All-permutation, Contains-permutation, IsPermutation-map, IsPermutation-sym}
use Rattle.std.proofs.lemmas.List.Elements.{Contains-get_or}
use Rattle.pb_graph.specs.declared.graph.Node.{Node}
use Rattle.pb_graph.specs.declared.levels.Extent.{Extent}
use Rattle.pb_graph.specs.declared.ranks.Rank.{Rank}
use Rattle.pb_graph.specs.Graph.{IsGraph, key_at, Reaches, direct, onward, IsReached, IsBelow}
use Rattle.pb_graph.specs.Order.{IsCircle}
use Rattle.pb_graph.specs.Working.{AreReached, IsExtent, AreRising, node_of, AreRanked, IsRank, RanksBefore, rank_node, AreSurveyed, AreByKey}
use Rattle.pb_graph.proofs.Elements.{contains_map, map_contains, contains_filter, filter_contains, mapped_at, pair_at, all_at, at_from_contains}
use Rattle.pb_graph.proofs.Reaching.{reached_more}

reaches_within : (nodes : List Node) (u v : ℕ) → IsGraph nodes → Reaches nodes u v → v < length nodes
reaches_within nodes u v g (direct _ _ need) = g.within u v need
reaches_within nodes u w g (onward _ v _ need more) = reaches_within nodes v w g more

-- what is reached is a node
pub reached_within : (nodes : List Node) (roots : List ℕ) → IsGraph nodes → All (λ r. r < length nodes) roots → (v : ℕ) → IsReached nodes roots v → v < length nodes
reached_within nodes roots g h v (inl root) = let (k, at) = at_from_contains roots v root in all_at (λ r. r < length nodes) roots h k v at
reached_within nodes roots g h v (inr (r, root, way)) = reaches_within nodes r v g way

-- each element of a list of which each has it
pub all_within : (n : ℕ) (list : List ℕ) → ((v : ℕ) → Contains list v → v < n) → All (λ v. v < n) list
all_within n list h k d lt = h (get_or list k d) (Contains-get_or list k d lt)

-- the extents, sorted
pub surveyed : (nodes : List Node) (roots reached list : List ℕ) (old new : List Extent) → AreReached nodes roots reached → list ≡ reached → map node_of old ≡ list → All (IsExtent nodes) old → IsPermutation old new → IsNonDecreasingBy (λ e. e.count) new → AreSurveyed nodes roots new
surveyed nodes roots reached list old new (marks, h) same is each moved rises =
    let moves = IsPermutation-map node_of old new moved in
    record {
      same = λ v. (
        λ has. (h.exact v).0 ((h.same v).0 (subst (λ (l : List ℕ). Contains l v) (is ∙ same) (Contains-permutation _ _ v (IsPermutation-sym _ _ moves) has))),
        λ way. Contains-permutation _ _ v moves (subst (λ (l : List ℕ). Contains l v) (sym (is ∙ same)) ((h.same v).1 ((h.exact v).1 way))),
      );
      each = All-permutation (IsExtent nodes) old new moved each;
      rising = rises;
    }

-- the nodes that are told to turn are those that reach themselves
pub turning_are : (nodes : List Node) (roots : List ℕ) (extents : List Extent) (list : List ℕ) → AreSurveyed nodes roots extents → list ≡ map node_of (filter (λ e. e.turns) extents) → (v : ℕ) → Contains list v ↔ (IsReached nodes roots v × Reaches nodes v v)
turning_are nodes roots extents list h is v = (
  λ has.
      let (e, found, at) = map_contains node_of (filter (λ x. x.turns) extents) v (subst (λ (l : List ℕ). Contains l v) is has) in
      let (in', turns) = filter_contains (λ x. x.turns) extents e found in
      let (k, index) = at_from_contains extents e in' in
      let x = all_at (IsExtent nodes) extents h.each k e index in
      let reached : IsReached nodes roots e.node = (h.same e.node).0 (contains_map node_of extents e in') in
      (subst (IsReached nodes roots) at reached, subst (λ w. Reaches nodes w w) at (x.turns.0 turns)),
  λ both.
      let (e, in', at) = map_contains node_of extents v ((h.same v).1 both.0) in
      let (k, index) = at_from_contains extents e in' in
      let x = all_at (IsExtent nodes) extents h.each k e index in
      let turns : e.turns ≡ true = x.turns.1 (subst (λ w. Reaches nodes w w) (sym at) both.1) in
      subst (λ (l : List ℕ). Contains l v) (sym is) (subst (Contains (map node_of (filter (λ y. y.turns) extents))) at (contains_map node_of _ e (contains_filter (λ y. y.turns) extents e in' turns))),
)

-- where none turns, what is needed is less
pub rising_from : (nodes : List Node) (roots : List ℕ) (extents : List Extent) → AreSurveyed nodes roots extents → ((v : ℕ) → IsReached nodes roots v → Reaches nodes v v → ⊥) → AreRising nodes extents
rising_from nodes roots extents h straight = record {
  each = h.each;
  rising = h.rising;
  straight = λ v has way. straight v ((h.same v).0 has) way;
  closed = λ u v has need. (h.same v).1 (reached_more nodes roots u v ((h.same u).0 has) need);
}

zero_level : (n v : ℕ) → slice_index (replicate n 0) v ≡ 0
zero_level zero v = refl
zero_level (suc n) zero = refl
zero_level (suc n) (suc v) = zero_level n v

below_by_key : (nodes : List Node) (levels : List ℕ) (a b : Rank) → ((v : ℕ) → slice_index levels v ≡ 0) → IsRank nodes levels a → IsRank nodes levels b → RanksBefore a b → IsBelow (key_at nodes a.node) (key_at nodes b.node)
below_by_key nodes levels a b none ra rb h = elim h.order [
  | inl lt ↦ absurd (let x = none b.node in omega (arith, lt, rb.level, x))
  | inr both ↦ subst (λ (k : List ℕ). IsBelow k (key_at nodes b.node)) ra.key (subst (IsBelow a.key) rb.key both.1)
]

pub by_key_all : (nodes : List Node) (list levels found : List ℕ) (ranks : List Rank) (n : ℕ) → AreRanked nodes list levels ranks → levels ≡ replicate n 0 → found ≡ map rank_node ranks → AreByKey nodes list found
by_key_all nodes list levels found ranks n h none is = record {
  same = λ v. (λ has. (h.same v).0 (subst (λ (l : List ℕ). Contains l v) is has), λ has. subst (λ (l : List ℕ). Contains l v) (sym is) ((h.same v).1 has));
  order = subst (AllPairs (λ u v. IsBelow (key_at nodes u) (key_at nodes v))) (sym is) (λ i j d lt in'.
      let (a, x, e) = mapped_at rank_node ranks i d (omega arith) in
      let (b, y, f) = mapped_at rank_node ranks j d in' in
      let below = below_by_key nodes levels a b (λ v. ap (λ (l : List ℕ). slice_index l v) none ∙ zero_level n v) (all_at (IsRank nodes levels) ranks h.each i a x) (all_at (IsRank nodes levels) ranks h.each j b y) (pair_at RanksBefore ranks h.order i j a b lt x y) in
      subst (λ (u : ℕ). IsBelow (key_at nodes u) (key_at nodes (get_or (map rank_node ranks) j d))) (sym e) (subst (λ (v : ℕ). IsBelow (key_at nodes a.node) (key_at nodes v)) (sym f) below));
}

-- nodes in order are apart
pub ranks_apart : (nodes : List Node) (levels : List ℕ) (a b : Rank) → IsRank nodes levels a → IsRank nodes levels b → RanksBefore a b → a.node ≢ b.node
ranks_apart nodes levels a b ra rb h e = elim h.order [
  | inl lt ↦ let same : slice_index levels a.node ≡ slice_index levels b.node = ap (slice_index levels) e in omega (arith, lt, ra.level, rb.level, same)
  | inr both ↦
      let keys : a.key ≡ b.key = ra.key ∙ ap (key_at nodes) e ∙ sym rb.key in
      let less : slice_cmp nat_cmp b.key b.key ≡ Less = subst (λ (k : List ℕ). slice_cmp nat_cmp k b.key ≡ Less) keys both.1 in
      let equal : slice_cmp nat_cmp b.key b.key ≡ Equal = tied_itself nat_list_cmp_total b.key in
      let no : Less ≡ Equal = sym less ∙ equal in cc
]

-- the circle
pub circle_is : (nodes : List Node) (roots list found : List ℕ) → ((v : ℕ) → Contains list v ↔ (IsReached nodes roots v × Reaches nodes v v)) → 0 < length list → AreByKey nodes list found → IsCircle nodes roots found
circle_is nodes roots list found are some h = record {
  some = let (k, lt, at) = (h.same (get_or list 0 0)).1 (Contains-get_or list 0 0 some) in omega (arith, lt);
  nodes_are = λ u. (λ has. (are u).0 ((h.same u).0 has), λ both. (h.same u).1 ((are u).1 both));
  order = h.order;
}

-- The same, through what refers to them.

pub nodes_within : (n : ℕ) (extents : List Extent) (items list : List ℕ) → All (λ e. e.node < n) extents → items ≡ map node_of extents → list ≡ items → All (λ v. v < n) list
nodes_within n extents items list h is same = all_within n list (λ v has.
    let (e, in', at) = map_contains node_of extents v (subst (λ (l : List ℕ). Contains l v) (same ∙ is) has) in
    let (k, index) = at_from_contains extents e in' in
    subst (λ w. w < n) at (all_at (λ x. x.node < n) extents h k e index))

pub ranks_within : (nodes : List Node) (n : ℕ) (list levels : List ℕ) (ranks lent : List Rank) → AreRanked nodes list levels ranks → All (λ v. v < n) list → lent ≡ ranks → All (λ r. r.node < n) lent
ranks_within nodes n list levels ranks lent h within same = subst (λ (x : List Rank). All (λ r. r.node < n) x) (sym same) (λ k d lt.
    let (j, index) = at_from_contains list (get_or ranks k d).node ((h.same (get_or ranks k d).node).0 (contains_map rank_node ranks (get_or ranks k d) (Contains-get_or ranks k d lt))) in
    all_at (λ v. v < n) list within j (get_or ranks k d).node index)

pub all_apart : (nodes : List Node) (list levels : List ℕ) (ranks lent : List Rank) → AreRanked nodes list levels ranks → lent ≡ ranks → AllPairs (λ a b. a.node ≢ b.node) lent
all_apart nodes list levels ranks lent h same = subst (AllPairs (λ (a : Rank) (b : Rank). a.node ≢ b.node)) (sym same) (λ i j d lt in'.
    ranks_apart nodes levels (get_or ranks i d) (get_or ranks j d) (h.each i d (omega arith)) (h.each j d in') (h.order i j d lt in'))

pub turning_lent : (nodes : List Node) (roots : List ℕ) (extents lent : List Extent) (list : List ℕ) → AreSurveyed nodes roots extents → lent ≡ extents → list ≡ map node_of (filter (λ e. e.turns) lent) → (v : ℕ) → Contains list v ↔ (IsReached nodes roots v × Reaches nodes v v)
turning_lent nodes roots extents lent list h same is = turning_are nodes roots extents list h (is ∙ ap (λ (x : List Extent). map node_of (filter (λ e. e.turns) x)) same)

pub circle_within : (nodes : List Node) (roots list lent : List ℕ) → IsGraph nodes → All (λ r. r < length nodes) roots → ((v : ℕ) → Contains list v ↔ (IsReached nodes roots v × Reaches nodes v v)) → lent ≡ list → All (λ v. v < length nodes) lent
circle_within nodes roots list lent g h are same = all_within (length nodes) lent (λ v has. reached_within nodes roots g h v ((are v).0 (subst (λ (l : List ℕ). Contains l v) same has)).0)

pub surveyed_within : (nodes : List Node) (roots : List ℕ) (extents lent : List Extent) → IsGraph nodes → All (λ r. r < length nodes) roots → AreSurveyed nodes roots extents → lent ≡ extents → All (λ e. e.node < length nodes) lent
surveyed_within nodes roots extents lent g h s same = subst (λ (x : List Extent). All (λ e. e.node < length nodes) x) (sym same) (λ k d lt.
    reached_within nodes roots g h (get_or extents k d).node ((s.same (get_or extents k d).node).0 (contains_map node_of extents (get_or extents k d) (Contains-get_or extents k d lt))))

pub straight_from : (nodes : List Node) (roots list : List ℕ) → ((v : ℕ) → Contains list v ↔ (IsReached nodes roots v × Reaches nodes v v)) → length list ≡ 0 → (v : ℕ) → IsReached nodes roots v → Reaches nodes v v → ⊥
straight_from nodes roots list are none v reached way = let (k, lt, at) = (are v).1 (reached, way) in omega (arith, lt)
