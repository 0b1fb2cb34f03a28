-- Levels, computed in an order in which what is needed comes first.
use Rattle.std.proofs.Common.{◌≡◌, inl, inr, ℕ, zero, suc, ◌+◌, ◌<◌, ◌≤◌, List, map, set, length, get_or, slice_get, slice_index, Some, sym, ap, subst, ◌∙◌, arith, Contains}
use Rattle.std.proofs.lemmas.Bool.{cases_lt, cases_eq}
use Rattle.std.proofs.Math.ListN.{length-set}
use Rattle.std.proofs.lemmas.List.{get_or-set_same, get_or-set_other}
use Rattle.std.proofs.lemmas.List.Elements.{All-contains}
use Rattle.std.proofs.lemmas.Option.{get_or_from_slice_get, slice_get_within}
use Rattle.pb_graph.specs.declared.graph.Node.{Node}
use Rattle.pb_graph.specs.declared.levels.Extent.{Extent}
use Rattle.pb_graph.specs.Graph.{needs_at, Reaches, above}
use Rattle.pb_graph.specs.Working.{IsExtent, AreRising, AreLevels, node_of}
use Rattle.pb_graph.proofs.Elements.{contains_map, map_contains, contains_from_at, at_from_contains, map_same, above_le}
use Rattle.pb_graph.proofs.Extents.{less_below}

-- the level by chains of at most so many needs
abbrev pub level_below : (ℕ → List ℕ) → ℕ → ℕ → ℕ
level_below needs zero u = 0
level_below needs (suc n) u = above (map (level_below needs n) (needs u))

-- what is needed comes earlier
pub record Earlier (extents : List Extent) (k v : ℕ) : Type 0 where
  pub index : ℕ
  pub extent : Extent
  pub before : index < k
  pub at : slice_get extents index ≡ Some extent
  pub node : extent.node ≡ v

pub earlier : (nodes : List Node) (extents : List Extent) → AreRising nodes extents → (k : ℕ) (e : Extent) → slice_get extents k ≡ Some e → (v : ℕ) → Contains (needs_at nodes e.node) v → Earlier extents k v
earlier nodes extents h k e at v need =
    let here : Contains extents e = contains_from_at extents k e at in
    let listed = contains_map node_of extents e here in
    let there = h.closed e.node v listed need in
    let (b, has, is) = map_contains node_of extents v there in
    let (j, index) = at_from_contains extents b has in
    let ue = All-contains (IsExtent nodes) extents e h.each here in
    let ub = All-contains (IsExtent nodes) extents b h.each has in
    let straight : Reaches nodes b.node b.node → ⊥ = h.straight b.node (contains_map node_of extents b has) in
    let less : length ub.reached < length ue.reached = less_below nodes e.node b.node ue.reached ub.reached ue.are ub.are (subst (Contains (needs_at nodes e.node)) (sym is) need) straight in
    elim (cases_lt j k) [
      | inl lt ↦ record { index = j; extent = b; before = lt; at = index; node = is }
      | inr le ↦ absurd (
          let rises = h.rising k j b le (slice_get_within extents j b index) in
          let x : get_or extents k b ≡ e = get_or_from_slice_get extents k e b at in
          let y : get_or extents j b ≡ b = get_or_from_slice_get extents j b b index in
          let rises' : e.count ≤ b.count = subst (λ (z : Extent). e.count ≤ z.count) y (subst (λ (z : Extent). z.count ≤ (get_or extents j b).count) x rises) in
          omega (arith, rises', less, ue.count, ub.count))
    ]

-- longer chains change nothing
pub stable : (nodes : List Node) (extents : List Extent) → AreRising nodes extents → (n k : ℕ) (e : Extent) → slice_get extents k ≡ Some e → k < n → level_below (needs_at nodes) n e.node ≡ level_below (needs_at nodes) (suc n) e.node
stable nodes extents h zero k e at lt = absurd (omega arith)
stable nodes extents h (suc n) k e at lt = ap above (map_same _ _ (needs_at nodes e.node) (λ v need.
    let p = earlier nodes extents h k e at v need in
    subst (λ w. level_below (needs_at nodes) n w ≡ level_below (needs_at nodes) (suc n) w) p.node (stable nodes extents h n p.index p.extent p.at (let b = p.before in omega arith))))

-- the levels of the first so many are told
pub record Leveled (nodes : List Node) (extents : List Extent) (count : ℕ) (levels : List ℕ) : Type 0 where
  pub long : length levels ≡ length nodes
  pub low : (v : ℕ) → slice_index levels v ≤ count
  pub told : (k : ℕ) (e : Extent) → k < count → slice_get extents k ≡ Some e → slice_index levels e.node ≡ level_below (needs_at nodes) (length extents) e.node

-- the level by those told so far
pub next_level : (nodes : List Node) (extents : List Extent) → AreRising nodes extents → (count k : ℕ) (levels : List ℕ) → Leveled nodes extents count levels → k ≤ count → (e : Extent) → slice_get extents k ≡ Some e → above (map (slice_index levels) (needs_at nodes e.node)) ≡ level_below (needs_at nodes) (length extents) e.node
next_level nodes extents h count k levels so upto e at =
    let same : map (slice_index levels) (needs_at nodes e.node) ≡ map (level_below (needs_at nodes) (length extents)) (needs_at nodes e.node) =
    map_same _ _ _ (λ v need.
    let p = earlier nodes extents h k e at v need in
    subst (λ w. slice_index levels w ≡ level_below (needs_at nodes) (length extents) w) p.node (so.told p.index p.extent (let b = p.before in omega arith) p.at)) in
    ap above same ∙ sym (stable nodes extents h (length extents) k e at (slice_get_within extents k e at))

some_same : {A : Type 0} (x y : A) → Some x ≡ Some y → x ≡ y
some_same x y e = cc

pub leveled_more : (nodes : List Node) (extents : List Extent) → AreRising nodes extents → (i : ℕ) (levels : List ℕ) → Leveled nodes extents i levels → (e : Extent) → slice_get extents i ≡ Some e → e.node < length levels → (level : ℕ) → level ≡ above (map (slice_index levels) (needs_at nodes e.node)) → Leveled nodes extents (i + 1) (set levels e.node level)
leveled_more nodes extents h i levels so e at inside level is =
    let target = next_level nodes extents h i i levels so (omega arith) e at in
    let small : level ≤ i + 1 = let le = above_le (map (slice_index levels) (needs_at nodes e.node)) (i + 1) (λ n has. let (v, _, f) = map_contains (slice_index levels) (needs_at nodes e.node) n has in let low = so.low v in omega arith) in omega arith in
    record {
      long = length-set levels e.node level ∙ so.long;
      low = λ v. elim (cases_eq v e.node) [
        | inl same ↦ let g = get_or-set_same levels e.node level 0 inside in let g' : slice_index (set levels e.node level) v ≡ level = ap (slice_index (set levels e.node level)) same ∙ g in omega (arith, g', small)
        | inr other ↦ let g = get_or-set_other levels e.node v level 0 other in let low = so.low v in omega (arith, g, low)
      ];
      told = λ k f lt index. elim (cases_eq f.node e.node) [
        | inl same ↦ ap (slice_index (set levels e.node level)) same ∙ get_or-set_same levels e.node level 0 inside ∙ is ∙ target ∙ ap (level_below (needs_at nodes) (length extents)) (sym same)
        | inr other ↦ get_or-set_other levels e.node f.node level 0 other ∙ elim (cases_eq k i) [
          | inl last ↦ absurd (other (ap node_of (some_same f e (sym index ∙ ap (slice_get extents) last ∙ at))))
          | inr before ↦ so.told k f (omega arith) index
        ]
      ];
    }

-- all are told
pub leveled_all : (nodes : List Node) (extents : List Extent) → AreRising nodes extents → (count : ℕ) (levels : List ℕ) → Leveled nodes extents count levels → length extents ≤ count → AreLevels nodes (map node_of extents) levels
leveled_all nodes extents h count levels so all = record {
  long = so.long;
  each = λ v listed.
      let (e, has, is) = map_contains node_of extents v listed in
      let (k, at) = at_from_contains extents e has in
      let inside = slice_get_within extents k e at in
      subst (λ w. slice_index levels w ≡ above (map (slice_index levels) (needs_at nodes w))) is
      (so.told k e (omega arith) at ∙ sym (next_level nodes extents h count k levels so (omega arith) e at));
}

pub level_is : (nodes : List Node) (u : ℕ) (levels levels' needs : List ℕ) (level : ℕ) → levels' ≡ levels → needs ≡ needs_at nodes u → level ≡ above (map (slice_index levels') needs) → level ≡ above (map (slice_index levels) (needs_at nodes u))
level_is nodes u levels levels' needs level e f is = is ∙ ap (λ (x : List ℕ). above (map (slice_index x) needs)) e ∙ ap (λ (x : List ℕ). above (map (slice_index levels) x)) f
