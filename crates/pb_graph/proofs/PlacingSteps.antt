-- Places in the plan.
use Rattle.std.proofs.Common.{◌≡◌, ◌≢◌, inl, inr, ℕ, ◌+◌, ◌<◌, true, eqb, List, map, set, length, get_or, slice_get, slice_index, Some, sym, ap, subst, ◌∙◌, arith, Contains, All, AllPairs, Any}
use Rattle.std.specs.Ordering.{nat_cmp}
use Rattle.std.specs.List.Sorted.{IsStrictlySortedBy, IsStrictlyIncreasing}
use Rattle.std.proofs.lemmas.Bool.{cases_eq}
use Rattle.std.proofs.lemmas.Bool.Decides.{Decides-eqb}
use Rattle.std.proofs.Math.ListN.{length-set}
use Rattle.std.proofs.lemmas.List.{get_or-set_same, get_or-set_other}
use Rattle.std.proofs.lemmas.Option.{get_or_from_slice_get, slice_get_within}
use Rattle.std.proofs.lemmas.Map.Keys.{IsStrictlyIncreasing-from_sorted}
use Rattle.pb_graph.specs.declared.graph.Node.{Node}
use Rattle.pb_graph.specs.declared.ranks.Rank.{Rank}
use Rattle.pb_graph.specs.Working.{AreReached, rank_node, IndicesTell, AreIndicesBy}
use Rattle.pb_graph.proofs.Reaching.{found_within}

some_same : {A : Type 0} (x y : A) → Some x ≡ Some y → x ≡ y
some_same x y e = cc

pub indices_more : (nodes : List Node) (ranks : List Rank) (i : ℕ) (indices : List ℕ) → IndicesTell nodes ranks i indices → AllPairs (λ a b. a.node ≢ b.node) ranks → (r : Rank) → slice_get ranks i ≡ Some r → r.node < length indices → IndicesTell nodes ranks (i + 1) (set indices r.node i)
indices_more nodes ranks i indices h apart r at inside = record {
  long = length-set indices r.node i ∙ h.long;
  tell = λ k q lt index. elim (cases_eq k i) [
    | inl last ↦
        let same : q ≡ r = some_same q r (sym index ∙ ap (slice_get ranks) last ∙ at) in
        ap (λ s. slice_index (set indices r.node i) s.node) same ∙ get_or-set_same indices r.node i 0 inside ∙ sym last
    | inr other ↦
        let before : k < i = omega arith in
        let x : get_or ranks k r ≡ q = get_or_from_slice_get ranks k q r index in
        let y : get_or ranks i r ≡ r = get_or_from_slice_get ranks i r r at in
        let ne : q.node ≢ r.node = λ e. apart k i r before (slice_get_within ranks i r at) (ap rank_node x ∙ e ∙ sym (ap rank_node y)) in
        get_or-set_other indices r.node q.node i 0 ne ∙ h.tell k q before index
  ];
}

pub placed_all : (indices list old new found : List ℕ) → old ≡ map (slice_index indices) list → IsStrictlySortedBy nat_cmp new → ((x : ℕ) → Contains old x → Any (λ y. eqb x y ≡ true) new) → ((x : ℕ) → Contains new x → Contains old x) → found ≡ new → AreIndicesBy indices list found
placed_all indices list old new found is rises keeps adds_none same = record {
  rises = subst IsStrictlyIncreasing (sym same) (IsStrictlyIncreasing-from_sorted new rises);
  same = λ index. (
    λ has. subst (λ (l : List ℕ). Contains l index) is (adds_none index (subst (λ (l : List ℕ). Contains l index) same has)),
    λ has. let (k, y, lt, at, e) = keeps index (subst (λ (l : List ℕ). Contains l index) (sym is) has) in
        subst (Contains found) (sym ((Decides-eqb index y).0 e)) (subst (λ (l : List ℕ). Contains l y) (sym same) (k, lt, at)),
  );
}

-- what is reached is a node
pub reached_nodes : (nodes : List Node) (roots found list : List ℕ) (n : ℕ) → AreReached nodes roots found → list ≡ found → n ≡ length nodes → All (λ v. v < n) list
reached_nodes nodes roots found list n (marks, h) same long k d lt =
    let lt' : k < length found = subst (λ (l : List ℕ). k < length l) same lt in
    let below = found_within nodes roots found marks h k d lt' in
    let e : get_or list k d ≡ get_or found k d = ap (λ (l : List ℕ). get_or l k d) same in
    omega (arith, below, h.long, e)
