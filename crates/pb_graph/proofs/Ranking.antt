-- Nodes in order.
use Rattle.std.proofs.Common.{◌≡◌, ◌⊎◌, inl, inr, ℕ, ◌<◌, ◌≤◌, ap, Bool, true, ◌&&◌, eqb, List, map, length, get_or, refl, sym, subst, ◌∙◌, arith, Contains, All}
use Rattle.std.specs.Ordering.{nat_cmp, ordering_then}
use Rattle.std.specs.declared.cmp.Ordering.{Ordering}
use Rattle.std.specs.declared.cmp.Ordering.TheVariants.{Less, Equal, Greater}
use Rattle.std.specs.Cmp.Lexicographic.{slice_cmp}
use Rattle.std.specs.List.Sorted.{IsStrictlySortedBy}
use Rattle.std.specs.FinMap.{slice_cmp-IsAntisymmetric, nat_cmp-IsAntisymmetric}
use Rattle.std.proofs.lemmas.Cmp.{ranked}
use Rattle.std.proofs.lemmas.List.{length-map}
use Rattle.std.proofs.lemmas.Bool.{and_parts}
use Rattle.std.proofs.lemmas.Bool.Decides.{Decides-eqb}
use Rattle.std.proofs.lemmas.List.Elements.{All-contains, Contains-get_or}
use Rattle.std.proofs.lemmas.Map.Keys.{Less-from_sorted}
use Rattle.pb_graph.specs.declared.graph.Node.{Node}
use Rattle.pb_graph.specs.declared.ranks.Rank.{Rank}
use Rattle.pb_graph.specs.Graph.{IsGraph}
use Rattle.pb_graph.specs.Working.{AreRanked, IsRank, RanksBefore, rank_node}
use Rattle.pb_graph.proofs.Elements.{contains_map, map_contains}

abbrev pub rank_cmp : Rank → Rank → Ordering
rank_cmp a b = ordering_then (nat_cmp a.level b.level) (ordering_then (slice_cmp nat_cmp a.key b.key) (nat_cmp a.node b.node))

then_less : (o p : Ordering) → ordering_then o p ≡ Less → (o ≡ Less) ⊎ ((o ≡ Equal) × (p ≡ Less))
then_less Less p h = inl refl
then_less Equal p h = inr (refl, h)
then_less Greater p h = absurd (let e : Greater ≡ Less = h in cc)

pub ranks_before : (nodes : List Node) (levels : List ℕ) → IsGraph nodes → (a b : Rank) → IsRank nodes levels a → IsRank nodes levels b → a.node < length nodes → b.node < length nodes → rank_cmp a b ≡ Less → RanksBefore a b
ranks_before nodes levels g a b ra rb ha hb less = record {
  order =
      elim (then_less _ _ less) [
        | inl level ↦ inl (ranked a.level b.level Less (sym level))
        | inr rest ↦ inr (
          ranked a.level b.level Equal (sym rest.0),
          elim (then_less _ _ rest.1) [
            | inl key ↦ key
            | inr last ↦ absurd (
                let keys : a.key ≡ b.key = slice_cmp-IsAntisymmetric nat_cmp-IsAntisymmetric a.key b.key last.0 in
                let same : a.node ≡ b.node = g.apart a.node b.node ha hb (sym ra.key ∙ keys ∙ rb.key) in
                let lt : a.node < b.node = ranked a.node b.node Less (sym last.1) in
                omega arith)
          ],
        )
      ];
}

pub ranked_all : (nodes : List Node) (list levels : List ℕ) (old new : List Rank) → IsGraph nodes → All (λ v. v < length nodes) list → map rank_node old ≡ list → All (IsRank nodes levels) old
    → IsStrictlySortedBy rank_cmp new
    → ((x : Rank) → Contains old x → (y : Rank) × Contains new y × (x.node ≡ y.node))
    → ((x : Rank) → Contains new x → Contains old x)
    → length new ≤ length old
    → AreRanked nodes list levels new
ranked_all nodes list levels old new g within is each rises keeps adds_none few =
    let kept : (k : ℕ) (d : Rank) → k < length new → IsRank nodes levels (get_or new k d) = λ k d lt. All-contains (IsRank nodes levels) old (get_or new k d) each (adds_none (get_or new k d) (Contains-get_or new k d lt)) in
    let from : (v : ℕ) → Contains (map rank_node new) v → Contains list v = λ v has.
    let (x, in', e) = map_contains rank_node new v has in
    subst (λ (l : List ℕ). Contains l v) is (subst (Contains (map rank_node old)) e (contains_map rank_node old x (adds_none x in'))) in
    let inside : (k : ℕ) (d : Rank) → k < length new → (get_or new k d).node < length nodes = λ k d lt.
    All-contains (λ v. v < length nodes) list (get_or new k d).node within (from (get_or new k d).node (contains_map rank_node new (get_or new k d) (Contains-get_or new k d lt))) in
    record {
      each = kept;
      same = λ v. (
        from v,
        λ has.
            let (x, in', e) = map_contains rank_node old v (subst (λ (l : List ℕ). Contains l v) (sym is) has) in
            let (y, there, f) = keeps x in' in
            subst (Contains (map rank_node new)) (sym f ∙ e) (contains_map rank_node new y there),
      );
      order = λ i j d lt in'. ranks_before nodes levels g (get_or new i d) (get_or new j d) (kept i d (omega arith)) (kept j d in') (inside i d (omega arith)) (inside j d in') (Less-from_sorted rank_cmp new i j d rises lt in');
      few = let e : length list ≡ length old = ap length (sym is) ∙ length-map old rank_node in omega arith;
    }

pub same_node : (b : Bool) (x y : ℕ) (t : Bool) → (t && (b && eqb x y)) ≡ true → x ≡ y
same_node b x y t h = (Decides-eqb x y).0 (and_parts b (eqb x y) (and_parts t (b && eqb x y) h).1).1
