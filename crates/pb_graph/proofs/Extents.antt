-- What one need lead to, and what is reached there is less.
use Rattle.std.proofs.Common.{◌≡◌, inl, inr, ◌↔◌, ℕ, zero, suc, ◌<◌, ◌≤◌, Bool, true, false, List, [], ◌∷◌, length, get_or, refl, sym, subst, ◌∙◌, arith, Contains, All, Decides}
use Rattle.std.proofs.lemmas.Grind.{common_steps}
use Rattle.std.proofs.lemmas.Bool.{false≢true}
use Rattle.std.proofs.lemmas.List.Elements.{Contains-get_or}
use Rattle.pb_graph.specs.declared.graph.Node.{Node}
use Rattle.pb_graph.specs.Graph.{IsGraph, needs_at, Reaches, direct, onward, IsReached}
use Rattle.pb_graph.specs.Working.{IsMarked, unmarked, AreReached, IsExtent}

pub by_needs : (nodes : List Node) (u v : ℕ) → IsReached nodes (needs_at nodes u) v → Reaches nodes u v
by_needs nodes u v (inl need) = direct u v need
by_needs nodes u v (inr (r, need, way)) = onward u r v need way

pub to_needs : (nodes : List Node) (u v : ℕ) → Reaches nodes u v → IsReached nodes (needs_at nodes u) v
to_needs nodes u v (direct _ _ need) = inl need
to_needs nodes u v (onward _ x _ need more) = inr (x, need, more)

-- what its needs reach is what it reaches
pub reaches_row : (nodes : List Node) (u : ℕ) (row : List ℕ) → AreReached nodes (needs_at nodes u) row → (v : ℕ) → Contains row v ↔ Reaches nodes u v
reaches_row nodes u row (marks, h) v = (
  λ is. by_needs nodes u v ((h.exact v).0 ((h.same v).0 is)),
  λ way. (h.same v).1 ((h.exact v).1 (to_needs nodes u v way)),
)

pub fewer_or_same : (a b : List Bool) → length a ≡ length b → ((w : ℕ) → IsMarked b w → IsMarked a w) → unmarked a ≤ unmarked b
fewer_or_same [] [] long sub = omega arith
fewer_or_same [] (y ∷ b) long sub = absurd (omega arith)
fewer_or_same (x ∷ a) [] long sub = absurd (omega arith)
fewer_or_same (true ∷ a) (true ∷ b) long sub = fewer_or_same a b (omega arith) (λ w is. sub (suc w) is)
fewer_or_same (true ∷ a) (false ∷ b) long sub = let h = fewer_or_same a b (omega arith) (λ w is. sub (suc w) is) in grind (arith, common_steps)
fewer_or_same (false ∷ a) (true ∷ b) long sub = absurd (false≢true (sub 0 refl))
fewer_or_same (false ∷ a) (false ∷ b) long sub = let h = fewer_or_same a b (omega arith) (λ w is. sub (suc w) is) in grind (arith, common_steps)

pub fewer : (a b : List Bool) (v : ℕ) → length a ≡ length b → ((w : ℕ) → IsMarked b w → IsMarked a w) → IsMarked a v → (IsMarked b v → ⊥) → unmarked a < unmarked b
fewer [] b v long sub here gone = absurd (false≢true here)
fewer (x ∷ a) [] v long sub here gone = absurd (omega arith)
fewer (true ∷ a) (true ∷ b) zero long sub here gone = absurd (gone refl)
fewer (true ∷ a) (false ∷ b) zero long sub here gone = let h = fewer_or_same a b (omega arith) (λ w is. sub (suc w) is) in grind (arith, common_steps)
fewer (false ∷ a) (y ∷ b) zero long sub here gone = absurd (false≢true here)
fewer (true ∷ a) (true ∷ b) (suc v) long sub here gone = fewer a b v (omega arith) (λ w is. sub (suc w) is) here gone
fewer (true ∷ a) (false ∷ b) (suc v) long sub here gone = let h = fewer a b v (omega arith) (λ w is. sub (suc w) is) here gone in grind (arith, common_steps)
fewer (false ∷ a) (true ∷ b) (suc v) long sub here gone = absurd (false≢true (sub 0 refl))
fewer (false ∷ a) (false ∷ b) (suc v) long sub here gone = let h = fewer a b v (omega arith) (λ w is. sub (suc w) is) here gone in grind (arith, common_steps)

-- what does not reach itself reaches less than what needs it
pub less_below : (nodes : List Node) (u v : ℕ) (row below : List ℕ) → AreReached nodes (needs_at nodes u) row → AreReached nodes (needs_at nodes v) below → Contains (needs_at nodes u) v → (Reaches nodes v v → ⊥) → length below < length row
less_below nodes u v row below (a, h) (b, k) need straight =
    let sub : (w : ℕ) → IsMarked b w → IsMarked a w = λ w is. (h.exact w).1 (to_needs nodes u w (onward u v w need (by_needs nodes v w ((k.exact w).0 is)))) in
    let here : IsMarked a v = (h.exact v).1 (inl need) in
    let gone : IsMarked b v → ⊥ = λ is. straight (by_needs nodes v v ((k.exact v).0 is)) in
    let less = fewer a b v (h.long ∙ sym k.long) sub here gone in
    omega (arith, h.count, k.count, less)

pub needs_nodes : (nodes : List Node) (u : ℕ) (list : List ℕ) → IsGraph nodes → list ≡ needs_at nodes u → All (λ v. v < length nodes) list
needs_nodes nodes u list g is k d h = g.within u (get_or list k d) (subst (λ (x : List ℕ). Contains x (get_or list k d)) is (Contains-get_or list k d h))

pub extent_from : (nodes : List Node) (u count : ℕ) (turns : Bool) (needs found row : List ℕ) → needs ≡ needs_at nodes u → AreReached nodes needs found → row ≡ found → count ≡ length found → Decides turns (Contains row u) → IsExtent nodes (record { node = u; count = count; turns = turns })
extent_from nodes u count turns needs found row is are same long decides =
    let here : AreReached nodes (needs_at nodes u) found = subst (λ (x : List ℕ). AreReached nodes x found) is are in
    let exact = reaches_row nodes u found here u in
    record {
      reached = found;
      are = here;
      count = long;
      turns = (
        λ t. exact.0 (subst (λ (x : List ℕ). Contains x u) same (decides.0 t)),
        λ way. decides.1 (subst (λ (x : List ℕ). Contains x u) (sym same) (exact.1 way)),
      );
    }
