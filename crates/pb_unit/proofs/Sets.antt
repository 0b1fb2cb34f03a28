-- Lists with the same elements, marks of what is listed.
use Rattle.std.proofs.Common.{◌≡◌, ◌↔◌, ℕ, Bool, true, List, [], Contains, Any, sym, subst}
use Rattle.pb_graph.specs.Closure.{Least, seed, joined, IsLeast}
use Rattle.pb_graph.specs.Table.{joined_by}
use Rattle.pb_graph.proofs.Membership.{none}

-- without rules the least set is the seeds
pub least_seeds : (seeds : List ℕ) (says : ℕ → Bool) → IsLeast (Least (Contains seeds) (joined_by [])) says → (p : ℕ) → (says p ≡ true) ↔ Contains seeds p
least_seeds seeds says is p = (λ on. back p ((is p).0 on), λ has. (is p).1 (seed p has))
  where
    back : (x : ℕ) → Least (Contains seeds) (joined_by []) x → Contains seeds x
    back _ (seed x has) = has
    back _ (joined x y z first second joins) = absurd (none _ joins)

-- what a sort that drops equals leaves, where equality decides
pub same_kept : {X : Type 0} (eq : X → X → Bool) → ((x y : X) → eq x y ≡ true → x ≡ y) → (old new : List X)
    → ((x : X) → Contains old x → Any (λ y. eq x y ≡ true) new) → ((x : X) → Contains new x → Contains old x) → (x : X) → Contains new x ↔ Contains old x
same_kept eq same old new keeps adds_none x = (
  adds_none x,
  λ has. let (k, y, lt, at, e) = keeps x has in subst (Contains new) (sym (same x y e)) (k, lt, at),
)
