-- What is found with a list of what is still to be looked at is the least set, once the list is empty.
use Rattle.std.proofs.Common.{◌≡◌, ◌⊎◌, inl, inr, Bool, IsTrue, sym, subst}
use Rattle.std.specs.Prelude.{List, Contains}
use Rattle.pb_graph.specs.Closure.{Least, seed, joined, IsYielded, IsLeast}

-- nothing is found that does not belong there; and what is found and not waiting has given what it gives
pub record Sofar {X : Type 0} (Seed : X → Type 0) (Joins : X → X → X → Type 0) (found : X → Bool) (Waits : X → Type 0) : Type 0 where
  pub sound : (x : X) → IsTrue (found x) → Least Seed Joins x
  pub seeds : (x : X) → Seed x → IsTrue (found x)
  pub closed : (x y z : X) → IsTrue (found x) → IsTrue (found y) → Joins x y z → IsTrue (found z) ⊎ (Waits x ⊎ Waits y)

-- what is found grows by what is given, and what is new waits
pub record Grows {X : Type 0} (found now : X → Bool) (given : List X) (Waits : X → Type 0) : Type 0 where
  pub kept : (z : X) → IsTrue (found z) → IsTrue (now z)
  pub only : (z : X) → IsTrue (now z) → IsTrue (found z) ⊎ Contains given z
  pub each : (z : X) → Contains given z → IsTrue (now z)
  pub fresh : (z : X) → IsTrue (now z) → IsTrue (found z) ⊎ Waits z

module _ {X : Type 0} (Seed : X → Type 0) (Joins : X → X → X → Type 0) where
  -- one thing that waits is looked at
  pub one_more : (found now : X → Bool) (Waits Waits' : X → Type 0) (thing : X) (given : List X)
      → Sofar Seed Joins found Waits → IsTrue (found thing)
      → ((z : X) → Waits z → Waits' z ⊎ (thing ≡ z))
      → IsYielded Joins found thing given → Grows found now given Waits' → Sofar Seed Joins now Waits'
  one_more found now Waits Waits' thing given so is_found rest is_given grows = record {
    sound = λ x on. elim (grows.only x on) [
      | inl before ↦ so.sound x before
      | inr is ↦ (let h = is_given.sound x is in joined h.0 h.1 x (so.sound h.0 h.2) (so.sound h.1 h.3) h.4)
    ];
    seeds = λ x is. grows.kept x (so.seeds x is);
    closed = λ x y z on_x on_y joins. elim (grows.fresh x on_x) [
      | inr waits ↦ inr (inl waits)
      | inl old_x ↦ (elim (grows.fresh y on_y) [
        | inr waits ↦ inr (inr waits)
        | inl old_y ↦ both x y z old_x old_y joins
      ])
    ];
  }
    where
      both : (x y z : X) → IsTrue (found x) → IsTrue (found y) → Joins x y z → IsTrue (now z) ⊎ (Waits' x ⊎ Waits' y)
      both x y z old_x old_y joins = elim (so.closed x y z old_x old_y joins) [
        | inl old ↦ inl (grows.kept z old)
        | inr (inl waits) ↦ (elim (rest x waits) [
          | inl still ↦ inr (inl still)
          | inr same ↦ inl (grows.each z (is_given.whole y z old_y (inl (subst (λ w. Joins w y z) (sym same) joins))))
        ])
        | inr (inr waits) ↦ (elim (rest y waits) [
          | inl still ↦ inr (inr still)
          | inr same ↦ inl (grows.each z (is_given.whole x z old_x (inr (subst (λ w. Joins x w z) (sym same) joins))))
        ])
      ]

  -- nothing waits
  pub at_end : (found : X → Bool) (Waits : X → Type 0) → ((z : X) → Waits z → ⊥) → Sofar Seed Joins found Waits → IsLeast (Least Seed Joins) found
  at_end found Waits none so x = (so.sound x, whole x)
    where
      whole : (x : X) → Least Seed Joins x → IsTrue (found x)
      whole _ (seed x is) = so.seeds x is
      whole _ (joined x y z first second joins) = elim (so.closed x y z (whole x first) (whole y second) joins) [
        | inl on ↦ on
        | inr (inl waits) ↦ absurd (none x waits)
        | inr (inr waits) ↦ absurd (none y waits)
      ]
