-- Things that are looked at one after another, each once, until none is left.
use Rattle.std.proofs.Common.{◌≡◌, inl, inr, ℕ, ◌+◌, ◌<◌, Bool, true, false, List, [], ◌∷◌, All, Contains, IsTrue, length, replicate, sym, ◌∙◌, ap, subst, arith}
use Rattle.std.proofs.lemmas.List.{length-replicate}
use Rattle.pb_graph.specs.Closure.{Least, seed, is_on, with_marks, IsYielded, IsLeast}
use Rattle.pb_graph.proofs.Closing.{Sofar, Grows, one_more, at_end}
use Rattle.pb_graph.proofs.Marking.{Marked, marked_all, unmarked, none_on}
use Rattle.pb_graph.proofs.Membership.{none, head, tail, cases}

-- what is marked, and what is still to be looked at, of which all is marked
pub record Looking (n : ℕ) (Seed : ℕ → Type 0) (Joins : ℕ → ℕ → ℕ → Type 0) (s : List Bool × List ℕ) : Type 0 where
  pub long : length s.0 ≡ n
  pub found : (z : ℕ) → Contains s.1 z → IsTrue (is_on s.0 z)
  pub so : Sofar Seed Joins (is_on s.0) (Contains s.1)

-- at first
pub begun : (n : ℕ) (Joins : ℕ → ℕ → ℕ → Type 0) (marks : List Bool) (seeds : List ℕ) (t : List Bool × List ℕ)
    → marks ≡ replicate n false → All (λ z. z < n) seeds → t ≡ with_marks (marks, []) seeds → Looking n (Contains seeds) Joins t
begun n Joins marks seeds t clear in_range is =
    let long : length marks ≡ n = ap length clear ∙ length-replicate n false in
    let m : Marked (marks, []) t seeds = subst (λ w. Marked (marks, []) w seeds) (sym is) (marked_all (marks, []) seeds (subst (λ l. All (λ z. z < l) seeds) (sym long) in_range)) in
    let off : (z : ℕ) → IsTrue (is_on marks z) → ⊥ = λ z on. none_on n z (subst (λ w. is_on w z ≡ true) clear on) in
    record {
      long = m.long ∙ long;
      found = λ z is. elim (m.listed z is) [ inl was ↦ absurd (none z was) | inr on ↦ on ];
      so = record {
        sound = λ x on. elim (m.only x on) [ inl was ↦ absurd (off x was) | inr is ↦ seed x is ];
        seeds = m.each;
        closed = λ x y z on_x on_y joins. elim (m.fresh x on_x) [ inl was ↦ absurd (off x was) | inr waits ↦ inr (inl waits) ];
      };
    }

-- at each turn, with the measure
pub turned : (n : ℕ) (Seed : ℕ → Type 0) (Joins : ℕ → ℕ → ℕ → Type 0) (marks : List Bool) (todo rest : List ℕ) (thing : ℕ) (known : List Bool) (given passed : List ℕ) (t : List Bool × List ℕ)
    → Looking n Seed Joins (marks, todo) → todo ≡ thing ∷ rest → known ≡ marks → IsYielded Joins (is_on known) thing given → All (λ z. z < n) given
    → passed ≡ given → t ≡ with_marks (marks, rest) passed → Looking n Seed Joins t × (unmarked t.0 + length t.1 < unmarked marks + length todo)
turned n Seed Joins marks todo rest thing known given passed t looking last same_marks known_given in_range same_given is_passed =
    let is_given : IsYielded Joins (is_on marks) thing given = subst (λ w. IsYielded Joins (is_on w) thing given) same_marks known_given in
    let is : t ≡ with_marks (marks, rest) given = is_passed ∙ ap (with_marks (marks, rest)) same_given in
    let back : Looking n Seed Joins (marks, thing ∷ rest) = subst (λ w. Looking n Seed Joins (marks, w)) last looking in
    let m : Marked (marks, rest) t given = subst (λ w. Marked (marks, rest) w given) (sym is) (marked_all (marks, rest) given (subst (λ m. All (λ z. z < m) given) (sym back.long) in_range)) in
    let grows : Grows (is_on marks) (is_on t.0) given (Contains t.1) = record { kept = m.kept; only = m.only; each = m.each; fresh = m.fresh } in (
      record {
        long = m.long ∙ back.long;
        found = λ z is. elim (m.listed z is) [ inl was ↦ m.kept z (back.found z (tail thing rest z was)) | inr on ↦ on ];
        so = one_more Seed Joins (is_on marks) (is_on t.0) (Contains (thing ∷ rest)) (Contains t.1) thing given back.so (back.found thing (head thing rest))
            (λ z waits. elim (cases thing rest z waits) [ inl same ↦ inr same | inr still ↦ inl (m.more z still) ])
            is_given grows;
      },
      omega (arith, m.count, ap length last),
    )

-- what is taken is marked
pub taken : (n : ℕ) (Seed : ℕ → Type 0) (Joins : ℕ → ℕ → ℕ → Type 0) (marks known : List Bool) (todo rest : List ℕ) (thing : ℕ)
    → Looking n Seed Joins (marks, todo) → known ≡ marks → todo ≡ thing ∷ rest → IsTrue (is_on known thing)
taken n Seed Joins marks known todo rest thing looking same last =
    ap (λ w. is_on w thing) same ∙ looking.found thing (subst (λ w. Contains w thing) (sym last) (head thing rest))

-- at the end
pub ended : (n : ℕ) (Seed : ℕ → Type 0) (Joins : ℕ → ℕ → ℕ → Type 0) (marks : List Bool) (todo : List ℕ) → Looking n Seed Joins (marks, todo) → length todo ≡ 0 → IsLeast (Least Seed Joins) (is_on marks)
ended n Seed Joins marks todo looking empty = at_end Seed Joins (is_on marks) (Contains todo) (λ z waits. (let lt : waits.0 < length todo = waits.1 in omega arith)) looking.so
