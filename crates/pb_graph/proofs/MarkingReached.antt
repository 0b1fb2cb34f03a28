-- Marking the nodes of a list.
use Rattle.std.proofs.Common.{◌≡◌, ◌⊎◌, inl, inr, ℕ, zero, suc, ◌+◌, ◌<◌, Bool, true, false, List, [], ◌∷◌, ◌++◌, length, get_or, replicate, refl, sym, subst, ◌∙◌, arith, below_more, length-append, Contains}
use Rattle.std.proofs.Math.ListN.{set, length-set}
use Rattle.std.proofs.lemmas.Grind.{common_steps}
use Rattle.std.proofs.lemmas.List.{get_or-set_same, get_or-set_other, get_or_default}
use Rattle.std.proofs.lemmas.List.Elements.{Contains-append_left, Contains-push, Contains-push_cases, Contains-get_or}
use Rattle.std.proofs.lemmas.Bool.{cases_eq, false≢true}
use Rattle.pb_graph.specs.Working.{IsMarked, unmarked, Marked}

-- a mark more
pub one_less : (marks : List Bool) (x : ℕ) → x < length marks → get_or marks x false ≡ false → unmarked (set marks x true) + 1 ≡ unmarked marks
one_less [] x h e = absurd (omega arith)
one_less (true ∷ marks) zero h e = cc
one_less (false ∷ marks) zero h e = grind (arith, common_steps)
one_less (true ∷ marks) (suc x) h e = one_less marks x (omega arith) e
one_less (false ∷ marks) (suc x) h e = let p = one_less marks x (omega arith) e in grind (arith, common_steps)

pub marked_set : (marks : List Bool) (x v : ℕ) → x < length marks → IsMarked (set marks x true) v → IsMarked marks v ⊎ (v ≡ x)
marked_set marks x v h m = elim (cases_eq v x) [ inl e ↦ inr e | inr ne ↦ inl (sym (get_or-set_other marks x v true false ne) ∙ m) ]

pub marked_at : (marks : List Bool) (x : ℕ) → x < length marks → IsMarked (set marks x true) x
marked_at marks x h = get_or-set_same marks x true false h

pub marked_kept : (marks : List Bool) (x v : ℕ) → x < length marks → IsMarked marks v → IsMarked (set marks x true) v
marked_kept marks x v h m = elim (cases_eq v x) [ inl e ↦ subst (IsMarked (set marks x true)) (sym e) (marked_at marks x h) | inr ne ↦ get_or-set_other marks x v true false ne ∙ m ]

pub marked_none : (list : List ℕ) (marks : List Bool) (waiting : List ℕ) → Marked list 0 marks waiting marks waiting
marked_none list marks waiting = record {
  long = refl;
  each = λ k h. absurd (omega arith);
  only = λ v m. inl m;
  kept = λ v m. m;
  waiting_only = λ v w. inl w;
  waiting_kept = λ v w. w;
  new_waits = λ v m. inl m;
  work = refl;
}

-- the next is marked already
pub marked_old : (list : List ℕ) (i x : ℕ) (m0 : List Bool) (w0 : List ℕ) (m : List Bool) (w : List ℕ) → Marked list i m0 w0 m w → x ≡ get_or list i 0 → IsMarked m x → Marked list (i + 1) m0 w0 m w
marked_old list i x m0 w0 m w h at is = record {
  long = h.long;
  each = below_more _ _ h.each (subst (IsMarked m) at is);
  only = h.only;
  kept = h.kept;
  waiting_only = h.waiting_only;
  waiting_kept = h.waiting_kept;
  new_waits = h.new_waits;
  work = h.work;
}

-- the next is marked now, and waits
pub marked_new : (list : List ℕ) (i x : ℕ) (m0 : List Bool) (w0 : List ℕ) (m : List Bool) (w : List ℕ) → Marked list i m0 w0 m w → x ≡ get_or list i 0 → i < length list → x < length m → get_or m x false ≡ false → Marked list (i + 1) m0 w0 (set m x true) (w ++ x ∷ [])
marked_new list i x m0 w0 m w h at inside below open' =
    let here : Contains list x = subst (Contains list) (sym at) (Contains-get_or list i 0 inside) in
    record {
      long = length-set m x true ∙ h.long;
      each = below_more _ _ (λ k lt. marked_kept m x _ below (h.each k lt)) (subst (IsMarked (set m x true)) at (marked_at m x below));
      only = λ v is. elim (marked_set m x v below is) [ inl was ↦ h.only v was | inr e ↦ inr (subst (Contains list) (sym e) here) ];
      kept = λ v is. marked_kept m x v below (h.kept v is);
      waiting_only = λ v is. elim (Contains-push_cases w x v is) [
        | inl was ↦ elim (h.waiting_only v was) [ inl old ↦ inl old | inr mark ↦ inr (marked_kept m x v below mark) ]
        | inr e ↦ inr (subst (IsMarked (set m x true)) e (marked_at m x below))
      ];
      waiting_kept = λ v is. Contains-append_left w (x ∷ []) v (h.waiting_kept v is);
      new_waits = λ v is. elim (marked_set m x v below is) [
        | inl was ↦ elim (h.new_waits v was) [ inl old ↦ inl old | inr waits ↦ inr (Contains-append_left w (x ∷ []) v waits) ]
        | inr e ↦ inr (subst (Contains (w ++ x ∷ [])) (sym e) (Contains-push w x))
      ];
      work = let p = one_less m x below open' in omega (arith, h.work, length-append w (x ∷ []));
    }

pub marked_as : (list : List ℕ) (i : ℕ) (m0 : List Bool) (w0 : List ℕ) (m m' : List Bool) (w w' : List ℕ) → Marked list i m0 w0 m w → m' ≡ m → w' ≡ w → Marked list i m0 w0 m' w'
marked_as list i m0 w0 m m' w w' h e f = subst (λ (y : List ℕ). Marked list i m0 w0 m' y) (sym f) (subst (λ (x : List Bool). Marked list i m0 w0 x w) (sym e) h)

-- a mark that was read
pub read_mark : (marks : List Bool) (x : ℕ) (b t : Bool) → x < length marks → b ≡ get_or marks x b → b ≡ t → get_or marks x false ≡ t
read_mark marks x b t h e is = get_or_default marks x false b h ∙ sym e ∙ is

pub no_marks : (n v : ℕ) → IsMarked (replicate n false) v → ⊥
no_marks zero v is = false≢true is
no_marks (suc n) zero is = false≢true is
no_marks (suc n) (suc v) is = no_marks n v is
