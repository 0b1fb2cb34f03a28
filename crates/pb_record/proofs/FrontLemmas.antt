-- Lemmas on what a text begins with.
use Rattle.std.proofs.Common.{◌≡◌, ℕ, true, false, List, ◌++◌, length, refl, sym, ◌∙◌, ap, take, drop}
use Rattle.std.specs.Str.{bytes_eq}
use Rattle.std.proofs.lemmas.List.{take-append-drop, take_at}
use Rattle.std.proofs.lemmas.Slice.Eq.{bytes_eq-Decides}

pub begins : (front text rest : List ℕ) → bytes_eq (take (length front) text) front ≡ true → rest ≡ drop (length front) text → text ≡ front ++ rest
begins front text rest same e =
    sym (take-append-drop (length front) text) ∙ ap (λ t. t ++ drop (length front) text) ((bytes_eq-Decides (take (length front) text) front).0 same) ∙ ap (λ t. front ++ t) (sym e)

pub begins_not : (front text : List ℕ) → bytes_eq (take (length front) text) front ≡ false → (rest : List ℕ) → text ≡ front ++ rest → ⊥
begins_not front text other rest e =
    let same = (bytes_eq-Decides (take (length front) text) front).1 (ap (take (length front)) e ∙ take_at front rest (length front) refl) in cc

pub ruleset front_laws = (begins, begins_not)
