-- Texts set in turn, of things by their indices.
use Rattle.std.proofs.Common.{◌≡◌, ◌+◌, ◌<◌, List, ℕ, ◌∷◌, sym, ap, ◌∙◌, length, get_or, drop, add-one}
use Rattle.std.proofs.Math.Seq.{drop-cons}
use Rattle.pb_graph.specs.Placed.{placed}
use Rattle.pb_place_types.specs.World.{Map}
use Rattle.pb_command_types.specs.NamedTexts.{all_set}
use Rattle.pb_command_types.proofs.NamedTexts.{all_set-append}

here : {A : Type 0} (xs : List A) (i : ℕ) (x : A) → i < length xs → x ≡ get_or xs i x → drop i xs ≡ x ∷ drop (i + 1) xs
here xs i x h is = drop-cons xs i x h ∙ ap (λ n. get_or xs i x ∷ drop n xs) (sym (add-one i)) ∙ ap (λ y. y ∷ drop (i + 1) xs) (sym is)

-- one thing of a list set, by its index, and then the rest
pub set_placed : {A : Type 0} (f : ℕ → A → List (List ℕ × List ℕ)) (xs : List A) (i : ℕ) (x : A) (m : Map) → i < length xs → x ≡ get_or xs i x
    → all_set m (placed f i (drop i xs)) ≡ all_set (all_set m (f i x)) (placed f (i + 1) (drop (i + 1) xs))
set_placed f xs i x m h is = ap (λ ys. all_set m (placed f i ys)) (here xs i x h is) ∙ all_set-append m (f i x) _
