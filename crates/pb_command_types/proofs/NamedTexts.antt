-- Texts set in turn: some, and then others.
use Rattle.std.proofs.Common.{◌≡◌, ◌++◌, ◌+◌, ◌<◌, List, ℕ, [], ◌∷◌, refl, sym, ap, ◌∙◌, length, get_or, drop, add-one}
use Rattle.std.proofs.Math.Seq.{drop-cons}
use Rattle.std.specs.FinMap as finite
use Rattle.std.specs.List.{flat_map}
use Rattle.pb_place_types.specs.World.{Map}
use Rattle.pb_command_types.specs.NamedTexts.{all_set}

pub all_set-append : (m : Map) (first then : List (List ℕ × List ℕ)) → all_set m (first ++ then) ≡ all_set (all_set m first) then
all_set-append m [] then = refl
all_set-append m (pair ∷ first) then = all_set-append (finite.insert m pair.0 pair.1) first then

pub ruleset set_laws = (all_set-append)

-- one thing of a list set, and then the rest
pub set_flat : {A : Type 0} (f : A → List (List ℕ × List ℕ)) (xs : List A) (i : ℕ) (d : A) (m : Map) → i < length xs
    → all_set m (flat_map f (drop i xs)) ≡ all_set (all_set m (f (get_or xs i d))) (flat_map f (drop (i + 1) xs))
set_flat f xs i d m h = ap (λ ys. all_set m (flat_map f ys)) (drop-cons xs i d h ∙ ap (λ n. get_or xs i d ∷ drop n xs) (sym (add-one i))) ∙ all_set-append m (f (get_or xs i d)) _
