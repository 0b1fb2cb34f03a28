-- Names each once, and names that others are not.
use Rattle.std.proofs.Common.{◌≡◌, ℕ, List, [], ◌∷◌, ◌+◌, ◌<◌, length, get_or, drop, add-one, sym, refl, ap, ◌∙◌, not, Bool, cond, filter}
use Rattle.std.proofs.Math.Seq.{drop-cons}
use Rattle.std.specs.List.{flat_map}
use Rattle.pb_data.specs.OrderedSet.{is_mentioned, mentioned_all}
use Rattle.pb_data.proofs.MentionLemmas.{mentioned_all-append, mentioned_all-once, is_mentioned-once}

pub ruleset naming_laws = (mentioned_all-append, mentioned_all-once)

filter_same : {A : Type 0} (p q : A → Bool) → ((x : A) → p x ≡ q x) → (xs : List A) → filter p xs ≡ filter q xs
filter_same p q same [] = refl
filter_same p q same (x ∷ xs) = (λ i. cond (same x i) (x ∷ filter_same p q same xs i) (filter_same p q same xs i))

-- a name is among names that were mentioned one after another just where it is among the names
pub but_mentioned : (others names : List (List ℕ)) → filter (λ name. not (is_mentioned (mentioned_all [] others) name)) names ≡ filter (λ name. not (is_mentioned others name)) names
but_mentioned others names =
    filter_same (λ name. not (is_mentioned (mentioned_all [] others) name)) (λ name. not (is_mentioned others name))
    (λ name. ap (λ texts. not (is_mentioned texts name)) (mentioned_all-once others) ∙ ap not (is_mentioned-once others name)) names

-- what one thing of a list says, mentioned, and then the rest
pub mentioned_flat : {A : Type 0} (f : A → List (List ℕ)) (xs : List A) (i : ℕ) (x : A) (seen : List (List ℕ)) → i < length xs → x ≡ get_or xs i x
    → mentioned_all seen (flat_map f (drop i xs)) ≡ mentioned_all (mentioned_all seen (f x)) (flat_map f (drop (i + 1) xs))
mentioned_flat f xs i x seen h is =
    ap (λ ys. mentioned_all seen (flat_map f ys)) (drop-cons xs i x h ∙ ap (λ n. get_or xs i x ∷ drop n xs) (sym (add-one i)) ∙ ap (λ y. y ∷ drop (i + 1) xs) (sym is))
    ∙ mentioned_all-append seen (f x) _
