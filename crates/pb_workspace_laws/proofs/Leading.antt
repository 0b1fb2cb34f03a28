-- A path, and the way to it from a folder, are what the laws say.
use Rattle.std.proofs.Common.{◌==◌, ◌≡◌, ◌∙◌, ◌++◌, ◌∷◌, ◌+◌, ◌-◌, [], ℕ, suc, Bool, true, false, cond, codes, drop, List, length, replicate, refl, sym, ap, arith}
use Rattle.std.proofs.lemmas.Bool.Decides.{nat_tests}
use Rattle.std.specs.List.{common_prefix_len, flat_map, join_by}
use Rattle.std.specs.Str.{bytes_eq}
use Rattle.pb_place_types.specs.Paths.{slashed}
use Rattle.pb_workspace_package.specs.Between.{names_in, spelled, steps_between, upward}
use Rattle.pb_workspace_laws.specs.Ways.{PathsAreSpelled, TextsLeadBetween}

-- the way from a folder

behind : (names : List (List ℕ)) → slashed names ≡ flat_map (λ name. codes "/" ++ name) names
behind [] = refl
behind (name ∷ names) = ap (λ rest. 47 ∷ name ++ rest) (behind names)

spelled_is : (names : List (List ℕ)) → spelled names ≡ join_by (λ name. name) (codes "/") names
spelled_is [] = refl
spelled_is (name ∷ names) = ap (λ rest. name ++ rest) (behind names)

abbrev Way : List (List ℕ) → List (List ℕ) → ℕ → List (List ℕ)
Way names others same = replicate (length names - same) (codes "..") ++ drop same others

up_all : (names others : List (List ℕ)) → upward names ++ others ≡ Way names others 0
up_all names others = let all : length names ≡ length names - 0 = omega arith in ap (λ n. replicate n (codes "..") ++ others) all

steps_are : (names others : List (List ℕ)) → steps_between names others ≡ Way names others (common_prefix_len bytes_eq names others)
steps_are [] others = refl
steps_are (name ∷ names) [] = nil_behind (upward (name ∷ names)) ∙ up_all (name ∷ names) []
  where
    nil_behind : (xs : List (List ℕ)) → xs ≡ xs ++ []
    nil_behind [] = refl
    nil_behind (x ∷ xs) = ap (λ ys. x ∷ ys) (nil_behind xs)
steps_are (name ∷ names) (other ∷ others) = by (bytes_eq name other) (steps_are names others)
  where
    further : (n : ℕ) → Way names others n ≡ Way (name ∷ names) (other ∷ others) (1 + n)
    further n =
        let less : length names - n ≡ length (name ∷ names) - (1 + n) = omega arith in
        let one : 1 + n ≡ suc n = omega arith in
        ap (λ m. replicate m (codes "..") ++ drop n others) less ∙ ap (λ m. replicate (length (name ∷ names) - (1 + n)) (codes "..") ++ drop m (other ∷ others)) (sym one)

    by : (same : Bool) → steps_between names others ≡ Way names others (common_prefix_len bytes_eq names others)
        → cond same (steps_between names others) (upward (name ∷ names) ++ other ∷ others) ≡ Way (name ∷ names) (other ∷ others) (cond same (1 + common_prefix_len bytes_eq names others) 0)
    by true rest = rest ∙ further (common_prefix_len bytes_eq names others)
    by false rest = up_all (name ∷ names) (other ∷ others)

pub texts_lead_between : TextsLeadBetween
texts_lead_between folder path = ap spelled (steps_are (names_in folder) (names_in path)) ∙ spelled_is (Way (names_in folder) (names_in path) (common_prefix_len bytes_eq (names_in folder) (names_in path)))

-- a path

each_name : (names : List (List ℕ)) → slashed names ≡ flat_map (λ (name : List ℕ). 47 ∷ name) names
each_name [] = refl
each_name (name ∷ names) = ap (λ rest. 47 ∷ name ++ rest) (each_name names)

no_zero : (n : ℕ) → (suc n == 0) ≡ false
no_zero n = grind (arith, nat_tests)

pub paths_are_spelled : PathsAreSpelled
paths_are_spelled [] = refl
paths_are_spelled (name ∷ names) = each_name (name ∷ names) ∙ ap (λ b. cond b (codes "/") (flat_map (λ (name : List ℕ). 47 ∷ name) (name ∷ names))) (sym (no_zero (length names)))
