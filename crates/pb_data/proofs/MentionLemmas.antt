-- Lemmas on texts each once, in order of first mention.
use Rattle.std.proofs.Common.{◌≡◌, ℕ, Bool, true, false, not, ◌&&◌, ◌||◌, cond, List, [], ◌∷◌, ◌++◌, filter, refl, sym, ◌∙◌, ap, append_assoc, if◌then◌else◌}
use Rattle.std.proofs.lemmas.List.{append-nil}
use Rattle.std.proofs.lemmas.List.Folds.{list_any-append}
use Rattle.std.proofs.lemmas.Slice.Eq.{bytes_eq-Decides}
use Rattle.std.specs.List.{IsDistinct, AllByRecursion}
use Rattle.std.specs.Str.{bytes_eq}
use Rattle.pb_data.specs.OrderedSet.{is_mentioned, mentioned, mentioned_all, without, once, EachOnce}

-- more texts, and more after them
pub mentioned_all-append : (seen xs ys : List (List ℕ)) → mentioned_all seen (xs ++ ys) ≡ mentioned_all (mentioned_all seen xs) ys
mentioned_all-append seen [] ys = refl
mentioned_all-append seen (x ∷ xs) ys = mentioned_all-append (mentioned seen x) xs ys

pub bytes_eq_same : (x : List ℕ) → bytes_eq x x ≡ true
bytes_eq_same x = (bytes_eq-Decides x x).1 refl

pub bytes_eq_comm : (x y : List ℕ) → bytes_eq x y ≡ bytes_eq y x
bytes_eq_comm x y = by (bytes_eq x y) (bytes_eq y x) refl refl
  where
    by : (r s : Bool) → bytes_eq x y ≡ r → bytes_eq y x ≡ s → bytes_eq x y ≡ bytes_eq y x
    by true true p q = p ∙ sym q
    by false false p q = p ∙ sym q
    by true false p q = p ∙ sym ((bytes_eq-Decides y x).1 (sym ((bytes_eq-Decides x y).0 p)))
    by false true p q = (bytes_eq-Decides x y).1 (sym ((bytes_eq-Decides y x).0 q)) ∙ sym q

-- filters one after another
filter_filter : {A : Type 0} (p q : A → Bool) (xs : List A) → filter p (filter q xs) ≡ filter (λ x. q x && p x) xs
filter_filter p q [] = refl
filter_filter p q (x ∷ xs) = by (q x) refl (filter_filter p q xs)
  where
    by : (r : Bool) → q x ≡ r → filter p (filter q xs) ≡ filter (λ x. q x && p x) xs → filter p (filter q (x ∷ xs)) ≡ filter (λ x. q x && p x) (x ∷ xs)
    by true is rest = ap (λ r. filter p (cond r (x ∷ filter q xs) (filter q xs))) is ∙ ap (λ ys. cond (p x) (x ∷ ys) ys) rest ∙ ap (λ r. cond (r && p x) (x ∷ filter (λ x. q x && p x) xs) (filter (λ x. q x && p x) xs)) (sym is)
    by false is rest = ap (λ r. filter p (cond r (x ∷ filter q xs) (filter q xs))) is ∙ rest ∙ ap (λ r. cond (r && p x) (x ∷ filter (λ x. q x && p x) xs) (filter (λ x. q x && p x) xs)) (sym is)

filter_same : {A : Type 0} (p q : A → Bool) → ((x : A) → p x ≡ q x) → (xs : List A) → filter p xs ≡ filter q xs
filter_same p q same [] = refl
filter_same p q same (x ∷ xs) = (λ i. cond (same x i) (x ∷ filter_same p q same xs i) (filter_same p q same xs i))

-- the texts that are not there yet
abbrev fresh : List (List ℕ) → List (List ℕ) → List (List ℕ)
fresh seen xs = filter (λ x. not (is_mentioned seen x)) xs

fresh_seen : (seen : List (List ℕ)) (x : List ℕ) (xs : List (List ℕ)) → is_mentioned seen x ≡ true → fresh seen (without x xs) ≡ fresh seen xs
fresh_seen seen x xs there = filter_filter _ _ xs ∙ filter_same _ _ same xs
  where
    same : (y : List ℕ) → (not (bytes_eq x y) && not (is_mentioned seen y)) ≡ not (is_mentioned seen y)
    same y = by (bytes_eq x y) refl
      where
        by : (r : Bool) → bytes_eq x y ≡ r → (not (bytes_eq x y) && not (is_mentioned seen y)) ≡ not (is_mentioned seen y)
        by true is =
            let one : x ≡ y = (bytes_eq-Decides x y).0 is in
            ap (λ r. not r && not (is_mentioned seen y)) is ∙ sym (ap not (sym (ap (is_mentioned seen) one) ∙ there))
        by false is = ap (λ r. not r && not (is_mentioned seen y)) is

fresh_new : (seen : List (List ℕ)) (x : List ℕ) (xs : List (List ℕ)) → fresh seen (without x xs) ≡ fresh (seen ++ x ∷ []) xs
fresh_new seen x xs = filter_filter _ _ xs ∙ filter_same _ _ same xs
  where
    table : (a b : Bool) → (not a && not b) ≡ not (b || (a || false))
    table true true = refl
    table true false = refl
    table false true = refl
    table false false = refl

    same : (y : List ℕ) → (not (bytes_eq x y) && not (is_mentioned seen y)) ≡ not (is_mentioned (seen ++ x ∷ []) y)
    same y = table (bytes_eq x y) (is_mentioned seen y) ∙ ap (λ r. not (is_mentioned seen y || (r || false))) (bytes_eq_comm x y) ∙ sym (ap not (list_any-append (bytes_eq y) seen (x ∷ [])))

mentioned_all_fresh : (seen xs : List (List ℕ)) → mentioned_all seen xs ≡ seen ++ fresh seen (once xs)
mentioned_all_fresh seen [] = sym (append-nil seen)
mentioned_all_fresh seen (x ∷ xs) = by (is_mentioned seen x) refl (λ s. mentioned_all_fresh s xs)
  where
    by : (r : Bool) → is_mentioned seen x ≡ r → ((s : List (List ℕ)) → mentioned_all s xs ≡ s ++ fresh s (once xs)) → mentioned_all seen (x ∷ xs) ≡ seen ++ fresh seen (once (x ∷ xs))
    by true is rest =
        ap (λ r. mentioned_all (if r then seen else seen ++ x ∷ []) xs) is ∙ rest seen ∙ ap (λ f. seen ++ f) (sym (fresh_seen seen x (once xs) is))
        ∙ ap (λ r. seen ++ cond (not r) (x ∷ fresh seen (without x (once xs))) (fresh seen (without x (once xs)))) (sym is)
    by false is rest =
        ap (λ r. mentioned_all (if r then seen else seen ++ x ∷ []) xs) is ∙ rest (seen ++ x ∷ []) ∙ append_assoc seen (x ∷ []) (fresh (seen ++ x ∷ []) (once xs))
        ∙ ap (λ f. seen ++ x ∷ f) (sym (fresh_new seen x (once xs)))
        ∙ ap (λ r. seen ++ cond (not r) (x ∷ fresh seen (without x (once xs))) (fresh seen (without x (once xs)))) (sym is)

fresh_none : (xs : List (List ℕ)) → fresh [] xs ≡ xs
fresh_none [] = refl
fresh_none (x ∷ xs) = ap (λ ys. x ∷ ys) (fresh_none xs)

-- texts that are added one after another to none stand each once, in order of first mention
pub mentioned_all-once : (xs : List (List ℕ)) → mentioned_all [] xs ≡ once xs
mentioned_all-once xs = mentioned_all_fresh [] xs ∙ fresh_none (once xs)

apart-without : (x y : List ℕ) (xs : List (List ℕ)) → AllByRecursion (λ z. bytes_eq y z ≡ false) xs → AllByRecursion (λ z. bytes_eq y z ≡ false) (without x xs)
apart-without x y [] apart = tt
apart-without x y (z ∷ xs) apart = by (bytes_eq x z) (apart-without x y xs apart.1)
  where
    by : (r : Bool) → AllByRecursion (λ z. bytes_eq y z ≡ false) (without x xs) → AllByRecursion (λ z. bytes_eq y z ≡ false) (cond (not r) (z ∷ without x xs) (without x xs))
    by true rest = rest
    by false rest = (apart.0, rest)

apart_self : (x : List ℕ) (xs : List (List ℕ)) → AllByRecursion (λ z. bytes_eq x z ≡ false) (without x xs)
apart_self x [] = tt
apart_self x (z ∷ xs) = by (bytes_eq x z) refl (apart_self x xs)
  where
    by : (r : Bool) → bytes_eq x z ≡ r → AllByRecursion (λ z. bytes_eq x z ≡ false) (without x xs) → AllByRecursion (λ z. bytes_eq x z ≡ false) (cond (not r) (z ∷ without x xs) (without x xs))
    by true is rest = rest
    by false is rest = (is, rest)

distinct-without : (x : List ℕ) (xs : List (List ℕ)) → IsDistinct bytes_eq xs → IsDistinct bytes_eq (without x xs)
unfolding IsDistinct
distinct-without x [] apart = tt
distinct-without x (z ∷ xs) apart = by (bytes_eq x z) (distinct-without x xs apart.1)
  where
    by : (r : Bool) → IsDistinct bytes_eq (without x xs) → IsDistinct bytes_eq (cond (not r) (z ∷ without x xs) (without x xs))
    by true rest = rest
    by false rest = (apart-without x z xs apart.0, rest)

-- no text stands there twice
pub once-IsDistinct : (xs : List (List ℕ)) → EachOnce (once xs)
unfolding IsDistinct
once-IsDistinct [] = tt
once-IsDistinct (x ∷ xs) = (apart_self x (once xs), distinct-without x (once xs) (once-IsDistinct xs))

is_mentioned-without : (x y : List ℕ) (xs : List (List ℕ)) → bytes_eq x y ≡ false → is_mentioned (without y xs) x ≡ is_mentioned xs x
is_mentioned-without x y [] other = refl
is_mentioned-without x y (z ∷ xs) other = by (bytes_eq y z) refl (is_mentioned-without x y xs other)
  where
    by : (r : Bool) → bytes_eq y z ≡ r → is_mentioned (without y xs) x ≡ is_mentioned xs x → is_mentioned (cond (not r) (z ∷ without y xs) (without y xs)) x ≡ is_mentioned (z ∷ xs) x
    by true is rest =
        let one : y ≡ z = (bytes_eq-Decides y z).0 is in
        rest ∙ ap (λ r. r || is_mentioned xs x) (sym (sym (ap (bytes_eq x) one) ∙ other))
    by false is rest = ap (λ r. bytes_eq x z || r) rest

-- each text stands there, and no other
pub is_mentioned-once : (xs : List (List ℕ)) (x : List ℕ) → is_mentioned (once xs) x ≡ is_mentioned xs x
is_mentioned-once [] x = refl
is_mentioned-once (y ∷ xs) x = by (bytes_eq x y) refl (is_mentioned-once xs x)
  where
    by : (r : Bool) → bytes_eq x y ≡ r → is_mentioned (once xs) x ≡ is_mentioned xs x → (bytes_eq x y || is_mentioned (without y (once xs)) x) ≡ (bytes_eq x y || is_mentioned xs x)
    by true is rest = ap (λ r. r || is_mentioned (without y (once xs)) x) is ∙ ap (λ r. r || is_mentioned xs x) (sym is)
    by false is rest = ap (λ r. bytes_eq x y || r) (is_mentioned-without x y (once xs) is ∙ rest)
