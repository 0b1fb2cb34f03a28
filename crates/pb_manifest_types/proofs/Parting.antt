-- A text that is parted at a byte is its two parts around that byte; and where it is parted.
use Rattle.std.proofs.Common.{◌≡◌, ℕ, ◌+◌, ◌<◌, ◌≤◌, suc, not, ◌||◌, Bool, true, false, cond, [], ◌∷◌, ◌++◌, length, take, drop, None, Some, sym, ◌∙◌, ap, refl, subst, arith, eqb, length-append}
use Rattle.std.proofs.lemmas.Bool.Decides.{Decides-eqb, nat_tests}
use Rattle.std.specs.List.{position_or_len, before_first, after_first, list_any}
use Rattle.pb_manifest_types.specs.Features.{parted}
use Rattle.pb_manifest_types.specs.Values.{Text}

abbrev place : ℕ → Text → ℕ
place mark text = position_or_len (λ b. eqb b mark) text

abbrev Around : ℕ → Text → Type 0
Around mark text = text ≡ before_first (λ b. eqb b mark) text ++ mark ∷ after_first (λ b. eqb b mark) text

around : (mark : ℕ) (text : Text) → place mark text < length text → Around mark text
around mark [] inside = absurd (omega arith)
around mark (b ∷ text) inside = by (eqb b mark) refl (around mark text)
  where
    by : (r : Bool) → eqb b mark ≡ r → (place mark text < length text → Around mark text) → Around mark (b ∷ text)
    by true is later =
        let here : place mark (b ∷ text) ≡ 0 = ap (λ r. cond (not r) (1 + place mark text) 0) is in
        let same : b ≡ mark = (Decides-eqb b mark).0 is in
        subst (λ n. b ∷ text ≡ take n (b ∷ text) ++ mark ∷ drop (n + 1) (b ∷ text)) (sym here) (ap (λ x. x ∷ text) same)
    by false is later =
        let there : place mark (b ∷ text) ≡ 1 + place mark text = ap (λ r. cond (not r) (1 + place mark text) 0) is in
        let rest = later (omega arith) in
        let n : place mark (b ∷ text) ≡ suc (place mark text) = omega arith in
        let m : place mark (b ∷ text) + 1 ≡ suc (place mark text + 1) = omega arith in
        subst (λ x. b ∷ text ≡ take x (b ∷ text) ++ mark ∷ drop (place mark (b ∷ text) + 1) (b ∷ text)) (sym n)
        (subst (λ x. b ∷ text ≡ take (suc (place mark text)) (b ∷ text) ++ mark ∷ drop x (b ∷ text)) (sym m)
        (ap (λ t. b ∷ t) rest))

place_le : (mark : ℕ) (text : Text) → place mark text ≤ length text
place_le mark [] = omega arith
place_le mark (b ∷ text) = by (eqb b mark) refl (place_le mark text)
  where
    by : (r : Bool) → eqb b mark ≡ r → place mark text ≤ length text → place mark (b ∷ text) ≤ length (b ∷ text)
    by true is later =
        let here : place mark (b ∷ text) ≡ 0 = ap (λ r. cond (not r) (1 + place mark text) 0) is in
        omega arith
    by false is later =
        let there : place mark (b ∷ text) ≡ 1 + place mark text = ap (λ r. cond (not r) (1 + place mark text) 0) is in
        omega arith

strictly : (n m : ℕ) → n ≤ m → eqb n m ≡ false → n < m
strictly n m le apart = grind (arith, nat_tests)

pub parted_around : (mark : ℕ) (text before after : Text) → parted mark text ≡ Some (before, after) → text ≡ before ++ mark ∷ after
unfolding parted
parted_around mark text before after at = by (eqb (place mark text) (length text)) refl
  where
    by : (r : Bool) → eqb (place mark text) (length text) ≡ r → text ≡ before ++ mark ∷ after
    by true is =
        let found : None ≡ Some (before, after) = sym (ap (λ r. cond r None (Some (before_first (λ b. eqb b mark) text, after_first (λ b. eqb b mark) text))) is) ∙ at in
        absurd (cc)
    by false is =
        let found : Some (before_first (λ b. eqb b mark) text, after_first (λ b. eqb b mark) text) ≡ Some (before, after) = sym (ap (λ r. cond r None (Some (before_first (λ b. eqb b mark) text, after_first (λ b. eqb b mark) text))) is) ∙ at in
        let pair : (before_first (λ b. eqb b mark) text, after_first (λ b. eqb b mark) text) ≡ (before, after) = cc in
        around mark text (strictly (place mark text) (length text) (place_le mark text) is) ∙ ap (λ (p : Text × Text). p.0 ++ mark ∷ p.1) pair

-- no such byte is in the text
abbrev pub Without : ℕ → Text → Type 0
Without mark text = list_any (λ b. eqb b mark) text ≡ false

pub record Neither (x y : Bool) : Type 0 where
  pub one : x ≡ false
  pub other : y ≡ false

pub neither : (x y : Bool) → (x || y) ≡ false → Neither x y
neither true y is = cc
neither false y is = record { one = refl; other = is }

-- in a text without the byte it is found at no place
place_none : (mark : ℕ) (text : Text) → Without mark text → place mark text ≡ length text
place_none mark [] none = refl
place_none mark (b ∷ text) none =
    let n = neither (eqb b mark) (list_any (λ c. eqb c mark) text) none in
    let there : place mark (b ∷ text) ≡ 1 + place mark text = ap (λ r. cond (not r) (1 + place mark text) 0) n.one in
    let rest = place_none mark text n.other in
    omega arith

self : (n : ℕ) → eqb n n ≡ true
self n = grind (arith, nat_tests)

pub parted_none : (mark : ℕ) (text : Text) → Without mark text → parted mark text ≡ None
unfolding parted
parted_none mark text none =
    ap (λ n. cond (eqb n (length text)) None (Some (before_first (λ b. eqb b mark) text, after_first (λ b. eqb b mark) text))) (place_none mark text none)
    ∙ ap (λ r. cond r None (Some (before_first (λ b. eqb b mark) text, after_first (λ b. eqb b mark) text))) (self (length text))

-- and in one that goes on with it, at the end of the first part
place_some : (mark : ℕ) (before after : Text) → Without mark before → place mark (before ++ mark ∷ after) ≡ length before
place_some mark [] after none = ap (λ r. cond (not r) (1 + place mark after) 0) (self mark)
place_some mark (b ∷ before) after none =
    let n = neither (eqb b mark) (list_any (λ c. eqb c mark) before) none in
    let there : place mark (b ∷ (before ++ mark ∷ after)) ≡ 1 + place mark (before ++ mark ∷ after) = ap (λ r. cond (not r) (1 + place mark (before ++ mark ∷ after)) 0) n.one in
    let rest = place_some mark before after n.other in
    omega arith

taken : (before after : Text) → take (length before) (before ++ after) ≡ before
taken [] after = refl
taken (b ∷ before) after = ap (λ t. b ∷ t) (taken before after)

dropped : (mark : ℕ) (before after : Text) → drop (length before + 1) (before ++ mark ∷ after) ≡ after
dropped mark [] after = refl
dropped mark (b ∷ before) after =
    let step : length (b ∷ before) + 1 ≡ suc (length before + 1) = omega arith in
    ap (λ n. drop n (b ∷ (before ++ mark ∷ after))) step ∙ dropped mark before after

apart : (mark : ℕ) (before after : Text) → eqb (length before) (length (before ++ mark ∷ after)) ≡ false
apart mark before after = grind (arith, nat_tests, length-append before (mark ∷ after))

pub parted_some : (mark : ℕ) (before after : Text) → Without mark before → parted mark (before ++ mark ∷ after) ≡ Some (before, after)
unfolding parted
parted_some mark before after none =
    let text = before ++ mark ∷ after in
    ap (λ n. cond (eqb n (length text)) None (Some (take n text, drop (n + 1) text))) (place_some mark before after none)
    ∙ ap (λ r. cond r None (Some (take (length before) text, drop (length before + 1) text))) (apart mark before after)
    ∙ (λ i. Some (taken before (mark ∷ after) i, dropped mark before after i))
