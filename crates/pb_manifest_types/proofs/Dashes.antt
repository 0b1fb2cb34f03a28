-- Names with `_` for each `-`.
use Rattle.std.proofs.Common.{◌≡◌, ℕ, ◌+◌, ◌<◌, ◌≤◌, suc, not, Bool, true, false, cond, List, [], ◌∷◌, ◌++◌, length, take, drop, None, Some, sym, ◌∙◌, ap, refl, subst, arith, eqb, if◌then◌else◌, append_assoc, length-drop}
use Rattle.std.proofs.lemmas.Bool.Decides.{Decides-eqb, nat_tests}
use Rattle.std.specs.List.{position_or_len, before_first, after_first}
use Rattle.pb_manifest_types.specs.Features.{parted}
use Rattle.pb_manifest_types.specs.Letters.{underscored}

abbrev dash : ℕ → Bool
dash b = eqb b 45

abbrev place : List ℕ → ℕ
place text = position_or_len dash text

-- a text in which no `-` is found stays as it is
whole_name : (text : List ℕ) → place text ≡ length text → underscored text ≡ text
unfolding underscored
whole_name [] none = refl
whole_name (b ∷ text) none = by (dash b) refl (whole_name text)
  where
    by : (r : Bool) → dash b ≡ r → (place text ≡ length text → underscored text ≡ text) → underscored (b ∷ text) ≡ b ∷ text
    by true is later =
        let here : place (b ∷ text) ≡ 0 = ap (λ r. cond (not r) (1 + place text) 0) is in
        absurd (omega arith)
    by false is later =
        let there : place (b ∷ text) ≡ 1 + place text = ap (λ r. cond (not r) (1 + place text) 0) is in
        let rest : underscored text ≡ text = later (omega arith) in
        ap (λ (c : Bool). (if c then 95 else b) ∷ underscored text) is ∙ ap (λ t. b ∷ t) rest

-- the first `-` becomes `_`, and the rest follows
first_dash : (text : List ℕ) → place text < length text → underscored text ≡ before_first dash text ++ 95 ∷ underscored (after_first dash text)
unfolding underscored
first_dash [] inside = absurd (omega arith)
first_dash (b ∷ text) inside = by (dash b) refl (first_dash text)
  where
    by : (r : Bool) → dash b ≡ r → (place text < length text → underscored text ≡ before_first dash text ++ 95 ∷ underscored (after_first dash text))
        → underscored (b ∷ text) ≡ before_first dash (b ∷ text) ++ 95 ∷ underscored (after_first dash (b ∷ text))
    by true is later =
        let here : place (b ∷ text) ≡ 0 = ap (λ r. cond (not r) (1 + place text) 0) is in
        subst (λ n. underscored (b ∷ text) ≡ take n (b ∷ text) ++ 95 ∷ underscored (drop (n + 1) (b ∷ text))) (sym here)
        (ap (λ (c : Bool). (if c then 95 else b) ∷ underscored text) is)
    by false is later =
        let there : place (b ∷ text) ≡ 1 + place text = ap (λ r. cond (not r) (1 + place text) 0) is in
        let rest = later (omega arith) in
        let n : place (b ∷ text) ≡ suc (place text) = omega arith in
        let m : place (b ∷ text) + 1 ≡ suc (place text + 1) = omega arith in
        subst (λ x. underscored (b ∷ text) ≡ take x (b ∷ text) ++ 95 ∷ underscored (drop (place (b ∷ text) + 1) (b ∷ text))) (sym n)
        (subst (λ x. underscored (b ∷ text) ≡ take (suc (place text)) (b ∷ text) ++ 95 ∷ underscored (drop x (b ∷ text))) (sym m)
        (ap (λ (c : Bool). (if c then 95 else b) ∷ underscored text) is ∙ ap (λ t. b ∷ t) rest))

-- a text is parted at its first `-`
pub record AtDash (text part rest : List ℕ) : Type 0 where
  pub inside : place text < length text
  pub before : before_first dash text ≡ part
  pub after : after_first dash text ≡ rest

place_le : (text : List ℕ) → place text ≤ length text
place_le [] = omega arith
place_le (b ∷ text) = by (dash b) refl (place_le text)
  where
    by : (r : Bool) → dash b ≡ r → place text ≤ length text → place (b ∷ text) ≤ length (b ∷ text)
    by true is later =
        let here : place (b ∷ text) ≡ 0 = ap (λ r. cond (not r) (1 + place text) 0) is in
        omega arith
    by false is later =
        let there : place (b ∷ text) ≡ 1 + place text = ap (λ r. cond (not r) (1 + place text) 0) is in
        omega arith

strictly : (n m : ℕ) → n ≤ m → eqb n m ≡ false → n < m
strictly n m le apart = grind (arith, nat_tests)

pub at_dash : (text part rest : List ℕ) → Some (part, rest) ≡ parted 45 text → AtDash text part rest
unfolding parted
at_dash text part rest at = by (eqb (place text) (length text)) refl
  where
    by : (r : Bool) → eqb (place text) (length text) ≡ r → AtDash text part rest
    by true is =
        let found : Some (part, rest) ≡ None = at ∙ ap (λ r. cond r None (Some (before_first dash text, after_first dash text))) is in
        absurd (cc)
    by false is =
        let found : Some (part, rest) ≡ Some (before_first dash text, after_first dash text) = at ∙ ap (λ r. cond r None (Some (before_first dash text, after_first dash text))) is in
        let pair : (part, rest) ≡ (before_first dash text, after_first dash text) = cc in
        record {
          inside = strictly (place text) (length text) (place_le text) is;
          before = sym (ap (λ (p : List ℕ × List ℕ). p.0) pair);
          after = sym (ap (λ (p : List ℕ × List ℕ). p.1) pair);
        }

-- a step over a part
pub dash_step : (whole text part rest made half new : List ℕ) → made ++ underscored text ≡ whole → Some (part, rest) ≡ parted 45 text → half ≡ made ++ part → new ≡ half ++ 95 ∷ []
    → new ++ underscored rest ≡ whole
dash_step whole text part rest made half new so_far at pushed dashed =
    let cut = at_dash text part rest at in
    let is : underscored text ≡ part ++ 95 ∷ underscored rest = first_dash text cut.inside ∙ (λ i. cut.before i ++ 95 ∷ underscored (cut.after i)) in
    ap (λ n. n ++ underscored rest) (dashed ∙ ap (λ h. h ++ 95 ∷ []) pushed) ∙ append_assoc (made ++ part) (95 ∷ []) (underscored rest) ∙ append_assoc made part (95 ∷ underscored rest)
    ∙ ap (λ u. made ++ u) (sym is) ∙ so_far

-- what follows a part is shorter
pub dash_shorter : (text part rest : List ℕ) → Some (part, rest) ≡ parted 45 text → length rest < length text
dash_shorter text part rest at =
    let cut = at_dash text part rest at in
    let inside : place text < length text = cut.inside in
    omega (arith, ap length cut.after, length-drop (place text + 1) text)

-- and the last part
pub dash_last : (whole text made new : List ℕ) → made ++ underscored text ≡ whole → None ≡ parted 45 text → new ≡ made ++ text → new ≡ whole
unfolding parted
dash_last whole text made new so_far at pushed = by (eqb (place text) (length text)) refl
  where
    by : (r : Bool) → eqb (place text) (length text) ≡ r → new ≡ whole
    by true is = pushed ∙ ap (λ u. made ++ u) (sym (whole_name text ((Decides-eqb (place text) (length text)).0 is))) ∙ so_far
    by false is =
        let found : None ≡ Some (before_first dash text, after_first dash text) = at ∙ ap (λ r. cond r None (Some (before_first dash text, after_first dash text))) is in
        absurd (cc)
