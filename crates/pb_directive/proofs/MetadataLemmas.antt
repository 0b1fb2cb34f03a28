-- Lemmas on metadata.
use Rattle.std.proofs.Common.{◌≡◌, ℕ, false, List, [], ◌∷◌, ◌++◌, None, Some, refl, sym, ◌∙◌, ap, eqb, if◌then◌else◌, append_assoc}
use Rattle.std.proofs.lemmas.List.{map-append}
use Rattle.std.specs.List.{list_any}
use Rattle.pb_directive.specs.Lines.{split_first}
use Rattle.pb_directive.specs.Metadata.{underscored}
use Rattle.pb_directive.proofs.RuleLemmas.{around_of, absent_of, neither}

underscored_absent : (text : List ℕ) → list_any (λ b. eqb b 45) text ≡ false → underscored text ≡ text
underscored_absent [] none = refl
underscored_absent (b ∷ text) none =
    let both = neither (eqb b 45) (list_any (λ b. eqb b 45) text) none in
    (λ i. (if both.one i then 95 else b) ∷ underscored_absent text both.other i)

pub underscored_none : (text : List ℕ) → split_first 45 text ≡ None → underscored text ≡ text
underscored_none text at = underscored_absent text (absent_of 45 text at)

pub underscored_some : (text part rest : List ℕ) → split_first 45 text ≡ Some (part, rest) → underscored text ≡ part ++ 95 ∷ underscored rest
underscored_some text part rest at =
    let around = around_of 45 text part rest at in
    ap underscored around.whole ∙ map-append (λ b. if eqb b 45 then 95 else b) part (45 ∷ rest) ∙ ap (λ p. p ++ 95 ∷ underscored rest) (underscored_absent part around.first)

-- a step over a part
pub underscored_step : (whole text part rest made half new : List ℕ) → made ++ underscored text ≡ whole → Some (part, rest) ≡ split_first 45 text → half ≡ made ++ part → new ≡ half ++ 95 ∷ []
    → new ++ underscored rest ≡ whole
underscored_step whole text part rest made half new so_far at pushed dashed =
    ap (λ n. n ++ underscored rest) (dashed ∙ ap (λ h. h ++ 95 ∷ []) pushed) ∙ append_assoc (made ++ part) (95 ∷ []) (underscored rest) ∙ append_assoc made part (95 ∷ underscored rest)
    ∙ ap (λ u. made ++ u) (sym (underscored_some text part rest (sym at))) ∙ so_far

-- and the last part
pub underscored_last : (whole text made new : List ℕ) → made ++ underscored text ≡ whole → split_first 45 text ≡ None → new ≡ made ++ text → new ≡ whole
underscored_last whole text made new so_far at pushed = pushed ∙ ap (λ u. made ++ u) (sym (underscored_none text at)) ∙ so_far
