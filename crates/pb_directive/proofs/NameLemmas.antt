-- Lemmas on the names in dep-info.
use borrow.Author.Tests.{ltb-false}
use Rattle.std.proofs.Common.{◌≡◌, ℕ, Bool, true, false, cond, List, length, None, Some, refl, sym, ◌∙◌, ap, arith, eqb, ltb}
use Rattle.std.proofs.lemmas.List.{take_all}
use Rattle.std.specs.List.{before_first, after_first, position_or_len}
use Rattle.pb_directive.specs.Lines.{split_first}
use Rattle.pb_directive.proofs.WordLemmas.{cut_of}

-- the name goes to the first `=`
pub name_some : (text name rest : List ℕ) → Some (name, rest) ≡ split_first 61 text → name ≡ before_first (λ b. eqb b 61) text
name_some text name rest at = sym (cut_of 61 text name rest (sym at)).before

pub name_none : (text : List ℕ) → None ≡ split_first 61 text → text ≡ before_first (λ b. eqb b 61) text
name_none text at = by (ltb (position_or_len (λ b. eqb b 61) text) (length text)) refl
  where
    by : (r : Bool) → ltb (position_or_len (λ b. eqb b 61) text) (length text) ≡ r → text ≡ before_first (λ b. eqb b 61) text
    by true is =
        let found : Some (before_first (λ b. eqb b 61) text, after_first (λ b. eqb b 61) text) ≡ None = sym (ap (λ r. cond r (Some (before_first (λ b. eqb b 61) text, after_first (λ b. eqb b 61) text)) None) is) ∙ sym at in
        absurd (cc)
    by false is = sym (take_all (position_or_len (λ b. eqb b 61) text) text (omega (arith, ltb-false)))

pub ruleset name_laws = (name_some, name_none)
