-- What a line of dep-info names is what is read of it.
use Rattle.std.proofs.Common.{inl, inr, ◌≡◌, ◌≢◌, ◌⊎◌, ℕ, Bool, true, false, is_some, List, [], ◌∷◌, ◌++◌, Option, None, Some, Ok, Err, Result, refl, sym, ◌∙◌, ap, subst, eqb, if◌then◌else◌, codes}
use Rattle.std.proofs.lemmas.Bool.Decides.{Decides-eqb}
use Rattle.std.proofs.lemmas.List.{append-nil}
use Rattle.std.proofs.lemmas.Str.{IsUtf8-nil}
use Rattle.std.specs.List.{before_first}
use Rattle.std.specs.Str.{is_utf8}
use Rattle.std.specs.Str.Lines.{strip_carriage_return}
use Rattle.pb_directive.proofs.NameLemmas.{name_some, name_none}
use Rattle.pb_directive.proofs.RuleLemmas.{around_of, absent_of}
use Rattle.pb_directive.proofs.SettingLemmas.{cut_there, cut_nowhere, not_empty, prefix_there}
use Rattle.pb_directive.proofs.TextLemmas.{after_prefix-append, text_of-some}
use Rattle.pb_directive.specs.DepInfo.{after_outputs, comment_info, full_line, nothing, one_variable, only_words, rule_info, rule_words, text_info, variable_info}
use Rattle.pb_directive.specs.Directives.{is_empty}
use Rattle.pb_directive.specs.InfoWords as words
use Rattle.pb_directive.specs.InfoWords.{IsValue, IsInfo, InfosSay}
use Rattle.pb_directive.specs.LineWords.{IsFilled, IsPlain, IsUncut}
use Rattle.pb_directive.specs.Lines.{after_prefix, has_byte, split_first, text_of}
use Rattle.pb_directive.specs.declared.dep_info.DepInfo.{DepInfo}
use Rattle.pb_directive.specs.declared.fault.Problem.{Problem}
use Rattle.pb_directive.specs.declared.fault.Problem.TheVariants as problem

abbrev Answer : Type 0
Answer = Result DepInfo Problem

abbrev Bad : Answer
Bad = Err problem.BadValue

-- a name, and what stands behind it
name_so : (name value : List ℕ) → IsUncut name → IsValue value → before_first (λ b. eqb b 61) (name ++ value) ≡ name
name_so name [] whole ends = sym (name_none (name ++ []) (sym (cut_nowhere 61 (name ++ []) (ap (has_byte 61) (append-nil name) ∙ whole)))) ∙ append-nil name
name_so name (b ∷ value) whole ends =
    ap (λ x. before_first (λ b. eqb b 61) (name ++ x ∷ value)) ends ∙ sym (name_some (name ++ 61 ∷ value) name value (sym (cut_there 61 name value whole)))

record HasName (text : List ℕ) : Type 0 where
  name : List ℕ
  value : List ℕ
  is : text ≡ name ++ value
  whole : IsUncut name
  ends : IsValue value
  read : before_first (λ b. eqb b 61) text ≡ name

name_view : (text : List ℕ) → HasName text
name_view text = by (split_first 61 text) refl
  where
    by : (o : Option (List ℕ × List ℕ)) → split_first 61 text ≡ o → HasName text
    by None at = record { name = text; value = []; is = sym (append-nil text); whole = absent_of 61 text at; ends = tt; read = sym (name_none text (sym at)) }
    by (Some p) at =
        let around = around_of 61 text p.0 p.1 at in
        record { name = p.0; value = 61 ∷ p.1; is = around.whole; whole = around.first; ends = refl; read = sym (name_some text p.0 p.1 (sym at)) }

abbrev named : List ℕ → Answer
named name = if is_empty name then Bad else (if has_byte 0 name then Bad else Ok (one_variable name))

named_filled : (name : List ℕ) → IsFilled name → named name ≡ Ok (one_variable name)
named_filled [] filled = absurd (filled.0 refl)
named_filled (b ∷ name) filled =
    ap (λ r. if r then Bad else (if has_byte 0 (b ∷ name) then Bad else Ok (one_variable (b ∷ name)))) (not_empty b name) ∙ ap (λ r. if r then Bad else Ok (one_variable (b ∷ name))) filled.1

named_view : (name : List ℕ) → IsFilled name ⊎ ((named name ≡ Bad) × (IsFilled name → ⊥))
named_view [] = inr (refl, λ filled. filled.0 refl)
named_view (b ∷ name) = by (has_byte 0 (b ∷ name)) refl
  where
    some : b ∷ name ≢ []
    some same = cc

    by : (r : Bool) → has_byte 0 (b ∷ name) ≡ r → IsFilled (b ∷ name) ⊎ ((named (b ∷ name) ≡ Bad) × (IsFilled (b ∷ name) → ⊥))
    by true at = inr (
      ap (λ r. if r then Bad else (if has_byte 0 (b ∷ name) then Bad else Ok (one_variable (b ∷ name)))) (not_empty b name) ∙ ap (λ r. if r then Bad else Ok (one_variable (b ∷ name))) at,
      λ filled. (let other : true ≡ false = sym at ∙ filled.1 in cc),
    )
    by false at = inl (some, at)

unfilled_so : (name : List ℕ) → (IsFilled name → ⊥) → named name ≡ Bad
unfilled_so name unfilled = elim (named_view name) [ inl filled ↦ absurd (unfilled filled) | inr bad ↦ bad.0 ]

variable_so : (name value : List ℕ) → IsUncut name → IsValue value → variable_info (name ++ value) ≡ named name
variable_so name value whole ends = ap named (name_so name value whole ends)

-- a rule
rule_so : (rest : List ℕ) → IsPlain rest → rule_info (Some rest) ≡ Ok (only_words (rule_words rest))
rule_so rest plain = ap (λ r. if r then Bad else Ok (only_words (rule_words rest))) plain

module _ (text : List ℕ) where
  utf8_so : is_utf8 text ≡ true → text_info (text_of text) ≡ (if is_empty text then Ok nothing else full_line text)
  utf8_so utf8 = ap (λ b. text_info (if b then Some text else None)) utf8

  full_so : is_utf8 text ≡ true → text ≢ [] → text_info (text_of text) ≡ full_line text
  full_so utf8 some = utf8_so utf8 ∙ by text some
    where
      by : (t : List ℕ) → t ≢ [] → (if is_empty t then Ok nothing else full_line t) ≡ full_line t
      by [] full = absurd (full refl)
      by (b ∷ t) full = ap (λ r. if r then Ok nothing else full_line (b ∷ t)) (not_empty b t)

  comment_so : (rest : List ℕ) → text ≡ 35 ∷ rest → full_line text ≡ comment_info (after_prefix (codes "# env-dep:") text)
  comment_so rest is = ap (λ o. if is_some o then comment_info (after_prefix (codes "# env-dep:") text) else rule_info (after_outputs text)) (ap (after_prefix (codes "#")) is ∙ after_prefix-append (codes "#") rest)

  no_comment_so : ((rest : List ℕ) → text ≢ 35 ∷ rest) → full_line text ≡ rule_info (after_outputs text)
  no_comment_so other = by (after_prefix (codes "#") text) refl
    where
      by : (o : Option (List ℕ)) → after_prefix (codes "#") text ≡ o → full_line text ≡ rule_info (after_outputs text)
      by None at = ap (λ o. if is_some o then comment_info (after_prefix (codes "# env-dep:") text) else rule_info (after_outputs text)) at
      by (Some rest) at = absurd (other rest (prefix_there (codes "#") text rest at))

  full_text : (b : ℕ) (rest : List ℕ) → text ≡ b ∷ rest → text ≢ []
  full_text b rest is empty = apart (sym is ∙ empty)
    where
      apart : b ∷ rest ≡ [] → ⊥
      apart same = cc

  -- each case is read so
  info_so : (a : Answer) → IsInfo text a → text_info (text_of text) ≡ a
  info_so _ (words.raw is) = ap (λ b. text_info (if b then Some text else None)) is
  info_so _ (words.empty is) = ap (λ t. text_info (text_of t)) is ∙ ap text_info (text_of-some [] IsUtf8-nil)
  info_so _ (words.comment utf8 rest is other) = full_so utf8 (full_text 35 rest is) ∙ comment_so rest is ∙ by (after_prefix (codes "# env-dep:") text) refl
    where
      by : (o : Option (List ℕ)) → after_prefix (codes "# env-dep:") text ≡ o → comment_info (after_prefix (codes "# env-dep:") text) ≡ Ok nothing
      by None at = ap comment_info at
      by (Some more) at = absurd (other more (prefix_there (codes "# env-dep:") text more at))
  info_so _ (words.variable utf8 name value is whole ends filled) =
      full_so utf8 (full_text 35 (codes " env-dep:" ++ name ++ value) is) ∙ comment_so (codes " env-dep:" ++ name ++ value) is
      ∙ ap comment_info (ap (after_prefix (codes "# env-dep:")) is ∙ after_prefix-append (codes "# env-dep:") (name ++ value)) ∙ variable_so name value whole ends ∙ named_filled name filled
  info_so _ (words.variable_refused utf8 name value is whole ends unfilled) =
      full_so utf8 (full_text 35 (codes " env-dep:" ++ name ++ value) is) ∙ comment_so (codes " env-dep:" ++ name ++ value) is
      ∙ ap comment_info (ap (after_prefix (codes "# env-dep:")) is ∙ after_prefix-append (codes "# env-dep:") (name ++ value)) ∙ variable_so name value whole ends ∙ unfilled_so name unfilled
  info_so _ (words.rule utf8 some no_comment rest behind plain) = full_so utf8 some ∙ no_comment_so no_comment ∙ ap rule_info behind ∙ rule_so rest plain
  info_so _ (words.rule_refused utf8 some no_comment none) = full_so utf8 some ∙ no_comment_so no_comment ∙ by (after_outputs text) refl
    where
      by : (o : Option (List ℕ)) → after_outputs text ≡ o → rule_info o ≡ Bad
      by None at = refl
      by (Some rest) at = by_byte (has_byte 0 rest) refl
        where
          by_byte : (r : Bool) → has_byte 0 rest ≡ r → rule_info (Some rest) ≡ Bad
          by_byte true byte = ap (λ r. if r then Bad else Ok (only_words (rule_words rest))) byte
          by_byte false plain = absurd (none rest at plain)

  -- and one of the cases is there
  abbrev Is : Answer → Type 0
  Is a = IsInfo text a

  found : (a : Answer) → Is a → Is (text_info (text_of text))
  found a is = subst Is (sym (info_so a is)) is

  by_rule : is_utf8 text ≡ true → text ≢ [] → ((rest : List ℕ) → text ≢ 35 ∷ rest) → Is (text_info (text_of text))
  by_rule utf8 some no_comment = by (after_outputs text) refl
    where
      by : (o : Option (List ℕ)) → after_outputs text ≡ o → Is (text_info (text_of text))
      by None at = found _ (words.rule_refused utf8 some no_comment (λ rest other plain. (let both : None ≡ Some rest = sym at ∙ other in cc)))
      by (Some rest) at = by_byte (has_byte 0 rest) refl
        where
          by_byte : (r : Bool) → has_byte 0 rest ≡ r → Is (text_info (text_of text))
          by_byte true byte = found _ (words.rule_refused utf8 some no_comment (λ more other plain.
              (let both : Some rest ≡ Some more = sym at ∙ other in
              let same : rest ≡ more = cc in
              let two : true ≡ false = sym byte ∙ ap (has_byte 0) same ∙ plain in
              cc)))
          by_byte false plain = found _ (words.rule utf8 some no_comment rest at plain)

  by_comment : is_utf8 text ≡ true → (rest : List ℕ) → text ≡ 35 ∷ rest → Is (text_info (text_of text))
  by_comment utf8 rest is = by (after_prefix (codes "# env-dep:") text) refl
    where
      by : (o : Option (List ℕ)) → after_prefix (codes "# env-dep:") text ≡ o → Is (text_info (text_of text))
      by None at = found _ (words.comment utf8 rest is (λ more same. (let both : None ≡ Some more = sym at ∙ ap (after_prefix (codes "# env-dep:")) same ∙ after_prefix-append (codes "# env-dep:") more in cc)))
      by (Some more) at =
          let n = name_view more in
          let whole : text ≡ codes "# env-dep:" ++ n.name ++ n.value = prefix_there (codes "# env-dep:") text more at ∙ ap (λ t. codes "# env-dep:" ++ t) n.is in
          elim (named_view n.name) [
            | inl filled ↦ found _ (words.variable utf8 n.name n.value whole n.whole n.ends filled)
            | inr bad ↦ found _ (words.variable_refused utf8 n.name n.value whole n.whole n.ends bad.1)
          ]

  by_text : is_utf8 text ≡ true → (t : List ℕ) → text ≡ t → Is (text_info (text_of text))
  by_text utf8 [] is = found _ (words.empty is)
  by_text utf8 (b ∷ rest) is = by (eqb b 35) refl
    where
      by : (r : Bool) → eqb b 35 ≡ r → Is (text_info (text_of text))
      by true at = by_comment utf8 rest (is ∙ ap (λ x. x ∷ rest) ((Decides-eqb b 35).0 at))
      by false at = by_rule utf8 (full_text b rest is) (λ more same.
          (let both : b ∷ rest ≡ 35 ∷ more = sym is ∙ same in
          let here : b ≡ 35 = cc in
          let two : true ≡ false = sym ((Decides-eqb b 35).1 here) ∙ at in
          cc))

  info_view : Is (text_info (text_of text))
  info_view = by (is_utf8 text) refl
    where
      by : (b : Bool) → is_utf8 text ≡ b → Is (text_info (text_of text))
      by true utf8 = by_text utf8 text refl
      by false raw = found _ (words.raw raw)

pub infos_say : InfosSay
infos_say line answer = (λ same. subst (IsInfo (strip_carriage_return line)) same (info_view (strip_carriage_return line)), info_so (strip_carriage_return line) answer)
