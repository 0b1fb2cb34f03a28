-- What a line says, key by key, is what is read of it.
use Rattle.std.proofs.Common.{inl, inr, ◌≡◌, ◌⊎◌, ℕ, not, ◌&&◌, Bool, true, false, List, [], ◌∷◌, ◌++◌, Option, None, Some, Ok, Err, Result, refl, sym, ◌∙◌, ap, subst, eqb, if◌then◌else◌, codes}
use Rattle.std.proofs.lemmas.Bool.Decides.{Decides-eqb}
use Rattle.std.proofs.lemmas.Slice.Eq.{bytes_eq-Decides}
use Rattle.std.specs.Str.{bytes_eq, is_utf8}
use Rattle.pb_data.specs.UnlessOom.{◌>>=◌}
use Rattle.pb_directive.proofs.KeyLemmas.{name_of, said_at, new_said_at, common, View, key_view, sample, old_named, new_named}
use Rattle.pb_directive.proofs.RuleLemmas.{around_of, absent_of}
use Rattle.pb_directive.proofs.SettingLemmas.{plain_view, plain_so, filled_view, filled_so, cut_there, cut_nowhere, prefix_there}
use Rattle.pb_directive.proofs.TextLemmas.{after_prefix-append}
use Rattle.pb_directive.specs.Directives.{plain, key_of, new_key_of, one, directives_at, known, new_setting, metadata, or_metadata, old_setting, old_line, new_line, text_directives, line_directives}
use Rattle.pb_directive.specs.LineWords as words
use Rattle.pb_directive.specs.LineWords.{IsPlain, IsSaid, IsSaidNew, IsSaidOld, IsUnknown, IsOld, problem_at, IsSetting, MeansLine, LinesSay}
use Rattle.pb_directive.specs.Lines.{after_prefix, has_byte, split_first, text_of, trimmed}
use Rattle.pb_directive.specs.declared.directive.Directive.{Directive}
use Rattle.pb_directive.specs.declared.directive.Directive.TheVariants as says
use Rattle.pb_directive.specs.declared.directive.Key.{Key}
use Rattle.pb_directive.specs.declared.fault.Problem.{Problem}
use Rattle.pb_directive.specs.declared.fault.Problem.TheVariants as problem

abbrev Answer : Type 0
Answer = Result (List Directive) Problem

apart : {A : Type 0} (said : A) (p : Problem) (answer : Result A Problem) → answer ≡ Ok said → answer ≡ Err p → ⊥
apart said p answer one other = let no : Ok said ≡ Err p = sym one ∙ other in cc

-- keys that are not known
unknown_new : (name : List ℕ) → new_key_of name ≡ None → IsUnknown IsSaidNew name
unknown_new name at value said is = let s = new_said_at name value said is in let no : None ≡ Some s.k = sym at ∙ s.new in cc

unknown_old : (name : List ℕ) → key_of name ≡ None → IsUnknown IsSaid name
unknown_old name at value said is = let s = said_at name value said is in let no : None ≡ Some s.k = sym at ∙ s.old in cc

none_new : (name : List ℕ) → IsUnknown IsSaidNew name → new_key_of name ≡ None
none_new name unknown = by (new_key_of name) refl
  where
    by : (o : Option Key) → new_key_of name ≡ o → o ≡ None
    by None at = refl
    by (Some k) at = let s = sample k in absurd (unknown s.0 s.1 (subst (λ n. IsSaidNew n s.0 s.1) (sym (new_named name k at)) s.2))

-- what is told of a value
new_view : (name value : List ℕ) (k : Key) → name ≡ name_of k → View name value (directives_at k value)
new_view name value k called = subst (λ n. View n value (directives_at k value)) (sym called) (key_view k value)

-- after `cargo::`
record IsRefused (Says : List Directive → Type 0) (answer : Answer) (p : Problem) : Type 0 where
  told : answer ≡ Err p
  unsaid : (said : List Directive) → Says said → ⊥

new_told : (name value : List ℕ) (k : Key) → new_key_of name ≡ Some k → ((said : List Directive) × (known (Some k) value ≡ Ok said) × IsSaidNew name value said) ⊎ IsRefused (IsSaidNew name value) (known (Some k) value) (problem_at name value)
new_told name value k at = elim (new_view name value k (new_named name k at)) [
  | inl is ↦ inl is
  | inr bad ↦ inr (record {
    told = bad;
    unsaid = λ said is. (let s = new_said_at name value said is in
        let both : Some s.k ≡ Some k = sym s.new ∙ at in
        let same : s.k ≡ k = cc in
        apart said (problem_at name value) (directives_at k value) (ap (λ x. directives_at x value) (sym same) ∙ s.read) bad);
  })
]

-- after `cargo:`
metadata_so : (name value : List ℕ) → words.IsFilled name → IsPlain value → metadata name value ≡ Ok (says.Metadata name value)
metadata_so name value is clean =
    ap (λ (r : Result (List ℕ) Problem). r >>= (λ k. plain value >>= (λ v. Ok (says.Metadata k v)))) (filled_so name is) ∙ ap (λ (r : Result (List ℕ) Problem). r >>= (λ v. Ok (says.Metadata name v))) (plain_so value clean)

old_bad : (name value : List ℕ) → key_of name ≡ None → problem_at name value ≡ problem.BadValue
old_bad name value at = by (bytes_eq name (codes "rustc-flags")) refl
  where
    by : (b : Bool) → bytes_eq name (codes "rustc-flags") ≡ b → problem_at name value ≡ problem.BadValue
    by true same = absurd (no (sym (ap key_of ((bytes_eq-Decides name (codes "rustc-flags")).0 same)) ∙ at))
      where
        no : key_of (codes "rustc-flags") ≡ None → ⊥
        no e = cc
    by false other = ap (λ b. if b && not (has_byte 0 value) then problem.BadFlag else problem.BadValue) other

old_told : (name value : List ℕ) (o : Option Key) → key_of name ≡ o → ((said : List Directive) × (or_metadata o name value ≡ Ok said) × IsSaidOld name value said) ⊎ IsRefused (IsSaidOld name value) (or_metadata o name value) (problem_at name value)
old_told name value None at = elim (filled_view name) [
  | inl is ↦ (elim (plain_view value) [
    | inl clean ↦ inl (says.Metadata name value ∷ [], ap (λ (r : Result Directive Problem). r >>= one) (metadata_so name value is.0 clean.0), words.metadata (unknown_old name at) is.0 clean.0 refl)
    | inr bad ↦ inr (refused (ap (λ (r : Result (List ℕ) Problem). r >>= (λ k. plain value >>= (λ v. Ok (says.Metadata k v)))) is.1 ∙ ap (λ (r : Result (List ℕ) Problem). r >>= (λ v. Ok (says.Metadata name v))) bad.1))
  ])
  | inr bad ↦ inr (refused (ap (λ (r : Result (List ℕ) Problem). r >>= (λ k. plain value >>= (λ v. Ok (says.Metadata k v)))) bad))
]
  where
    refused : metadata name value ≡ Err problem.BadValue → IsRefused (IsSaidOld name value) (or_metadata None name value) (problem_at name value)
    refused told = record { told = ap (λ (r : Result Directive Problem). r >>= one) told ∙ ap Err (sym (old_bad name value at)); unsaid = nothing }
      where
        nothing : (said : List Directive) → IsSaidOld name value said → ⊥
        nothing said (words.known is) = unknown_old name at value said is
        nothing said (words.metadata other is clean same) = apart (says.Metadata name value) problem.BadValue (metadata name value) (metadata_so name value is clean) told
old_told name value (Some k) at = elim (new_view name value k (old_named name k at)) [
  | inl is ↦ inl (is.0, is.1, words.known (common name value is.0 k at is.2))
  | inr bad ↦ inr (record { told = bad; unsaid = nothing bad })
]
  where
    nothing : directives_at k value ≡ Err (problem_at name value) → (said : List Directive) → IsSaidOld name value said → ⊥
    nothing told said (words.known is) =
        let s = said_at name value said is in
        let both : Some s.k ≡ Some k = sym s.old ∙ at in
        let same : s.k ≡ k = cc in
        apart said (problem_at name value) (directives_at k value) (ap (λ x. directives_at x value) (sym same) ∙ s.read) told
    nothing told said (words.metadata other is clean same) =
        let s = sample k in
        other s.0 s.1 (common name s.0 s.1 k at (subst (λ n. IsSaidNew n s.0 s.1) (sym (old_named name k at)) s.2))

-- Lines.

utf8_so : (text : List ℕ) → is_utf8 text ≡ true → text_of text ≡ Some text
utf8_so text is = ap (λ b. if b then Some text else None) is

-- a key behind a prefix
new_there : (line key value : List ℕ) → IsSetting line (codes "cargo::") key value → line_directives line ≡ known (new_key_of key) value
new_there line key value at =
    ap text_directives (utf8_so (trimmed line) at.text) ∙ ap (λ o. new_line o (trimmed line)) (ap (after_prefix (codes "cargo::")) at.whole ∙ after_prefix-append (codes "cargo::") (key ++ 61 ∷ value)) ∙ ap new_setting (cut_there 61 key value at.first)

no_colon : (key value : List ℕ) → IsOld key → after_prefix (codes "cargo::") (codes "cargo:" ++ key ++ 61 ∷ value) ≡ None
no_colon [] value is_old = refl
no_colon (b ∷ key) value is_old = by (eqb 58 b) refl
  where
    by : (r : Bool) → eqb 58 b ≡ r → after_prefix (codes "cargo::") (codes "cargo:" ++ (b ∷ key) ++ 61 ∷ value) ≡ None
    by true at = absurd (is_old key (ap (λ x. x ∷ key) (sym ((Decides-eqb 58 b).0 at))))
    by false at = ap (λ r. if r then Some (key ++ 61 ∷ value) else None) at

old_there : (line key value : List ℕ) → IsSetting line (codes "cargo:") key value → IsOld key → line_directives line ≡ or_metadata (key_of key) key value
old_there line key value at is_old =
    ap text_directives (utf8_so (trimmed line) at.text) ∙ ap (λ o. new_line o (trimmed line)) (ap (after_prefix (codes "cargo::")) at.whole ∙ no_colon key value is_old)
    ∙ ap old_line (ap (after_prefix (codes "cargo:")) at.whole ∙ after_prefix-append (codes "cargo:") (key ++ 61 ∷ value)) ∙ ap old_setting (cut_there 61 key value at.first)

-- what is read of a line is what it says
line_view : (line : List ℕ) → MeansLine line (line_directives line)
line_view line = by (is_utf8 (trimmed line)) refl
  where
    So : Answer → Type 0
    So answer = MeansLine line answer

    silently : (read : line_directives line ≡ Ok []) → ((setting : List ℕ) → is_utf8 (trimmed line) ≡ true → trimmed line ≡ codes "cargo::" ++ setting → ⊥) → ((key value : List ℕ) → IsSetting line (codes "cargo:") key value → ⊥)
        → So (line_directives line)
    silently read no_new no_old = subst So (sym read) (words.silent no_new no_old)

    new_key : (text : is_utf8 (trimmed line) ≡ true) (key value : List ℕ) → IsSetting line (codes "cargo::") key value → (o : Option Key) → new_key_of key ≡ o → So (line_directives line)
    new_key text key value at None is = subst So (sym (new_there line key value at ∙ ap (λ o. known o value) is)) (words.new_unknown key value at (unknown_new key is))
    new_key text key value at (Some k) is = elim (new_told key value k is) [
      | inl said ↦ subst So (sym (new_there line key value at ∙ ap (λ o. known o value) is ∙ said.1)) (words.new key value said.0 at said.2)
      | inr refused ↦ subst So (sym (new_there line key value at ∙ ap (λ o. known o value) is ∙ refused.told))
          (words.new_refused key value at (λ unknown. (let no : Some k ≡ None = sym is ∙ none_new key unknown in cc)) refused.unsaid)
    ]

    new_text : (text : is_utf8 (trimmed line) ≡ true) (setting : List ℕ) → after_prefix (codes "cargo::") (trimmed line) ≡ Some setting → (o : Option (List ℕ × List ℕ)) → split_first 61 setting ≡ o → So (line_directives line)
    new_text text setting begins None at =
        subst So (sym (ap text_directives (utf8_so (trimmed line) text) ∙ ap (λ o. new_line o (trimmed line)) begins ∙ ap new_setting at))
        (words.new_without_value setting text (prefix_there (codes "cargo::") (trimmed line) setting begins) (absent_of 61 setting at))
    new_text text setting begins (Some p) at =
        let around = around_of 61 setting p.0 p.1 at in
        new_key text p.0 p.1 (record { text = text; whole = prefix_there (codes "cargo::") (trimmed line) setting begins ∙ ap (λ s. codes "cargo::" ++ s) around.whole; first = around.first }) (new_key_of p.0) refl

    no_new : after_prefix (codes "cargo::") (trimmed line) ≡ None → (setting : List ℕ) → is_utf8 (trimmed line) ≡ true → trimmed line ≡ codes "cargo::" ++ setting → ⊥
    no_new lacks setting text whole = let no : None ≡ Some setting = sym lacks ∙ ap (after_prefix (codes "cargo::")) whole ∙ after_prefix-append (codes "cargo::") setting in cc

    old_key : (key value : List ℕ) → IsSetting line (codes "cargo:") key value → IsOld key → So (line_directives line)
    old_key key value at is_old = elim (old_told key value (key_of key) refl) [
      | inl said ↦ subst So (sym (old_there line key value at is_old ∙ said.1)) (words.old key value said.0 at is_old said.2)
      | inr refused ↦ subst So (sym (old_there line key value at is_old ∙ refused.told)) (words.old_refused key value at is_old refused.unsaid)
    ]

    old_text : (text : is_utf8 (trimmed line) ≡ true) (setting : List ℕ) → after_prefix (codes "cargo::") (trimmed line) ≡ None → after_prefix (codes "cargo:") (trimmed line) ≡ Some setting → (o : Option (List ℕ × List ℕ)) → split_first 61 setting ≡ o
        → So (line_directives line)
    old_text text setting lacks begins None at =
        silently (ap text_directives (utf8_so (trimmed line) text) ∙ ap (λ o. new_line o (trimmed line)) lacks ∙ ap old_line begins ∙ ap old_setting at) (no_new lacks)
        (λ key value is. (let both : Some setting ≡ Some (key ++ 61 ∷ value) = sym begins ∙ ap (after_prefix (codes "cargo:")) is.whole ∙ after_prefix-append (codes "cargo:") (key ++ 61 ∷ value) in
        let same : setting ≡ key ++ 61 ∷ value = cc in
        let no : None ≡ Some (key, value) = sym at ∙ ap (split_first 61) same ∙ cut_there 61 key value is.first in
        cc))
    old_text text setting lacks begins (Some p) at =
        let around = around_of 61 setting p.0 p.1 at in
        let whole : trimmed line ≡ codes "cargo:" ++ p.0 ++ 61 ∷ p.1 = prefix_there (codes "cargo:") (trimmed line) setting begins ∙ ap (λ s. codes "cargo:" ++ s) around.whole in
        old_key p.0 p.1 (record { text = text; whole = whole; first = around.first })
        (λ rest same. (let no : None ≡ Some (rest ++ 61 ∷ p.1) = sym lacks ∙ ap (after_prefix (codes "cargo::")) (whole ∙ ap (λ k. codes "cargo:" ++ k ++ 61 ∷ p.1) same) ∙ after_prefix-append (codes "cargo::") (rest ++ 61 ∷ p.1) in cc))

    second : (text : is_utf8 (trimmed line) ≡ true) → after_prefix (codes "cargo::") (trimmed line) ≡ None → (o : Option (List ℕ)) → after_prefix (codes "cargo:") (trimmed line) ≡ o → So (line_directives line)
    second text lacks None at =
        silently (ap text_directives (utf8_so (trimmed line) text) ∙ ap (λ o. new_line o (trimmed line)) lacks ∙ ap old_line at) (no_new lacks)
        (λ key value is. (let no : None ≡ Some (key ++ 61 ∷ value) = sym at ∙ ap (after_prefix (codes "cargo:")) is.whole ∙ after_prefix-append (codes "cargo:") (key ++ 61 ∷ value) in cc))
    second text lacks (Some setting) at = old_text text setting lacks at (split_first 61 setting) refl

    first : (text : is_utf8 (trimmed line) ≡ true) (o : Option (List ℕ)) → after_prefix (codes "cargo::") (trimmed line) ≡ o → So (line_directives line)
    first text None at = second text at (after_prefix (codes "cargo:") (trimmed line)) refl
    first text (Some setting) at = new_text text setting at (split_first 61 setting) refl

    by : (b : Bool) → is_utf8 (trimmed line) ≡ b → So (line_directives line)
    by true text = first text (after_prefix (codes "cargo::") (trimmed line)) refl
    by false raw =
        silently (ap (λ b. text_directives (if b then Some (trimmed line) else None)) raw) (λ setting text whole. (let no : true ≡ false = sym text ∙ raw in cc)) (λ key value is. (let no : true ≡ false = sym is.text ∙ raw in cc))

-- and what it says is read
line_so : (line : List ℕ) (answer : Answer) → MeansLine line answer → line_directives line ≡ answer
line_so line _ (words.new key value said at is) = let s = new_said_at key value said is in new_there line key value at ∙ ap (λ o. known o value) s.new ∙ s.read
line_so line _ (words.new_unknown key value at unknown) = new_there line key value at ∙ ap (λ o. known o value) (none_new key unknown)
line_so line _ (words.new_refused key value at some unsaid) = by (new_key_of key) refl
  where
    by : (o : Option Key) → new_key_of key ≡ o → line_directives line ≡ Err (problem_at key value)
    by None is = absurd (some (unknown_new key is))
    by (Some k) is = elim (new_told key value k is) [
      | inl said ↦ absurd (unsaid said.0 said.2)
      | inr refused ↦ new_there line key value at ∙ ap (λ o. known o value) is ∙ refused.told
    ]
line_so line _ (words.new_without_value setting text whole first) =
    ap text_directives (utf8_so (trimmed line) text) ∙ ap (λ o. new_line o (trimmed line)) (ap (after_prefix (codes "cargo::")) whole ∙ after_prefix-append (codes "cargo::") setting) ∙ ap new_setting (cut_nowhere 61 setting first)
line_so line _ (words.old key value said at is_old is) = old_there line key value at is_old ∙ by is
  where
    by : IsSaidOld key value said → or_metadata (key_of key) key value ≡ Ok said
    by (words.known known_so) = let s = said_at key value said known_so in ap (λ o. or_metadata o key value) s.old ∙ s.read
    by (words.metadata other filled_so clean same) = by_key (key_of key) refl
      where
        by_key : (o : Option Key) → key_of key ≡ o → or_metadata o key value ≡ Ok said
        by_key None none = ap (λ (r : Result Directive Problem). r >>= one) (metadata_so key value filled_so clean) ∙ ap Ok (sym same)
        by_key (Some k) found = let s = sample k in absurd (other s.0 s.1 (common key s.0 s.1 k found (subst (λ n. IsSaidNew n s.0 s.1) (sym (old_named key k found)) s.2)))
line_so line _ (words.old_refused key value at is_old unsaid) = elim (old_told key value (key_of key) refl) [
  | inl said ↦ absurd (unsaid said.0 said.2)
  | inr refused ↦ old_there line key value at is_old ∙ refused.told
]
line_so line _ (words.silent no_new no_old) = by (is_utf8 (trimmed line)) refl
  where
    old_text : (text : is_utf8 (trimmed line) ≡ true) (o : Option (List ℕ)) → after_prefix (codes "cargo:") (trimmed line) ≡ o → old_line o ≡ Ok []
    old_text text None at = refl
    old_text text (Some setting) at = by_cut (split_first 61 setting) refl
      where
        by_cut : (o : Option (List ℕ × List ℕ)) → split_first 61 setting ≡ o → old_setting o ≡ Ok []
        by_cut None cut = refl
        by_cut (Some p) cut =
            let around = around_of 61 setting p.0 p.1 cut in
            absurd (no_old p.0 p.1 (record { text = text; whole = prefix_there (codes "cargo:") (trimmed line) setting at ∙ ap (λ s. codes "cargo:" ++ s) around.whole; first = around.first }))

    by_prefix : (text : is_utf8 (trimmed line) ≡ true) (o : Option (List ℕ)) → after_prefix (codes "cargo::") (trimmed line) ≡ o → new_line o (trimmed line) ≡ Ok []
    by_prefix text None at = old_text text (after_prefix (codes "cargo:") (trimmed line)) refl
    by_prefix text (Some setting) at = absurd (no_new setting text (prefix_there (codes "cargo::") (trimmed line) setting at))

    by : (b : Bool) → is_utf8 (trimmed line) ≡ b → line_directives line ≡ Ok []
    by true text = ap text_directives (utf8_so (trimmed line) text) ∙ by_prefix text (after_prefix (codes "cargo::") (trimmed line)) refl
    by false raw = ap (λ b. text_directives (if b then Some (trimmed line) else None)) raw

pub lines_say : LinesSay
lines_say line answer = (λ read. subst (MeansLine line) read (line_view line), line_so line answer)
