-- What keys say with their values is what is read of them, and what is refused is refused so.
use Rattle.std.proofs.Common.{inl, inr, ◌≡◌, ◌≢◌, ◌⊎◌, ℕ, ◌||◌, Bool, true, false, List, [], ◌∷◌, ◌++◌, Option, None, Some, Ok, Err, Result, refl, sym, ◌∙◌, ap, subst, length, arith, eqb, if◌then◌else◌, codes}
use Rattle.std.proofs.lemmas.Bool.Decides.{Decides-eqb}
use Rattle.std.proofs.lemmas.Slice.Eq.{bytes_eq-Decides}
use Rattle.std.specs.Str.{bytes_eq}
use Rattle.pb_data.specs.UnlessOom.{◌>>=◌}
use Rattle.pb_directive.proofs.RuleLemmas.{around_of, absent_of}
use Rattle.pb_directive.specs.Directives.{is_empty, plain, filled, variable, halves_of, halves, named_value, flag_name, search_flag, library_flag, flag_of, flags_of}
use Rattle.pb_directive.specs.LineWords as words
use Rattle.pb_directive.specs.LineWords.{IsPlain, IsFilled, IsUncut, AreFlags}
use Rattle.pb_directive.specs.Lines.{after_prefix, has_byte, split_first}
use Rattle.pb_directive.specs.declared.directive.Directive.{Directive}
use Rattle.pb_directive.specs.declared.directive.Directive.TheVariants as says
use Rattle.pb_directive.specs.declared.fault.Problem.{Problem}
use Rattle.pb_directive.specs.declared.fault.Problem.TheVariants as problem

-- The first `=`.

has_it : (byte : ℕ) (part rest : List ℕ) → has_byte byte (part ++ byte ∷ rest) ≡ true
has_it byte [] rest = ap (λ b. b || has_byte byte rest) ((Decides-eqb byte byte).1 refl)
has_it byte (b ∷ part) rest = by (eqb b byte) (has_it byte part rest)
  where
    by : (r : Bool) → has_byte byte (part ++ byte ∷ rest) ≡ true → (r || has_byte byte (part ++ byte ∷ rest)) ≡ true
    by true later = refl
    by false later = later

-- it parts a text in one way
record IsOneCut (a b x y : List ℕ) : Type 0 where
  front : a ≡ b
  behind : x ≡ y

one_cut : (byte : ℕ) (a b x y : List ℕ) → has_byte byte a ≡ false → has_byte byte b ≡ false → a ++ byte ∷ x ≡ b ++ byte ∷ y → IsOneCut a b x y
one_cut byte [] [] x y first second same = record { front = refl; behind = cc }
one_cut byte [] (c ∷ b) x y first second same =
    let here : c ≡ byte = cc in
    let no : true ≡ false = sym (ap (λ r. r || has_byte byte b) ((Decides-eqb c byte).1 here)) ∙ second in
    cc
one_cut byte (c ∷ a) [] x y first second same =
    let here : c ≡ byte = cc in
    let no : true ≡ false = sym (ap (λ r. r || has_byte byte a) ((Decides-eqb c byte).1 here)) ∙ first in
    cc
one_cut byte (c ∷ a) (d ∷ b) x y first second same =
    let here : c ≡ d = cc in
    let later : a ++ byte ∷ x ≡ b ++ byte ∷ y = cc in
    let rest = one_cut byte a b x y (second_of (eqb c byte) (has_byte byte a) first) (second_of (eqb d byte) (has_byte byte b) second) later in
    record { front = ap (λ z. z ∷ a) here ∙ ap (λ zs. d ∷ zs) rest.front; behind = rest.behind }
  where
    second_of : (r s : Bool) → (r || s) ≡ false → s ≡ false
    second_of true s h = cc
    second_of false s h = h

pub cut_there : (byte : ℕ) (part rest : List ℕ) → has_byte byte part ≡ false → split_first byte (part ++ byte ∷ rest) ≡ Some (part, rest)
cut_there byte part rest absent = by (split_first byte (part ++ byte ∷ rest)) refl
  where
    by : (o : Option (List ℕ × List ℕ)) → split_first byte (part ++ byte ∷ rest) ≡ o → o ≡ Some (part, rest)
    by None at = let no : true ≡ false = sym (has_it byte part rest) ∙ absent_of byte (part ++ byte ∷ rest) at in cc
    by (Some p) at =
        let around = around_of byte (part ++ byte ∷ rest) p.0 p.1 at in
        let same = one_cut byte p.0 part p.1 rest around.first absent (sym around.whole) in
        ap (λ x. Some (x, p.1)) same.front ∙ ap (λ y. Some (part, y)) same.behind

pub cut_nowhere : (byte : ℕ) (text : List ℕ) → has_byte byte text ≡ false → split_first byte text ≡ None
cut_nowhere byte text absent = by (split_first byte text) refl
  where
    by : (o : Option (List ℕ × List ℕ)) → split_first byte text ≡ o → o ≡ None
    by None at = refl
    by (Some p) at =
        let around = around_of byte text p.0 p.1 at in
        let no : true ≡ false = sym (has_it byte p.0 p.1) ∙ sym (ap (has_byte byte) around.whole) ∙ absent in
        cc

-- The forms of values: each is read, or refused.

pub not_empty : (b : ℕ) (text : List ℕ) → is_empty (b ∷ text) ≡ false
not_empty b text = by (is_empty (b ∷ text)) refl
  where
    by : (r : Bool) → is_empty (b ∷ text) ≡ r → r ≡ false
    by true at = let none : length (b ∷ text) ≡ 0 = (Decides-eqb (length (b ∷ text)) 0).0 at in absurd (omega arith)
    by false at = refl

abbrev Bad : Result (List ℕ) Problem
Bad = Err problem.BadValue

pub plain_so : (value : List ℕ) → IsPlain value → plain value ≡ Ok value
plain_so value is = ap (λ r. if r then Bad else Ok value) is

pub plain_view : (value : List ℕ) → (IsPlain value × (plain value ≡ Ok value)) ⊎ ((has_byte 0 value ≡ true) × (plain value ≡ Bad))
plain_view value = by (has_byte 0 value) refl
  where
    by : (r : Bool) → has_byte 0 value ≡ r → (IsPlain value × (plain value ≡ Ok value)) ⊎ ((has_byte 0 value ≡ true) × (plain value ≡ Bad))
    by true at = inr (at, ap (λ r. if r then Bad else Ok value) at)
    by false at = inl (at, plain_so value at)

pub filled_so : (value : List ℕ) → IsFilled value → filled value ≡ Ok value
filled_so [] is = absurd (is.0 refl)
filled_so (b ∷ value) is = ap (λ r. if r then Bad else plain (b ∷ value)) (not_empty b value) ∙ plain_so (b ∷ value) is.1

pub filled_view : (value : List ℕ) → (IsFilled value × (filled value ≡ Ok value)) ⊎ (filled value ≡ Bad)
filled_view [] = inr refl
filled_view (b ∷ value) = elim (plain_view (b ∷ value)) [ inl is ↦ inl ((some, is.0), filled_so (b ∷ value) (some, is.0)) | inr bad ↦ inr (ap (λ r. if r then Bad else plain (b ∷ value)) (not_empty b value) ∙ bad.1) ]
  where
    some : b ∷ value ≢ []
    some e = cc

pub variable_so : (value : List ℕ) → IsFilled value → IsUncut value → variable value ≡ Ok value
variable_so value is whole = ap (λ r. if r then Bad else filled value) whole ∙ filled_so value is

pub variable_view : (value : List ℕ) → ((IsFilled value × IsUncut value) × (variable value ≡ Ok value)) ⊎ (variable value ≡ Bad)
variable_view value = by (has_byte 61 value) refl (filled_view value)
  where
    by : (r : Bool) → has_byte 61 value ≡ r → (IsFilled value × (filled value ≡ Ok value)) ⊎ (filled value ≡ Bad) → ((IsFilled value × IsUncut value) × (variable value ≡ Ok value)) ⊎ (variable value ≡ Bad)
    by true at view = inr (ap (λ r. if r then Bad else filled value) at)
    by false at (inl is) = inl ((is.0, at), variable_so value is.0 at)
    by false at (inr bad) = inr (ap (λ r. if r then Bad else filled value) at ∙ bad)

abbrev Pair : Type 0
Pair = Result (List ℕ × List ℕ) Problem

abbrev BadPair : Pair
BadPair = Err problem.BadValue

-- two halves
pub record AreHalves (value : List ℕ) : Type 0 where
  pub name : List ℕ
  pub text : List ℕ
  pub whole : value ≡ name ++ 61 ∷ text
  pub first : IsUncut name
  pub clean : IsPlain value
  pub read : halves value ≡ Ok (name, text)

pub halves_so : (name text : List ℕ) → IsUncut name → IsPlain (name ++ 61 ∷ text) → halves (name ++ 61 ∷ text) ≡ Ok (name, text)
halves_so name text first is = ap (λ (r : Result (List ℕ) Problem). r >>= (λ t. halves_of (split_first 61 t))) (plain_so (name ++ 61 ∷ text) is) ∙ ap halves_of (cut_there 61 name text first)

pub halves_view : (value : List ℕ) → AreHalves value ⊎ (halves value ≡ BadPair)
halves_view value = elim (plain_view value) [
  | inl is ↦ by (split_first 61 value) refl is.0 is.1
  | inr bad ↦ inr (ap (λ (r : Result (List ℕ) Problem). r >>= (λ t. halves_of (split_first 61 t))) bad.1)
]
  where
    by : (o : Option (List ℕ × List ℕ)) → split_first 61 value ≡ o → IsPlain value → plain value ≡ Ok value → AreHalves value ⊎ (halves value ≡ BadPair)
    by None at clean read = inr (ap (λ (r : Result (List ℕ) Problem). r >>= (λ t. halves_of (split_first 61 t))) read ∙ ap halves_of at)
    by (Some p) at clean read =
        let around = around_of 61 value p.0 p.1 at in
        inl (record { name = p.0; text = p.1; whole = around.whole; first = around.first; clean = clean; read = ap (λ (r : Result (List ℕ) Problem). r >>= (λ t. halves_of (split_first 61 t))) read ∙ ap halves_of at })

abbrev named : List ℕ × List ℕ → Pair
named p = if is_empty p.0 then BadPair else Ok p

pub named_so : (name text : List ℕ) → name ≢ [] → IsUncut name → IsPlain (name ++ 61 ∷ text) → named_value (name ++ 61 ∷ text) ≡ Ok (name, text)
named_so name text some first is = ap (λ (r : Pair). r >>= named) (halves_so name text first is) ∙ by name some
  where
    by : (n : List ℕ) → n ≢ [] → named (n, text) ≡ Ok (n, text)
    by [] full = absurd (full refl)
    by (b ∷ n) full = ap (λ r. if r then BadPair else Ok (b ∷ n, text)) (not_empty b n)

pub named_view : (value : List ℕ) → ((h : AreHalves value) × (h.name ≢ []) × (named_value value ≡ Ok (h.name, h.text))) ⊎ (named_value value ≡ BadPair)
named_view value = elim (halves_view value) [
  | inl h ↦ by h h.name refl
  | inr bad ↦ inr (ap (λ (r : Pair). r >>= named) bad)
]
  where
    by : (h : AreHalves value) (n : List ℕ) → h.name ≡ n → ((h : AreHalves value) × (h.name ≢ []) × (named_value value ≡ Ok (h.name, h.text))) ⊎ (named_value value ≡ BadPair)
    by h [] at = inr (ap (λ (r : Pair). r >>= named) h.read ∙ ap (λ (n : List ℕ). named (n, h.text)) at)
    by h (b ∷ n) at = inl (h, (λ empty. apart (sym at ∙ empty)), ap (λ (r : Pair). r >>= named) h.read ∙ ap (λ (x : List ℕ). named (x, h.text)) at ∙ ap (λ r. if r then BadPair else Ok (b ∷ n, h.text)) (not_empty b n) ∙ ap (λ (x : List ℕ). Ok (x, h.text)) (sym at))
      where
        apart : b ∷ n ≡ [] → ⊥
        apart e = cc

-- The flags of `rustc-flags`.

abbrev Flag : Type 0
Flag = Result Directive Problem

abbrev Flags : Type 0
Flags = Result (List Directive) Problem

-- a flag in one word
data IsFlag (word : List ℕ) : Type 0 where
  a_library : (name : List ℕ) (some : name ≢ []) (whole : word ≡ codes "-l" ++ name) (read : flag_of word ≡ Ok (says.LinkLib name)) → IsFlag word
  a_search : (name : List ℕ) (some : name ≢ []) (whole : word ≡ codes "-L" ++ name) (read : flag_of word ≡ Ok (says.LinkSearch name)) → IsFlag word
  no_flag : (read : flag_of word ≡ Err problem.BadFlag) → IsFlag word

pub prefix_there : (prefix bytes rest : List ℕ) → after_prefix prefix bytes ≡ Some rest → bytes ≡ prefix ++ rest
prefix_there [] bytes rest at = cc
prefix_there (a ∷ prefix) [] rest at = cc
prefix_there (a ∷ prefix) (b ∷ bytes) rest at = by (eqb a b) refl at (prefix_there prefix bytes rest)
  where
    by : (r : Bool) → eqb a b ≡ r → (if r then after_prefix prefix bytes else None) ≡ Some rest → (after_prefix prefix bytes ≡ Some rest → bytes ≡ prefix ++ rest) → b ∷ bytes ≡ a ∷ prefix ++ rest
    by true is h later = ap (λ x. x ∷ bytes) (sym ((Decides-eqb a b).0 is)) ∙ ap (λ xs. a ∷ xs) (later h)
    by false is h later = cc

flag_named : (b : ℕ) (name : List ℕ) → flag_name (Some (b ∷ name)) ≡ Some (b ∷ name)
flag_named b name = ap (λ r. if r then None else Some (b ∷ name)) (not_empty b name)

flag_view : (word : List ℕ) → IsFlag word
flag_view word = by (after_prefix (codes "-l") word) refl
  where
    other : Flag
    other = search_flag (flag_name (after_prefix (codes "-L") word))

    searches : (o : Option (List ℕ)) → after_prefix (codes "-L") word ≡ o → (flag_of word ≡ other) → IsFlag word
    searches None at read = no_flag (read ∙ ap (λ x. search_flag (flag_name x)) at)
    searches (Some []) at read = no_flag (read ∙ ap (λ x. search_flag (flag_name x)) at)
    searches (Some (b ∷ name)) at read = a_search (b ∷ name) (λ e. apart e) (prefix_there (codes "-L") word (b ∷ name) at) (read ∙ ap (λ x. search_flag (flag_name x)) at ∙ ap search_flag (flag_named b name))
      where
        apart : b ∷ name ≡ [] → ⊥
        apart e = cc

    by : (o : Option (List ℕ)) → after_prefix (codes "-l") word ≡ o → IsFlag word
    by None at = searches (after_prefix (codes "-L") word) refl (ap (λ x. library_flag (flag_name x) other) at)
    by (Some []) at = searches (after_prefix (codes "-L") word) refl (ap (λ x. library_flag (flag_name x) other) at)
    by (Some (b ∷ name)) at = a_library (b ∷ name) (λ e. apart e) (prefix_there (codes "-l") word (b ∷ name) at) (ap (λ x. library_flag (flag_name x) other) at ∙ ap (λ x. library_flag x other) (flag_named b name))
      where
        apart : b ∷ name ≡ [] → ⊥
        apart e = cc

library_so : (b : ℕ) (name : List ℕ) → flag_of (codes "-l" ++ b ∷ name) ≡ Ok (says.LinkLib (b ∷ name))
library_so b name = ap (λ x. library_flag x (search_flag (flag_name (after_prefix (codes "-L") (codes "-l" ++ b ∷ name))))) (flag_named b name)

search_so : (b : ℕ) (name : List ℕ) → flag_of (codes "-L" ++ b ∷ name) ≡ Ok (says.LinkSearch (b ∷ name))
search_so b name = ap search_flag (flag_named b name)

abbrev FlagsView : List (List ℕ) → Type 0
FlagsView ws = ((said : List Directive) × (flags_of ws ≡ Ok said) × AreFlags ws said) ⊎ (flags_of ws ≡ Err problem.BadFlag)

abbrev then_more : Directive → Flags → Flags
then_more flag more = more >>= (λ fs. Ok (flag ∷ fs))

abbrev then_flag : Flag → Flags → Flags
then_flag flag more = flag >>= (λ f. then_more f more)

-- a flag in one word, and those behind it
in_one : (word : List ℕ) (ws : List (List ℕ)) → flags_of (word ∷ ws) ≡ then_flag (flag_of word) (flags_of ws) → IsFlag word → FlagsView ws → FlagsView (word ∷ ws)
in_one word ws reads (a_library name some whole read) (inl more) =
    inl (says.LinkLib name ∷ more.0, reads ∙ ap (λ f. then_flag f (flags_of ws)) read ∙ ap (then_more (says.LinkLib name)) more.1, subst (λ w. AreFlags (w ∷ ws) (says.LinkLib name ∷ more.0)) (sym whole) (words.library name some ws more.0 more.2))
in_one word ws reads (a_library name some whole read) (inr bad) = inr (reads ∙ ap (λ f. then_flag f (flags_of ws)) read ∙ ap (then_more (says.LinkLib name)) bad)
in_one word ws reads (a_search name some whole read) (inl more) =
    inl (says.LinkSearch name ∷ more.0, reads ∙ ap (λ f. then_flag f (flags_of ws)) read ∙ ap (then_more (says.LinkSearch name)) more.1, subst (λ w. AreFlags (w ∷ ws) (says.LinkSearch name ∷ more.0)) (sym whole) (words.search name some ws more.0 more.2))
in_one word ws reads (a_search name some whole read) (inr bad) = inr (reads ∙ ap (λ f. then_flag f (flags_of ws)) read ∙ ap (then_more (says.LinkSearch name)) bad)
in_one word ws reads (no_flag read) more = inr (reads ∙ ap (λ f. then_flag f (flags_of ws)) read)

pub flags_view : (ws : List (List ℕ)) → FlagsView ws
flags_view [] = inl ([], refl, words.none)
flags_view (word ∷ []) = in_one word [] (alone (flag_of word)) (flag_view word) (inl ([], refl, words.none))
  where
    alone : (f : Flag) → (f >>= (λ flag. Ok (flag ∷ []))) ≡ then_flag f (Ok [])
    alone (Ok flag) = refl
    alone (Err e) = refl
flags_view (word ∷ next ∷ ws) = by (bytes_eq word (codes "-l")) (bytes_eq word (codes "-L")) refl refl (flags_view ws) (flags_view (next ∷ ws))
  where
    libraries : Flags
    libraries = then_more (says.LinkLib next) (flags_of ws)

    folders : Flags
    folders = then_more (says.LinkSearch next) (flags_of ws)

    one_word : Flags
    one_word = then_flag (flag_of word) (flags_of (next ∷ ws))

    by : (a b : Bool) → bytes_eq word (codes "-l") ≡ a → bytes_eq word (codes "-L") ≡ b → FlagsView ws → FlagsView (next ∷ ws) → FlagsView (word ∷ next ∷ ws)
    by true b at other (inl more) later =
        inl (
          says.LinkLib next ∷ more.0,
          ap (λ r. if r then libraries else (if bytes_eq word (codes "-L") then folders else one_word)) at ∙ ap (then_more (says.LinkLib next)) more.1,
          subst (λ w. AreFlags (w ∷ next ∷ ws) (says.LinkLib next ∷ more.0)) (sym ((bytes_eq-Decides word (codes "-l")).0 at)) (words.library_next next ws more.0 more.2),
        )
    by true b at other (inr bad) later = inr (ap (λ r. if r then libraries else (if bytes_eq word (codes "-L") then folders else one_word)) at ∙ ap (then_more (says.LinkLib next)) bad)
    by false true at other (inl more) later =
        inl (
          says.LinkSearch next ∷ more.0,
          ap (λ r. if r then libraries else (if bytes_eq word (codes "-L") then folders else one_word)) at ∙ ap (λ r. if r then folders else one_word) other ∙ ap (then_more (says.LinkSearch next)) more.1,
          subst (λ w. AreFlags (w ∷ next ∷ ws) (says.LinkSearch next ∷ more.0)) (sym ((bytes_eq-Decides word (codes "-L")).0 other)) (words.search_next next ws more.0 more.2),
        )
    by false true at other (inr bad) later =
        inr (ap (λ r. if r then libraries else (if bytes_eq word (codes "-L") then folders else one_word)) at ∙ ap (λ r. if r then folders else one_word) other ∙ ap (then_more (says.LinkSearch next)) bad)
    by false false at other more later =
        in_one word (next ∷ ws) (ap (λ r. if r then libraries else (if bytes_eq word (codes "-L") then folders else one_word)) at ∙ ap (λ r. if r then folders else one_word) other) (flag_view word) later

pub flags_so : (ws : List (List ℕ)) (said : List Directive) → AreFlags ws said → flags_of ws ≡ Ok said
flags_so _ _ words.none = refl
flags_so _ _ (words.library [] some ws more behind) = absurd (some refl)
flags_so _ _ (words.library (b ∷ name) some [] more behind) =
    let last : Ok [] ≡ Ok more = flags_so [] more behind in
    ap (λ (f : Flag). f >>= (λ flag. Ok (flag ∷ []))) (library_so b name) ∙ ap (then_more (says.LinkLib (b ∷ name))) last
flags_so _ _ (words.library (b ∷ name) some (next ∷ ws) more behind) = ap (λ f. then_flag f (flags_of (next ∷ ws))) (library_so b name) ∙ ap (then_more (says.LinkLib (b ∷ name))) (flags_so (next ∷ ws) more behind)
flags_so _ _ (words.search [] some ws more behind) = absurd (some refl)
flags_so _ _ (words.search (b ∷ name) some [] more behind) =
    let last : Ok [] ≡ Ok more = flags_so [] more behind in
    ap (λ (f : Flag). f >>= (λ flag. Ok (flag ∷ []))) (search_so b name) ∙ ap (then_more (says.LinkSearch (b ∷ name))) last
flags_so _ _ (words.search (b ∷ name) some (next ∷ ws) more behind) = ap (λ f. then_flag f (flags_of (next ∷ ws))) (search_so b name) ∙ ap (then_more (says.LinkSearch (b ∷ name))) (flags_so (next ∷ ws) more behind)
flags_so _ _ (words.library_next name ws more behind) = ap (then_more (says.LinkLib name)) (flags_so ws more behind)
flags_so _ _ (words.search_next name ws more behind) = ap (then_more (says.LinkSearch name)) (flags_so ws more behind)
