-- A line that declares something says it to the builder.
use Rattle.std.proofs.Common.{◌≡◌, ℕ, not, ◌&&◌, ◌||◌, Bool, true, false, cond, codes, List, [], ◌∷◌, ◌++◌, length, reverse, Some, None, Result, Ok, Err, refl, sym, ◌∙◌, ap, append_assoc, eqb, ltb, arith}
use Rattle.std.proofs.lemmas.List.{append-nil, length-append, reverse-append, reverse-reverse}
use Rattle.std.proofs.lemmas.Bool.{lt-ltb, ltb-true}
use Rattle.std.proofs.lemmas.Str.Ascii.{IsAscii-nil, IsAscii-cons}
use Rattle.std.proofs.lemmas.List.Elements.{All-from_recursion}
use Rattle.std.proofs.lemmas.List.Folds.{list_any-append}
use Rattle.std.proofs.lemmas.List.Splits.{slice_split_none}
use Rattle.std.proofs.lemmas.Str.{IsUtf8-append, IsUtf8-from_ascii, is_utf8-from_IsUtf8}
use Rattle.std.specs.List.{list_all, AllByRecursion}
use Rattle.std.specs.Str.{is_utf8, IsAscii, IsUtf8}
use Rattle.pb_data.specs.UnlessOom.{◌>>=◌, lifted}
use Rattle.pb_directive.proofs.JoinLemmas.{directives-followed_by}
use Rattle.pb_directive.specs.Directives.{is_empty, plain, filled, variable, one, new_setting, text_directives, line_directives, directives_from, directives_of}
use Rattle.pb_directive.specs.Faults.{fault_at}
use Rattle.pb_directive.specs.Laws.{later_by, followed_by, line_count}
use Rattle.pb_directive.specs.Lines.{lines_of, is_blank, trimmed_front, trimmed_end, trimmed, text_of, has_byte}
use Rattle.pb_directive.specs.declared.directive.Directive.{Directive}
use Rattle.pb_directive.specs.declared.directive.Directive.TheVariants.{RerunIfChanged, RerunIfEnvChanged}
use Rattle.pb_directive.specs.declared.fault.Problem.TheVariants.{BadValue}
use Rattle.pb_mini_laws.specs.Said.{ends_visibly, CanBeSaid}
use Rattle.pb_mini_laws.proofs.Parsing.{opened}

-- ---- two texts, one after the other

pub record Parts (text later : List ℕ) (said : List Directive) : Type 0 where
  pub first : List Directive
  pub more : List Directive
  pub one_says : directives_of text ≡ Ok first
  pub other_says : directives_of later ≡ Ok more
  pub both : said ≡ first ++ more

pub lifted_ok : {A E F : Type 0} (wrap : E → F) (r : Result A E) (x : A) → lifted wrap r ≡ Ok x → r ≡ Ok x
lifted_ok wrap (Ok y) x is = let same : y ≡ x = cc in ap Ok same
lifted_ok wrap (Err e) x is = absurd (cc)

pub parts : (text later : List ℕ) (said : List Directive) → directives_of (followed_by text later) ≡ Ok said → Parts text later said
parts text later said is =
    let (first, one_says, is_1) = opened (directives_of text) _ said (sym (directives-followed_by text later) ∙ is) in
    let (more, other_says, is_2) = opened (lifted (later_by (line_count text)) (directives_of later)) _ said is_1 in
    record { first = first; more = more; one_says = one_says; other_says = lifted_ok (later_by (line_count text)) (directives_of later) more other_says; both = cc }

-- ---- one line

ascii : (text : List ℕ) → list_all (λ b. ltb b 128) text ≡ true → IsAscii text
ascii [] all = IsAscii-nil
ascii (b ∷ text) all = by (ltb b 128) refl all (ascii text)
  where
    by : (r : Bool) → ltb b 128 ≡ r → (r && list_all (λ b. ltb b 128) text) ≡ true → (list_all (λ b. ltb b 128) text ≡ true → IsAscii text) → IsAscii (b ∷ text)
    by true low all later = IsAscii-cons b text (ltb-true b 128 low) (later all)
    by false low all later = absurd (cc)

split_ends : (text : List ℕ) → ends_visibly text ≡ true → (front : List ℕ) × (b : ℕ) × (text ≡ front ++ b ∷ []) × (is_blank b ≡ false)
split_ends [] is = absurd (cc)
split_ends (b ∷ []) is = ([], b, refl, seen (is_blank b) is)
  where
    seen : (r : Bool) → not r ≡ true → r ≡ false
    seen true e = absurd (cc)
    seen false e = refl
split_ends (b ∷ c ∷ text) is = let (front, last, same, visible) = split_ends (c ∷ text) is in (b ∷ front, last, ap (λ t. b ∷ t) same, visible)

-- a line that ends visibly is not shortened
kept_end : (front : List ℕ) (b : ℕ) → is_blank b ≡ false → trimmed_end (front ++ b ∷ []) ≡ front ++ b ∷ []
kept_end front b visible =
    ap (λ t. reverse (trimmed_front t)) (reverse-append front (b ∷ []))
    ∙ ap (λ r. reverse (cond r (trimmed_front (reverse front)) (b ∷ reverse front))) visible
    ∙ ap reverse (sym (reverse-append front (b ∷ []))) ∙ reverse-reverse (front ++ b ∷ [])

no_byte : (text : List ℕ) → has_byte 10 text ≡ false → AllByRecursion (λ b. eqb b 10 ≡ false) text
no_byte [] is = tt
no_byte (b ∷ text) is = by (eqb b 10) refl is (no_byte text)
  where
    by : (r : Bool) → eqb b 10 ≡ r → (r || has_byte 10 text) ≡ false → (has_byte 10 text ≡ false → AllByRecursion (λ b. eqb b 10 ≡ false) text) → AllByRecursion (λ b. eqb b 10 ≡ false) (b ∷ text)
    by true at is later = absurd (cc)
    by false at is later = (at, later is)

-- a text of one line says what the line says
one_line_says : (line : List ℕ) (said : List Directive) → has_byte 10 line ≡ false → directives_of line ≡ Ok said → line_directives line ≡ Ok said
one_line_says line said plain is =
    let alone : lines_of line ≡ line ∷ [] = slice_split_none (λ b. eqb b 10) line (All-from_recursion (λ b. eqb b 10 ≡ false) line (no_byte line plain)) in
    let (here, first, is_1) = opened (lifted (fault_at 1) (line_directives line)) _ said (ap (directives_from 1) (sym alone) ∙ is) in
    let same : here ++ [] ≡ said = cc in
    lifted_ok (fault_at 1) (line_directives line) said (first ∙ ap Ok (sym (append-nil here) ∙ same))

is_text : (line : List ℕ) → is_utf8 line ≡ true → text_of line ≡ Some line
is_text line is = ap (λ r. cond r (Some line) None) is

filled_itself : (value path : List ℕ) → filled value ≡ Ok path → value ≡ path
filled_itself value path is = by (is_empty value) (has_byte 0 value) is
  where
    by : (r s : Bool) → cond r (Err BadValue) (cond s (Err BadValue) (Ok value)) ≡ Ok path → value ≡ path
    by true s is = absurd (cc)
    by false true is = absurd (cc)
    by false false is = cc

variable_itself : (value name : List ℕ) → variable value ≡ Ok name → value ≡ name
variable_itself value name is = by (has_byte 61 value) is
  where
    by : (r : Bool) → cond r (Err BadValue) (filled value) ≡ Ok name → value ≡ name
    by true is = absurd (cc)
    by false is = filled_itself value name is

abbrev pub changed : List ℕ → List ℕ
changed path = codes "cargo::rerun-if-changed=" ++ path

abbrev pub env_changed : List ℕ → List ℕ
env_changed name = codes "cargo::rerun-if-env-changed=" ++ name

-- a prefix without a line feed before a text that can be said
trimmed_itself : (prefix : List ℕ) (b : ℕ) (text : List ℕ) → is_blank b ≡ false → CanBeSaid text → trimmed (b ∷ prefix ++ text) ≡ b ∷ prefix ++ text
trimmed_itself prefix b text visible can =
    let (front, last, same, seen) = split_ends text can.ends in
    let whole : b ∷ prefix ++ text ≡ (b ∷ prefix ++ front) ++ last ∷ [] = ap (λ t. b ∷ prefix ++ t) same ∙ sym (append_assoc (b ∷ prefix) front (last ∷ [])) in
    ap (λ r. trimmed_end (cond r (trimmed_front (prefix ++ text)) (b ∷ prefix ++ text))) visible
    ∙ ap trimmed_end whole ∙ kept_end (b ∷ prefix ++ front) last seen ∙ sym whole

pub says_changed : (path : List ℕ) (said : List Directive) → CanBeSaid path → IsUtf8 path → directives_of (changed path) ≡ Ok said → said ≡ RerunIfChanged path ∷ []
says_changed path said can text is =
    let line : line_directives (changed path) ≡ Ok said = one_line_says (changed path) said (list_any-append (λ b. eqb b 10) (codes "cargo::rerun-if-changed=") path ∙ can.one_line) is in
    let kept : trimmed (changed path) ≡ changed path = trimmed_itself (codes "argo::rerun-if-changed=") 99 path refl can in
    let whole : is_utf8 (changed path) ≡ true = is_utf8-from_IsUtf8 (changed path) (IsUtf8-append (codes "cargo::rerun-if-changed=") path (IsUtf8-from_ascii (codes "cargo::rerun-if-changed=") (ascii (codes "cargo::rerun-if-changed=") refl)) text) in
    let read : text_directives (text_of (changed path)) ≡ Ok said = ap (λ t. text_directives (text_of t)) (sym kept) ∙ line in
    let value : (filled path >>= (λ p. one (RerunIfChanged p))) ≡ Ok said =
    sym (ap (λ r. new_setting (cond r (Some (codes "rerun-if-changed", path)) None)) (lt-ltb 16 (length (codes "rerun-if-changed=" ++ path)) (omega (arith, length-append (codes "rerun-if-changed=") path))))
    ∙ ap text_directives (sym (is_text (changed path) whole)) ∙ read in
    let (found, first, made) = opened (filled path) (λ p. one (RerunIfChanged p)) said value in
    let list : RerunIfChanged found ∷ [] ≡ said = cc in
    sym list ∙ ap (λ p. RerunIfChanged p ∷ []) (sym (filled_itself path found first))

pub says_env_changed : (name : List ℕ) (said : List Directive) → CanBeSaid name → IsUtf8 name → directives_of (env_changed name) ≡ Ok said → said ≡ RerunIfEnvChanged name ∷ []
says_env_changed name said can text is =
    let line : line_directives (env_changed name) ≡ Ok said = one_line_says (env_changed name) said (list_any-append (λ b. eqb b 10) (codes "cargo::rerun-if-env-changed=") name ∙ can.one_line) is in
    let kept : trimmed (env_changed name) ≡ env_changed name = trimmed_itself (codes "argo::rerun-if-env-changed=") 99 name refl can in
    let whole : is_utf8 (env_changed name) ≡ true = is_utf8-from_IsUtf8 (env_changed name) (IsUtf8-append (codes "cargo::rerun-if-env-changed=") name (IsUtf8-from_ascii (codes "cargo::rerun-if-env-changed=") (ascii (codes "cargo::rerun-if-env-changed=") refl)) text) in
    let read : text_directives (text_of (env_changed name)) ≡ Ok said = ap (λ t. text_directives (text_of t)) (sym kept) ∙ line in
    let value : (variable name >>= (λ p. one (RerunIfEnvChanged p))) ≡ Ok said =
    sym (ap (λ r. new_setting (cond r (Some (codes "rerun-if-env-changed", name)) None)) (lt-ltb 20 (length (codes "rerun-if-env-changed=" ++ name)) (omega (arith, length-append (codes "rerun-if-env-changed=") name))))
    ∙ ap text_directives (sym (is_text (env_changed name) whole)) ∙ read in
    let (found, first, made) = opened (variable name) (λ p. one (RerunIfEnvChanged p)) said value in
    let list : RerunIfEnvChanged found ∷ [] ≡ said = cc in
    sym list ∙ ap (λ p. RerunIfEnvChanged p ∷ []) (sym (variable_itself name found first))
