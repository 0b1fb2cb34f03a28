-- Lemmas on texts that follow one another.
use Rattle.std.proofs.Common.{◌≡◌, ℕ, ◌+◌, Bool, true, false, cond, List, [], ◌∷◌, ◌++◌, Ok, Err, Result, None, Some, refl, sym, ◌∙◌, ap, subst, append_assoc, arith, length, eqb, if◌then◌else◌, codes}
use Rattle.std.specs.List.{onto_first}
use Rattle.std.specs.Str.{is_utf8}
use Rattle.pb_data.specs.UnlessOom.{◌>>=◌, lifted}
use Rattle.pb_data.specs.OrderedSet.{EachOnce}
use Rattle.pb_data.proofs.MentionLemmas.{once-IsDistinct}
use Rattle.pb_directive.specs.DepInfo.{nothing, joined, line_info, info_from, each_once, dep_info_of, all_names_of}
use Rattle.pb_directive.specs.Directives.{line_directives, directives_from, directives_of, text_directives, new_line, old_line}
use Rattle.pb_directive.specs.Faults.{fault_at}
use Rattle.pb_directive.specs.Laws.{later_by, followed_by, then_said, then_named, line_count}
use Rattle.pb_directive.specs.Lines.{lines_of, trimmed, after_prefix}
use Rattle.pb_directive.specs.declared.dep_info.DepInfo.{DepInfo}
use Rattle.pb_directive.specs.declared.directive.Directive.{Directive}
use Rattle.pb_directive.specs.declared.fault.LineFault.{LineFault}
use Rattle.pb_directive.specs.declared.fault.Problem.{Problem}
use Rattle.pb_directive.specs.declared.fault.Problem.TheVariants as problem

-- ---- lines

onto_append : (b : ℕ) (parts more : List (List ℕ)) (part : List ℕ) (rest : List (List ℕ)) → parts ≡ part ∷ rest → onto_first b (parts ++ more) ≡ onto_first b parts ++ more
onto_append b parts more part rest is = ap (λ ps. onto_first b (ps ++ more)) is ∙ ap (λ ps. onto_first b ps ++ more) (sym is)

record FirstLine (text : List ℕ) : Type 0 where
  line : List ℕ
  rest : List (List ℕ)
  is : lines_of text ≡ line ∷ rest

first_line : (text : List ℕ) → FirstLine text
first_line [] = record { line = []; rest = []; is = refl }
first_line (b ∷ text) = by (eqb b 10) refl (first_line text)
  where
    by : (r : Bool) → eqb b 10 ≡ r → FirstLine text → FirstLine (b ∷ text)
    by true at later = record { line = []; rest = lines_of text; is = ap (λ r. cond r ([] ∷ lines_of text) (onto_first b (lines_of text))) at }
    by false at later = record { line = b ∷ later.line; rest = later.rest; is = ap (λ r. cond r ([] ∷ lines_of text) (onto_first b (lines_of text))) at ∙ ap (onto_first b) later.is }

-- the lines of two texts
pub lines-followed_by : (text more : List ℕ) → lines_of (followed_by text more) ≡ lines_of text ++ lines_of more
lines-followed_by [] more = refl
lines-followed_by (b ∷ text) more = by (eqb b 10) refl (lines-followed_by text more)
  where
    by : (r : Bool) → eqb b 10 ≡ r → lines_of (followed_by text more) ≡ lines_of text ++ lines_of more → lines_of (followed_by (b ∷ text) more) ≡ lines_of (b ∷ text) ++ lines_of more
    by true at later =
        ap (λ r. cond r ([] ∷ lines_of (followed_by text more)) (onto_first b (lines_of (followed_by text more)))) at ∙ ap (λ ls. [] ∷ ls) later
        ∙ ap (λ r. cond r ([] ∷ lines_of text) (onto_first b (lines_of text)) ++ lines_of more) (sym at)
    by false at later =
        let first = first_line text in
        ap (λ r. cond r ([] ∷ lines_of (followed_by text more)) (onto_first b (lines_of (followed_by text more)))) at ∙ ap (onto_first b) later
        ∙ onto_append b (lines_of text) (lines_of more) first.line first.rest first.is
        ∙ ap (λ r. cond r ([] ∷ lines_of text) (onto_first b (lines_of text)) ++ lines_of more) (sym at)

-- ---- faults

later_fault : (k n : ℕ) (p : Problem) → later_by k (fault_at n p) ≡ fault_at (k + n) p
later_fault k n problem.NotText = refl
later_fault k n problem.UnknownKey = refl
later_fault k n problem.BadValue = refl
later_fault k n problem.BadFlag = refl
later_fault k n problem.OutOfMemory = refl

lifted_then : {A B E F : Type 0} (wrap : E → F) (r : Result A E) (f : A → B) → lifted wrap (r >>= (λ x. Ok (f x))) ≡ (lifted wrap r >>= (λ x. Ok (f x)))
lifted_then wrap (Ok x) f = refl
lifted_then wrap (Err e) f = refl

-- ---- directives

said_later : (k n : ℕ) (lines : List (List ℕ)) → directives_from (k + n) lines ≡ lifted (later_by k) (directives_from n lines)
said_later k n [] = refl
said_later k n (line ∷ lines) = by (line_directives line) (said_later k (n + 1) lines)
  where
    after : Result (List Directive) LineFault → Result (List Directive) Problem → ℕ → Result (List Directive) LineFault
    after later r m = lifted (fault_at m) r >>= (λ here. later >>= (λ more. Ok (here ++ more)))

    by : (r : Result (List Directive) Problem) → directives_from (k + (n + 1)) lines ≡ lifted (later_by k) (directives_from (n + 1) lines)
        → after (directives_from (k + n + 1) lines) r (k + n) ≡ lifted (later_by k) (after (directives_from (n + 1) lines) r n)
    by (Ok here) later =
        let number : k + n + 1 ≡ k + (n + 1) = omega arith in
        ap (λ m. directives_from m lines >>= (λ more. Ok (here ++ more))) number ∙ ap (λ (r : Result (List Directive) LineFault). r >>= (λ more. Ok (here ++ more))) later
        ∙ sym (lifted_then (later_by k) (directives_from (n + 1) lines) (λ more. here ++ more))
    by (Err e) later = ap Err (sym (later_fault k n e))

said_first : (r : Result (List Directive) LineFault) → r ≡ (r >>= (λ more. Ok ([] ++ more)))
said_first (Ok more) = refl
said_first (Err e) = refl

said_twice : (here : List Directive) (r s : Result (List Directive) LineFault)
    → ((r >>= (λ said. s >>= (λ more. Ok (said ++ more)))) >>= (λ more. Ok (here ++ more))) ≡ ((r >>= (λ more. Ok (here ++ more))) >>= (λ said. s >>= (λ more. Ok (said ++ more))))
said_twice here (Ok said) (Ok more) = ap Ok (sym (append_assoc here said more))
said_twice here (Ok said) (Err e) = refl
said_twice here (Err e) s = refl

said-append : (n : ℕ) (first second : List (List ℕ)) → directives_from n (first ++ second) ≡ (directives_from n first >>= (λ said. directives_from (length first + n) second >>= (λ more. Ok (said ++ more))))
said-append n [] second =
    let number : n ≡ 0 + n = omega arith in
    ap (λ m. directives_from m second) number ∙ said_first (directives_from (0 + n) second)
said-append n (line ∷ first) second = by (line_directives line) (said-append (n + 1) first second)
  where
    by : (r : Result (List Directive) Problem) → directives_from (n + 1) (first ++ second) ≡ (directives_from (n + 1) first >>= (λ said. directives_from (length first + (n + 1)) second >>= (λ more. Ok (said ++ more))))
        → (lifted (fault_at n) r >>= (λ here. directives_from (n + 1) (first ++ second) >>= (λ more. Ok (here ++ more))))
        ≡ ((lifted (fault_at n) r >>= (λ here. directives_from (n + 1) first >>= (λ more. Ok (here ++ more)))) >>= (λ said. directives_from (length (line ∷ first) + n) second >>= (λ more. Ok (said ++ more))))
    by (Ok here) later =
        let number : length first + (n + 1) ≡ length (line ∷ first) + n = omega arith in
        ap (λ (r : Result (List Directive) LineFault). r >>= (λ more. Ok (here ++ more))) later
        ∙ said_twice here (directives_from (n + 1) first) (directives_from (length first + (n + 1)) second)
        ∙ ap (λ m. (directives_from (n + 1) first >>= (λ more. Ok (here ++ more))) >>= (λ said. directives_from m second >>= (λ more. Ok (said ++ more)))) number
    by (Err e) later = refl

-- what two texts say
pub directives-followed_by : (text more : List ℕ) → directives_of (followed_by text more) ≡ then_said (line_count text) (directives_of text) (directives_of more)
directives-followed_by text more =
    ap (directives_from 1) (lines-followed_by text more) ∙ said-append 1 (lines_of text) (lines_of more)
    ∙ ap (λ (r : Result (List Directive) LineFault). directives_of text >>= (λ said. r >>= (λ more. Ok (said ++ more)))) (said_later (line_count text) 1 (lines_of more))

-- ---- names

named_later : (k n : ℕ) (lines : List (List ℕ)) → info_from (k + n) lines ≡ lifted (later_by k) (info_from n lines)
named_later k n [] = refl
named_later k n (line ∷ lines) = by (line_info line) (named_later k (n + 1) lines)
  where
    after : Result DepInfo LineFault → Result DepInfo Problem → ℕ → Result DepInfo LineFault
    after later r m = lifted (fault_at m) r >>= (λ here. later >>= (λ more. Ok (joined here more)))

    by : (r : Result DepInfo Problem) → info_from (k + (n + 1)) lines ≡ lifted (later_by k) (info_from (n + 1) lines)
        → after (info_from (k + n + 1) lines) r (k + n) ≡ lifted (later_by k) (after (info_from (n + 1) lines) r n)
    by (Ok here) later =
        let number : k + n + 1 ≡ k + (n + 1) = omega arith in
        ap (λ m. info_from m lines >>= (λ more. Ok (joined here more))) number ∙ ap (λ (r : Result DepInfo LineFault). r >>= (λ more. Ok (joined here more))) later
        ∙ sym (lifted_then (later_by k) (info_from (n + 1) lines) (joined here))
    by (Err e) later = ap Err (sym (later_fault k n e))

joined_assoc : (a b c : DepInfo) → joined (joined a b) c ≡ joined a (joined b c)
joined_assoc a b c = λ i. record { words = append_assoc a.words b.words c.words i; variables = append_assoc a.variables b.variables c.variables i }

named_first : (r : Result DepInfo LineFault) → r ≡ (r >>= (λ more. Ok (joined nothing more)))
named_first (Ok more) = refl
named_first (Err e) = refl

named_twice : (here : DepInfo) (r s : Result DepInfo LineFault)
    → ((r >>= (λ said. s >>= (λ more. Ok (joined said more)))) >>= (λ more. Ok (joined here more))) ≡ ((r >>= (λ more. Ok (joined here more))) >>= (λ said. s >>= (λ more. Ok (joined said more))))
named_twice here (Ok said) (Ok more) = ap Ok (sym (joined_assoc here said more))
named_twice here (Ok said) (Err e) = refl
named_twice here (Err e) s = refl

named-append : (n : ℕ) (first second : List (List ℕ)) → info_from n (first ++ second) ≡ (info_from n first >>= (λ said. info_from (length first + n) second >>= (λ more. Ok (joined said more))))
named-append n [] second =
    let number : n ≡ 0 + n = omega arith in
    ap (λ m. info_from m second) number ∙ named_first (info_from (0 + n) second)
named-append n (line ∷ first) second = by (line_info line) (named-append (n + 1) first second)
  where
    by : (r : Result DepInfo Problem) → info_from (n + 1) (first ++ second) ≡ (info_from (n + 1) first >>= (λ said. info_from (length first + (n + 1)) second >>= (λ more. Ok (joined said more))))
        → (lifted (fault_at n) r >>= (λ here. info_from (n + 1) (first ++ second) >>= (λ more. Ok (joined here more))))
        ≡ ((lifted (fault_at n) r >>= (λ here. info_from (n + 1) first >>= (λ more. Ok (joined here more)))) >>= (λ said. info_from (length (line ∷ first) + n) second >>= (λ more. Ok (joined said more))))
    by (Ok here) later =
        let number : length first + (n + 1) ≡ length (line ∷ first) + n = omega arith in
        ap (λ (r : Result DepInfo LineFault). r >>= (λ more. Ok (joined here more))) later
        ∙ named_twice here (info_from (n + 1) first) (info_from (length first + (n + 1)) second)
        ∙ ap (λ m. (info_from (n + 1) first >>= (λ more. Ok (joined here more))) >>= (λ said. info_from m second >>= (λ more. Ok (joined said more)))) number
    by (Err e) later = refl

-- what two texts name
pub names-followed_by : (text more : List ℕ) → all_names_of (followed_by text more) ≡ then_named (line_count text) (all_names_of text) (all_names_of more)
names-followed_by text more =
    ap (info_from 1) (lines-followed_by text more) ∙ named-append 1 (lines_of text) (lines_of more)
    ∙ ap (λ (r : Result DepInfo LineFault). all_names_of text >>= (λ said. r >>= (λ more. Ok (joined said more)))) (named_later (line_count text) 1 (lines_of more))

-- ---- lines that say nothing

empty_says : line_directives [] ≡ Ok []
empty_says = by (is_utf8 [])
  where
    by : (r : Bool) → text_directives (if r then Some [] else None) ≡ Ok []
    by true = refl
    by false = refl

other_says : (line : List ℕ) → after_prefix (codes "cargo::") (trimmed line) ≡ None → after_prefix (codes "cargo:") (trimmed line) ≡ None → line_directives line ≡ Ok []
other_says line new old = by (is_utf8 (trimmed line))
  where
    by : (r : Bool) → text_directives (if r then Some (trimmed line) else None) ≡ Ok []
    by true = ap (λ p. new_line p (trimmed line)) new ∙ ap old_line old
    by false = refl

pub said_other : (number : ℕ) (before after : List (List ℕ)) (line : List ℕ) → after_prefix (codes "cargo::") (trimmed line) ≡ None → after_prefix (codes "cargo:") (trimmed line) ≡ None
    → directives_from number (before ++ line ∷ after) ≡ directives_from number (before ++ [] ∷ after)
said_other number [] after line new old =
    ap (λ (r : Result (List Directive) Problem). lifted (fault_at number) r >>= (λ here. directives_from (number + 1) after >>= (λ more. Ok (here ++ more)))) (other_says line new old ∙ sym empty_says)
said_other number (first ∷ before) after line new old =
    ap (λ (r : Result (List Directive) LineFault). lifted (fault_at number) (line_directives first) >>= (λ here. r >>= (λ more. Ok (here ++ more)))) (said_other (number + 1) before after line new old)

-- ---- names stand once

once_of : (r : Result DepInfo LineFault) (info : DepInfo) → (r >>= (λ named. Ok (each_once named))) ≡ Ok info → EachOnce info.words × EachOnce info.variables
once_of (Ok named) info is =
    let same : each_once named ≡ info = cc in
    subst (λ (i : DepInfo). EachOnce i.words × EachOnce i.variables) same (once-IsDistinct named.words, once-IsDistinct named.variables)
once_of (Err e) info is = absurd (cc)

pub names_once : (bytes : List ℕ) (info : DepInfo) → dep_info_of bytes ≡ Ok info → EachOnce info.words × EachOnce info.variables
names_once bytes info is = once_of (all_names_of bytes) info is
