-- Rows are what their words say.
use Rattle.std.proofs.Common.{◌≡◌, ℕ, suc, append-nil, ◌<◌, ◌+◌, ◌++◌, Bool, List, [], ◌∷◌, reverse, length, drop, get_or, refl, ap, arith, sym, ◌∙◌, drop-cons, append_assoc, true, false, ◌==◌, ◌&&◌, if◌then◌else◌}
use Rattle.std.proofs.lemmas.List.{reverse-append, reverse-reverse}
use Rattle.pb_workspace.specs.Globs.{matches, some_end, one_then, byte_then, goes_on, past_character}
use Rattle.pb_workspace.specs.Rows.{cells_from, row_of, star_cells, one_cells, byte_cells, stepped, plain_cells, last_matched}

star_ok : (test : List ℕ → Bool) (walked before : List ℕ) → star_cells (some_end test walked) (cells_from test walked before) ≡ cells_from (some_end test) walked before
star_ok test walked [] = refl
star_ok test walked (b ∷ before) = ap (λ xs. record { byte = b; matched = some_end test (b ∷ walked) } ∷ xs) (star_ok test (b ∷ walked) before)

if_of : {A : Type 0} (test : A → Bool) (c : Bool) (x y : A) → (if c then test x else test y) ≡ test (if c then x else y)
if_of test true x y = refl
if_of test false x y = refl

one_ok : (test : List ℕ → Bool) (walked before : List ℕ) → one_cells (test (past_character walked)) (cells_from test walked before) ≡ cells_from (one_then test) walked before
one_ok test walked [] = refl
one_ok test walked (b ∷ before) =
    ap (λ xs. record { byte = b; matched = test (past_character walked) } ∷ xs)
    (ap (λ past. one_cells past (cells_from test (b ∷ walked) before)) (if_of test (goes_on b) (past_character walked) (b ∷ walked)) ∙ one_ok test (b ∷ walked) before)

byte_ok : (c : ℕ) (test : List ℕ → Bool) (walked before : List ℕ) → byte_cells c (test walked) (cells_from test walked before) ≡ cells_from (byte_then c test) walked before
byte_ok c test walked [] = refl
byte_ok c test walked (b ∷ before) = ap (λ xs. record { byte = b; matched = (b == c) && test walked } ∷ xs) (byte_ok c test (b ∷ walked) before)

step_by : (is_star is_one : Bool) (c : ℕ) (test : List ℕ → Bool) (before : List ℕ)
    → (if is_star then record { empty = test []; cells = star_cells (test []) (cells_from test [] before) }
    else (if is_one then record { empty = false; cells = one_cells (test []) (cells_from test [] before) }
    else record { empty = false; cells = byte_cells c (test []) (cells_from test [] before) }))
    ≡ row_of (λ name. if is_star then some_end test name else (if is_one then one_then test name else byte_then c test name)) before
step_by true is_one c test before = ap (λ xs. record { empty = test []; cells = xs }) (star_ok test [] before)
step_by false true c test before = ap (λ xs. record { empty = false; cells = xs }) (one_ok test [] before)
step_by false false c test before = ap (λ xs. record { empty = false; cells = xs }) (byte_ok c test [] before)

-- one byte more before a pattern
pub step_ok : (c : ℕ) (pattern before : List ℕ) → stepped c (row_of (matches pattern) before) ≡ row_of (matches (c ∷ pattern)) before
step_ok c pattern before = step_by (c == 42) (c == 63) c (matches pattern) before

-- one byte more of a pattern
pub step_at : (pattern before : List ℕ) (i j k : ℕ) → i < length pattern → j ≡ i + 1 → k ≡ i → stepped (get_or pattern i 0) (row_of (matches (drop j pattern)) before) ≡ row_of (matches (drop k pattern)) before
step_at pattern before i j k lt next same =
    let is : j ≡ suc i = omega arith in
    let cut : get_or pattern i 0 ∷ drop j pattern ≡ drop i pattern = ap (λ n. get_or pattern i 0 ∷ drop n pattern) is ∙ sym (drop-cons pattern i 0 lt) in
    step_ok (get_or pattern i 0) (drop j pattern) before ∙ ap (λ p. row_of (matches p) before) (cut ∙ ap (λ n. drop n pattern) (sym same))

-- the empty pattern matches the empty end alone
plain_ok : (walked before : List ℕ) → plain_cells before ≡ cells_from (matches []) walked before
plain_ok walked [] = refl
plain_ok walked (b ∷ before) = ap (λ xs. record { byte = b; matched = false } ∷ xs) (plain_ok (b ∷ walked) before)

all_dropped : (xs : List ℕ) → drop (length xs) xs ≡ []
all_dropped [] = refl
all_dropped (x ∷ xs) = all_dropped xs

pub plain_row : (pattern before : List ℕ) (k : ℕ) → k ≡ length pattern → record { empty = true; cells = plain_cells before } ≡ row_of (matches (drop k pattern)) before
plain_row pattern before k is =
    let none : drop k pattern ≡ [] = ap (λ n. drop n pattern) is ∙ all_dropped pattern in
    ap (λ xs. record { empty = true; cells = xs }) (plain_ok [] before) ∙ ap (λ p. row_of (matches p) before) (sym none)

turned : (b : ℕ) (before walked : List ℕ) → reverse before ++ b ∷ walked ≡ reverse (b ∷ before) ++ walked
turned b before walked = sym (ap (λ xs. xs ++ walked) (reverse-append (b ∷ []) before) ∙ append_assoc (reverse before) (b ∷ []) walked)

last_ok : (test : List ℕ → Bool) (walked before : List ℕ) → last_matched (test walked) (cells_from test walked before) ≡ test (reverse before ++ walked)
last_ok test walked [] = refl
last_ok test walked (b ∷ before) = last_ok test (b ∷ walked) before ∙ ap test (turned b before walked)

-- what the longest end has is whether the whole name passes
pub whole_ok : (test : List ℕ → Bool) (name : List ℕ) → last_matched (test []) (cells_from test [] (reverse name)) ≡ test name
whole_ok test name = last_ok test [] (reverse name) ∙ ap test (append-nil (reverse (reverse name)) ∙ reverse-reverse name)
