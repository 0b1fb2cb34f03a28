-- A pattern matches just the names that its words say.
use Rattle.std.proofs.Common.{◌≡◌, ◌↔◌, ℕ, Bool, true, false, not, ◌&&◌, ◌||◌, ◌==◌, if◌then◌else◌, List, [], ◌∷◌, ◌++◌, refl, sym, ap, ◌∙◌, subst, arith}
use Rattle.std.specs.List.{list_all}
use Rattle.std.proofs.lemmas.Bool.{and_parts}
use Rattle.std.proofs.lemmas.Bool.Decides.{nat_tests}
use Rattle.pb_workspace.specs.Globs.{byte_then, first_then, goes_on, matches, one_then, past_character, some_end}
use Rattle.pb_workspace.specs.GlobWords.{Matches, empty, any, one, itself, begins_whole, is_sign}

-- an end that passes has a text before it
record Split (test : List ℕ → Bool) (name : List ℕ) : Type 0 where
  before : List ℕ
  rest : List ℕ
  whole : before ++ rest ≡ name
  passes : test rest ≡ true

split_of : (test : List ℕ → Bool) (name : List ℕ) → some_end test name ≡ true → Split test name
split_of test [] is = record { before = []; rest = []; whole = refl; passes = is }
split_of test (b ∷ name) is = by (test (b ∷ name)) refl is (split_of test name)
  where
    by : (t : Bool) → test (b ∷ name) ≡ t → t || some_end test name ≡ true → (some_end test name ≡ true → Split test name) → Split test (b ∷ name)
    by true at h rest = record { before = []; rest = b ∷ name; whole = refl; passes = at }
    by false at h rest = let s = rest h in record { before = b ∷ s.before; rest = s.rest; whole = ap (λ xs. b ∷ xs) s.whole; passes = s.passes }

or_on : (a b : Bool) → a ≡ true → a || b ≡ true
or_on true b is = refl
or_on false b is = cc

or_then : (a b : Bool) → b ≡ true → a || b ≡ true
or_then true b is = refl
or_then false b is = is

some_here : (test : List ℕ → Bool) (name : List ℕ) → test name ≡ true → some_end test name ≡ true
some_here test [] is = is
some_here test (b ∷ name) is = or_on (test (b ∷ name)) (some_end test name) is

some_after : (test : List ℕ → Bool) (before rest : List ℕ) → test rest ≡ true → some_end test (before ++ rest) ≡ true
some_after test [] rest is = some_here test rest is
some_after test (b ∷ before) rest is = or_then (test (b ∷ before ++ rest)) (some_end test (before ++ rest)) (some_after test before rest is)

-- the further bytes of a character, and what is behind them
record Character (rest : List ℕ) : Type 0 where
  more : List ℕ
  whole : more ++ past_character rest ≡ rest
  further : list_all goes_on more ≡ true
  begins : begins_whole (past_character rest) ≡ true

character_of : (rest : List ℕ) → Character rest
character_of [] = record { more = []; whole = refl; further = refl; begins = refl }
character_of (b ∷ rest) = by (goes_on b) refl (character_of rest)
  where
    by : (g : Bool) → goes_on b ≡ g → Character rest → Character (b ∷ rest)
    by true at c = record {
      more = b ∷ c.more;
      whole = ap (λ (x : Bool). b ∷ c.more ++ (if x then past_character rest else b ∷ rest)) at ∙ ap (λ xs. b ∷ xs) c.whole;
      further = ap (λ x. x && list_all goes_on c.more) at ∙ c.further;
      begins = ap (λ (x : Bool). begins_whole (if x then past_character rest else b ∷ rest)) at ∙ c.begins;
    }
    by false at c = record {
      more = [];
      whole = ap (λ (x : Bool). if x then past_character rest else b ∷ rest) at;
      further = refl;
      begins = ap (λ (x : Bool). begins_whole (if x then past_character rest else b ∷ rest)) at ∙ ap not at;
    }

past : (more rest : List ℕ) → list_all goes_on more ≡ true → begins_whole rest ≡ true → past_character (more ++ rest) ≡ rest
past [] [] further begins = refl
past [] (b ∷ rest) further begins = by (goes_on b) begins
  where
    by : (g : Bool) → not g ≡ true → (if g then past_character rest else b ∷ rest) ≡ b ∷ rest
    by true h = cc
    by false h = refl
past (b ∷ more) rest further begins =
    let h = and_parts (goes_on b) (list_all goes_on more) further in
    ap (λ (x : Bool). if x then past_character (more ++ rest) else b ∷ more ++ rest) h.0 ∙ past more rest h.1 begins

same_byte : (a b : ℕ) → a == b ≡ true → a ≡ b
same_byte a b is = grind (arith, nat_tests)

same_test : (b : ℕ) → b == b ≡ true
same_test b = grind (arith, nat_tests)

abbrev Says : List ℕ → Type 0
Says pattern = (rest : List ℕ) → matches pattern rest ≡ true → Matches pattern rest

star_says : (c : ℕ) (pattern name : List ℕ) → Says pattern → c == 42 ≡ true → some_end (matches pattern) name ≡ true → Matches (c ∷ pattern) name
star_says c pattern name rest_says sign is =
    let s = split_of (matches pattern) name is in
    subst (λ b. Matches (b ∷ pattern) name) (sym (same_byte c 42 sign)) (subst (Matches (42 ∷ pattern)) s.whole (any pattern s.before s.rest (rest_says s.rest s.passes)))

one_says : (c : ℕ) (pattern name : List ℕ) → Says pattern → c == 63 ≡ true → one_then (matches pattern) name ≡ true → Matches (c ∷ pattern) name
one_says c pattern [] rest_says sign is = cc
one_says c pattern (b ∷ name) rest_says sign is =
    let k = character_of name in
    subst (λ x. Matches (x ∷ pattern) (b ∷ name)) (sym (same_byte c 63 sign))
    (subst (λ xs. Matches (63 ∷ pattern) (b ∷ xs)) k.whole (one pattern b k.more (past_character name) k.further k.begins (rest_says (past_character name) is)))

byte_says : (c : ℕ) (pattern name : List ℕ) → Says pattern → is_sign c ≡ false → byte_then c (matches pattern) name ≡ true → Matches (c ∷ pattern) name
byte_says c pattern [] rest_says plain is = cc
byte_says c pattern (b ∷ name) rest_says plain is =
    let h = and_parts (b == c) (matches pattern name) is in
    subst (λ x. Matches (c ∷ pattern) (x ∷ name)) (sym (same_byte b c h.0)) (itself pattern c name plain (rest_says name h.1))

pub says : (pattern name : List ℕ) → matches pattern name ≡ true → Matches pattern name
says [] [] is = empty
says [] (b ∷ name) is = cc
says (c ∷ pattern) name is = by (c == 42) (c == 63) refl refl (says pattern) is
  where
    by : (s o : Bool) → c == 42 ≡ s → c == 63 ≡ o → Says pattern → (if s then some_end (matches pattern) name else (if o then one_then (matches pattern) name else byte_then c (matches pattern) name)) ≡ true → Matches (c ∷ pattern) name
    by true o at_star at_one rest h = star_says c pattern name rest at_star h
    by false true at_star at_one rest h = one_says c pattern name rest at_one h
    by false false at_star at_one rest h = byte_says c pattern name rest (ap (λ x. x || c == 63) at_star ∙ at_one) h

both : (a b : Bool) → a ≡ true → b ≡ true → a && b ≡ true
both true b left right = right
both false b left right = cc

plain_then : (b : ℕ) (test : List ℕ → Bool) (name : List ℕ) → is_sign b ≡ false → first_then b test name ≡ byte_then b test name
plain_then b test name plain = by (b == 42) (b == 63) plain
  where
    by : (s o : Bool) → s || o ≡ false → (if s then some_end test name else (if o then one_then test name else byte_then b test name)) ≡ byte_then b test name
    by true o h = cc
    by false true h = cc
    by false false h = refl

pub shows : (pattern name : List ℕ) → Matches pattern name → matches pattern name ≡ true
shows _ _ empty = refl
shows _ _ (any pattern text rest m) = some_after (matches pattern) text rest (shows pattern rest m)
shows _ _ (one pattern first more rest further whole m) = ap (matches pattern) (past more rest further whole) ∙ shows pattern rest m
shows _ _ (itself pattern b rest plain m) = plain_then b (λ name. matches pattern name) (b ∷ rest) plain ∙ both (b == b) (matches pattern rest) (same_test b) (shows pattern rest m)

pub decides : (pattern name : List ℕ) → (matches pattern name ≡ true) ↔ Matches pattern name
decides pattern name = (says pattern name, shows pattern name)
