-- The lines of a text, by its parts between line feeds.
use Rattle.std.proofs.Common.{◌≡◌, ◌≢◌, ℕ, ◌-◌, suc, length, take, slice_index, Option, arith, Bool, true, false, cond, List, [], ◌∷◌, ◌++◌, None, refl, sym, ap, ◌∙◌, eqb}
use Rattle.std.proofs.lemmas.Bool.Decides.{Decides-eqb}
use Rattle.std.specs.List.{slice_split, onto_first}
use Rattle.std.proofs.Common.{lit<}
use Rattle.std.proofs.lemmas.Str.Pattern.{strip_suffix_char}
use Rattle.std.specs.Borrow.{Bor}
use Rattle.std.specs.Option.{MatchOption}
use Rattle.std.specs.Str.Pattern.{FindsCharSuffix, StripsSuffix}
use Rattle.pb_mini.specs.Lines.{lines_of, without_feed}

-- a line feed at the end ends the last line
pub lines_ended : (text : List ℕ) → lines_of (text ++ 10 ∷ []) ≡ slice_split (λ b. eqb b 10) text
lines_ended [] = refl
lines_ended (b ∷ text) = ap (λ ls. cond (eqb b 10) ([] ∷ ls) (onto_first b ls)) (lines_ended text)

not_empty : (b : ℕ) (text : List ℕ) → eqb (length (b ∷ text)) 0 ≡ false
not_empty b text = by (eqb (length (b ∷ text)) 0) refl
  where
    by : (r : Bool) → eqb (length (b ∷ text)) 0 ≡ r → eqb (length (b ∷ text)) 0 ≡ false
    by true is = let none : length (b ∷ text) ≡ 0 = (Decides-eqb _ _).0 is in absurd (omega arith)
    by false is = is

-- and without one the last part is the last line
pub lines_open : (text : List ℕ) → eqb (length text) 0 ≡ false → ((front : List ℕ) → text ≢ front ++ 10 ∷ []) → lines_of text ≡ slice_split (λ b. eqb b 10) text
lines_open [] some lacks = absurd (cc)
lines_open (b ∷ []) some lacks = by (eqb b 10) refl
  where
    by : (r : Bool) → eqb b 10 ≡ r → cond r ([] ∷ []) (onto_first b []) ≡ cond r ([] ∷ [] ∷ []) (onto_first b ([] ∷ []))
    by true is = absurd (lacks [] (ap (λ x. x ∷ []) ((Decides-eqb b 10).0 is)))
    by false is = refl
lines_open (b ∷ c ∷ text) some lacks =
    ap (λ ls. cond (eqb b 10) ([] ∷ ls) (onto_first b ls)) (lines_open (c ∷ text) (not_empty c text) (λ front is. lacks (b ∷ front) (ap (λ t. b ∷ t) is)))

-- the clause of `strip_suffix` at a line feed
pub line_feed_cases : (text : List ℕ) (r : Option (Bor (List ℕ))) → MatchOption r (FindsCharSuffix 10 text None) (λ x. StripsSuffix (FindsCharSuffix 10) text x.now)
    → MatchOption r ((front : List ℕ) → text ≢ front ++ 10 ∷ []) (λ x. text ≡ x.now ++ 10 ∷ [])
line_feed_cases text r cases = strip_suffix_char 10 text r cases (lit< tt)

without_feed-cons : (b c : ℕ) (bytes : List ℕ) → without_feed (b ∷ c ∷ bytes) ≡ b ∷ without_feed (c ∷ bytes)
without_feed-cons b c bytes = by (length (c ∷ bytes) - 1) (omega arith)
  where
    last : (n : ℕ) (r : Bool) → cond r (b ∷ take n (c ∷ bytes)) (b ∷ c ∷ bytes) ≡ b ∷ cond r (take n (c ∷ bytes)) (c ∷ bytes)
    last n true = refl
    last n false = refl

    by : (n : ℕ) → length (b ∷ c ∷ bytes) - 1 ≡ suc n → cond (eqb (slice_index (b ∷ c ∷ bytes) (length (b ∷ c ∷ bytes) - 1)) 10) (take (length (b ∷ c ∷ bytes) - 1) (b ∷ c ∷ bytes)) (b ∷ c ∷ bytes)
        ≡ b ∷ cond (eqb (slice_index (c ∷ bytes) n) 10) (take n (c ∷ bytes)) (c ∷ bytes)
    by n is = ap (λ m. cond (eqb (slice_index (b ∷ c ∷ bytes) m) 10) (take m (b ∷ c ∷ bytes)) (b ∷ c ∷ bytes)) is ∙ last n (eqb (slice_index (c ∷ bytes) n) 10)

-- the lines are the parts, where a line feed at the end is left out
pub lines_without_feed : (bytes : List ℕ) → eqb (length bytes) 0 ≡ false → lines_of bytes ≡ slice_split (λ b. eqb b 10) (without_feed bytes)
lines_without_feed [] some = absurd (cc)
lines_without_feed (b ∷ []) some = by (eqb b 10) refl
  where
    by : (r : Bool) → eqb b 10 ≡ r → cond r ([] ∷ []) (onto_first b []) ≡ slice_split (λ x. eqb x 10) (cond r (take 0 (b ∷ [])) (b ∷ []))
    by true is = refl
    by false is = sym (ap (λ r. cond r ([] ∷ [] ∷ []) (onto_first b ([] ∷ []))) is)
lines_without_feed (b ∷ c ∷ bytes) some =
    ap (λ ls. cond (eqb b 10) ([] ∷ ls) (onto_first b ls)) (lines_without_feed (c ∷ bytes) (not_empty c bytes)) ∙ ap (slice_split (λ x. eqb x 10)) (sym (without_feed-cons b c bytes))

pub ruleset line_laws = (lines_ended, lines_open, lines_without_feed)
