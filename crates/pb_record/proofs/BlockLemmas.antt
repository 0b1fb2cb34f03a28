-- Lemmas on blocks of bytes.
use Rattle.std.proofs.Common.{◌≡◌, ◌<◌, ◌≤◌, ◌^◌, ℕ, List, [], ◌∷◌, ◌++◌, length, refl, sym, ◌∙◌, ap, arith, length-append, Bor, Option, Some, None, Bool, true, if◌then◌else◌}
use Rattle.std.specs.Prelude.{MatchOption}
use Rattle.std.proofs.lemmas.List.{append_assoc}
use Rattle.pb_record.specs.Grammar.{number, block}
use Rattle.pb_record.specs.Parts.{IsNumber, IsAny}
use Rattle.pb_record.specs.Reading.{BeginsWith, StandsNone, IsSpelling}
use Rattle.pb_record.proofs.NumberLemmas.{number_spelling}

fronts_same : {A : Type 0} (xs ys rest more : List A) → length xs ≡ length ys → xs ++ rest ≡ ys ++ more → (xs ≡ ys) × (rest ≡ more)
fronts_same [] [] rest more same e = (refl, e)
fronts_same [] (y ∷ ys) rest more same e = absurd (omega arith)
fronts_same (x ∷ xs) [] rest more same e = absurd (omega arith)
fronts_same (x ∷ xs) (y ∷ ys) rest more same e =
    let tails : xs ++ rest ≡ ys ++ more = cc in
    let others = fronts_same xs ys rest more (omega arith) tails in
    (cc, others.1)

-- a block and what follows it, cut after its length
pub block_cut : (bytes rest : List ℕ) → block bytes ++ rest ≡ number (length bytes) ++ (bytes ++ 10 ∷ rest)
unfolding block
block_cut bytes rest = append_assoc (number (length bytes)) (bytes ++ 10 ∷ []) rest ∙ ap (λ t. number (length bytes) ++ t) (append_assoc bytes (10 ∷ []) rest)

block_some : (bytes : List ℕ) → 0 < length (block bytes)
unfolding block
block_some bytes = omega (arith, length-append (number (length bytes)) (bytes ++ 10 ∷ []), number_spelling.some (length bytes))

pub block_spelling : IsSpelling block
block_spelling = record {
  some = block_some;
  apart = λ x y rest more e.
      let first = number_spelling.apart (length x) (length y) (x ++ 10 ∷ rest) (y ++ 10 ∷ more) (sym (block_cut x rest) ∙ e ∙ block_cut y more) in
      let parts = fronts_same x y (10 ∷ rest) (10 ∷ more) first.0 first.1 in
      (parts.0, cc (parts.1));
}

pub stands_block : {Q : ℕ → Type 0} {text mid : List ℕ} {n : ℕ} (bytes rest : List ℕ) → BeginsWith Q number text n mid → length bytes ≡ n → mid ≡ bytes ++ 10 ∷ rest → BeginsWith IsAny block text bytes rest
stands_block {mid = mid} bytes rest count len e = record {
  is = tt;
  here = count.here ∙ ap (λ k. number k ++ mid) (sym len) ∙ ap (λ t. number (length bytes) ++ t) e ∙ sym (block_cut bytes rest);
}

pub no_block_count : {text : List ℕ} → length text < 2 ^ 64 → StandsNone IsNumber number text → StandsNone IsAny block text
no_block_count {text = text} small none = record {
  never = λ bytes rest stands.
      let here : text ≡ number (length bytes) ++ (bytes ++ 10 ∷ rest) = stands.here ∙ block_cut bytes rest in
      let whole = ap length here in
      let is : length bytes < 2 ^ 64 = omega (arith, whole, length-append (number (length bytes)) (bytes ++ 10 ∷ rest), length-append bytes (10 ∷ rest)) in
      none.never (length bytes) (bytes ++ 10 ∷ rest) (record { is = is; here = here });
}

pub no_block_bytes : {Q : ℕ → Type 0} {text mid : List ℕ} {n : ℕ} → BeginsWith Q number text n mid → ((bytes rest : List ℕ) → length bytes ≡ n → mid ≡ bytes ++ 10 ∷ rest → ⊥) → StandsNone IsAny block text
no_block_bytes {mid = mid} {n = n} count bad = record {
  never = λ bytes rest stands.
      let parts = number_spelling.apart (length bytes) n (bytes ++ 10 ∷ rest) mid (sym (block_cut bytes rest) ∙ sym stands.here ∙ count.here) in
      bad bytes rest parts.0 (sym parts.1);
}

-- a front of some length is not followed by a line feed
pub too_short : {mid : List ℕ} {n : ℕ} → length mid ≤ n → (bytes rest : List ℕ) → length bytes ≡ n → mid ≡ bytes ++ 10 ∷ rest → ⊥
too_short short bytes rest len e = let whole = ap length e in absurd (omega (arith, whole, length-append bytes (10 ∷ rest)))

pub no_feed_there : {mid : List ℕ} {n : ℕ} (front after : List ℕ) → mid ≡ front ++ after → length front ≡ n → ((rest : List ℕ) → after ≡ 10 ∷ rest → ⊥)
    → (bytes rest : List ℕ) → length bytes ≡ n → mid ≡ bytes ++ 10 ∷ rest → ⊥
no_feed_there front after cut len bad bytes rest len' e = bad rest (fronts_same front bytes after (10 ∷ rest) (len ∙ sym len') (sym cut ∙ e)).1

pub block_cuts : {text mid : List ℕ} {n : ℕ} (o : Option (Bor (List ℕ) × Bor (List ℕ))) → BeginsWith IsNumber number text n mid
    → MatchOption o ((bytes rest : List ℕ) → length bytes ≡ n → mid ≡ bytes ++ 10 ∷ rest → ⊥) (λ p. (length p.0.now ≡ n) × (mid ≡ p.0.now ++ 10 ∷ p.1.now))
    → MatchOption o (StandsNone IsAny block text) (λ p. BeginsWith IsAny block text p.0.now p.1.now)
block_cuts None count told = no_block_bytes count told
block_cuts (Some (bytes, rest)) count told = stands_block bytes.now rest.now count told.0 told.1

-- a text that a test refuses does not pass it
pub refused : {A : Type 0} (test : A → Bool) (x : A) (o : Option A) → o ≡ (if test x then Some x else None) → o ≡ None → test x ≡ true → ⊥
refused test x o e none passes = let some : o ≡ Some x = e ∙ ap (λ b. if b then Some x else None) passes in cc
