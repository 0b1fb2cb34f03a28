-- What stands from the first slash on.
use Rattle.std.proofs.Common.{lit<, ◌≡◌, ◌≢◌, Option, Some, None, ℕ, ◌+◌, ◌<◌, Bool, true, false, not, cond, List, [], ◌∷◌, length, drop, suc, refl, sym, ap, ◌∙◌, arith, eqb}
use Rattle.std.proofs.lemmas.Bool.Decides.{Decides-eqb}
use Rattle.std.proofs.lemmas.Str.Pattern.{strip_prefix_char}
use Rattle.std.specs.Borrow.{Bor}
use Rattle.std.specs.List.{position_or_len, before_first, after_first}
use Rattle.std.specs.Option.{MatchOption}
use Rattle.std.specs.Str.Pattern.{FindsCharPrefix, StripsPrefix}
use Rattle.pb_mini.specs.Verbs.{from_slash, variable_in}

-- where there is one, it and what follows it
pub from_slash-some : (text : List ℕ) → position_or_len (λ b. eqb b 47) text < length text → from_slash text ≡ 47 ∷ after_first (λ b. eqb b 47) text
from_slash-some [] inside = absurd (omega arith)
from_slash-some (b ∷ text) inside = by (eqb b 47) refl (from_slash-some text)
  where
    by : (r : Bool) → eqb b 47 ≡ r → (position_or_len (λ c. eqb c 47) text < length text → from_slash text ≡ 47 ∷ after_first (λ c. eqb c 47) text)
        → cond r (b ∷ text) (from_slash text) ≡ 47 ∷ after_first (λ c. eqb c 47) (b ∷ text)
    by true is later =
        let here : position_or_len (λ c. eqb c 47) (b ∷ text) + 1 ≡ suc 0 = ap (λ r. cond (not r) (1 + position_or_len (λ c. eqb c 47) text) 0 + 1) is in
        ap (λ c. c ∷ text) ((Decides-eqb b 47).0 is) ∙ ap (λ n. 47 ∷ drop n (b ∷ text)) (sym here)
    by false is later =
        let there : position_or_len (λ c. eqb c 47) (b ∷ text) ≡ 1 + position_or_len (λ c. eqb c 47) text = ap (λ r. cond (not r) (1 + position_or_len (λ c. eqb c 47) text) 0) is in
        let next : position_or_len (λ c. eqb c 47) (b ∷ text) + 1 ≡ suc (position_or_len (λ c. eqb c 47) text + 1) = omega arith in
        later (omega arith) ∙ ap (λ n. 47 ∷ drop n (b ∷ text)) (sym next)

-- else nothing
pub from_slash-none : (text : List ℕ) → position_or_len (λ b. eqb b 47) text ≡ length text → from_slash text ≡ []
from_slash-none [] past = refl
from_slash-none (b ∷ text) past = by (eqb b 47) refl (from_slash-none text)
  where
    by : (r : Bool) → eqb b 47 ≡ r → (position_or_len (λ c. eqb c 47) text ≡ length text → from_slash text ≡ []) → cond r (b ∷ text) (from_slash text) ≡ []
    by true is later =
        let here : position_or_len (λ c. eqb c 47) (b ∷ text) ≡ 0 = ap (λ r. cond (not r) (1 + position_or_len (λ c. eqb c 47) text) 0) is in
        absurd (omega arith)
    by false is later =
        let there : position_or_len (λ c. eqb c 47) (b ∷ text) ≡ 1 + position_or_len (λ c. eqb c 47) text = ap (λ r. cond (not r) (1 + position_or_len (λ c. eqb c 47) text) 0) is in
        later (omega arith)

pub ruleset slash_laws = (from_slash-some, from_slash-none)

-- the clause of `strip_prefix` at `$`
pub dollar_cases : (path : List ℕ) (r : Option (Bor (List ℕ))) → MatchOption r (FindsCharPrefix 36 path None) (λ x. StripsPrefix (FindsCharPrefix 36) path x.now)
    → MatchOption r ((rest : List ℕ) → path ≢ 36 ∷ rest) (λ x. path ≡ 36 ∷ x.now)
dollar_cases path r cases = strip_prefix_char 36 path r cases (lit< tt)

pub variable_some : (path rest : List ℕ) → path ≡ 36 ∷ rest → variable_in path ≡ Some (before_first (λ b. eqb b 47) rest)
variable_some path rest is = ap variable_in is

pub variable_none : (path : List ℕ) → ((rest : List ℕ) → path ≢ 36 ∷ rest) → variable_in path ≡ None
variable_none [] lacks = refl
variable_none (b ∷ path) lacks = by (eqb b 36) refl
  where
    by : (r : Bool) → eqb b 36 ≡ r → cond r (Some (before_first (λ c. eqb c 47) path)) None ≡ None
    by true is = absurd (lacks path (ap (λ x. x ∷ path) ((Decides-eqb b 36).0 is)))
    by false is = refl

pub ruleset variable_laws = (variable_some, variable_none)
