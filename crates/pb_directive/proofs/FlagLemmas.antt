-- Lemmas on the flags of `rustc-flags`.
use Rattle.std.proofs.Common.{◌≡◌, ℕ, false, List, [], ◌∷◌, ◌++◌, Ok, Err, Result, refl, sym, ◌∙◌, ap, if◌then◌else◌, codes}
use Rattle.std.specs.Str.{bytes_eq}
use Rattle.pb_data.specs.UnlessOom.{◌>>=◌}
use Rattle.pb_directive.proofs.ThenLemmas.{then_push, then_err}
use Rattle.pb_directive.specs.Directives.{flag_of, flags_of}
use Rattle.pb_directive.specs.declared.directive.Directive.{Directive}
use Rattle.pb_directive.specs.declared.directive.Directive.TheVariants as says
use Rattle.pb_directive.specs.declared.fault.Problem.{Problem}

-- a word that is no letter alone is a flag of its own
pub flags_of-word : (word : List ℕ) (words : List (List ℕ)) → bytes_eq word (codes "-l") ≡ false → bytes_eq word (codes "-L") ≡ false
    → flags_of (word ∷ words) ≡ flag_of word >>= (λ flag. flags_of words >>= (λ more. Ok (flag ∷ more)))
flags_of-word word [] library search' = refl
flags_of-word word (next ∷ words) library search' =
    let rest : Result (List Directive) Problem = flag_of word >>= (λ flag. flags_of (next ∷ words) >>= (λ more. Ok (flag ∷ more))) in
    let folder : Result (List Directive) Problem = flags_of words >>= (λ more. Ok (says.LinkSearch next ∷ more)) in
    ap (λ r. if r then flags_of words >>= (λ more. Ok (says.LinkLib next ∷ more)) else (if bytes_eq word (codes "-L") then folder else rest)) library
    ∙ ap (λ r. if r then folder else rest) search'

pub ruleset flag_laws = (flags_of-word)

-- a step over the flag in front
pub flags_step : (whole : Result (List Directive) Problem) (done new : List Directive) (words rest left : List (List ℕ)) (word : List ℕ) (flag : Directive)
    → (flags_of words >>= (λ more. Ok (done ++ more))) ≡ whole → words ≡ word ∷ rest → flags_of (word ∷ rest) ≡ flags_of left >>= (λ more. Ok (flag ∷ more)) → new ≡ done ++ flag ∷ []
    → (flags_of left >>= (λ more. Ok (new ++ more))) ≡ whole
flags_step whole done new words rest left word flag so_far at takes added =
    sym (then_push (flags_of left) done new flag added) ∙ ap (λ (r : Result (List Directive) Problem). r >>= (λ more. Ok (done ++ more))) (sym (ap flags_of at ∙ takes)) ∙ so_far

-- a fault of the flag in front is that of the whole
pub flags_fault : (answer : Result (List Directive) Problem) (old done : List Directive) (words rest : List (List ℕ)) (word : List ℕ) (e : Problem)
    → (flags_of words >>= (λ more. Ok (done ++ more))) ≡ (answer >>= (λ more. Ok (old ++ more))) → words ≡ word ∷ rest → flags_of (word ∷ rest) ≡ Err e
    → answer ≡ Err e
flags_fault answer old done words rest word e so_far at fails =
    then_err answer (λ more. old ++ more) e (sym so_far ∙ ap (λ (r : Result (List Directive) Problem). r >>= (λ more. Ok (done ++ more))) (ap flags_of at ∙ fails))
