-- One word after another.
use Rattle.std.proofs.Common.{◌≡◌, ℕ, false, cond, List, ◌∷◌, Option, Some, None, Result, Ok, Err, ap, refl, sym, subst}
use Rattle.pb_data.specs.UnlessOom.{◌>>=◌}
use Rattle.pb_mini.specs.CommandLine.{after, joined, with_value, no_arguments, arguments_after, takes_value, role_of, role_alone}
use Rattle.pb_mini.specs.declared.command_line.Role.{Role}
use Rattle.pb_mini.specs.declared.command_line.Arguments.{Arguments}
use Rattle.pb_mini.specs.declared.command_line.CommandLineFault.{CommandLineFault}

-- the values of some words were filed with one value more
abbrev pub Files : Arguments → Arguments → Role → List ℕ → Type 0
Files new old role value = (rest : Arguments) → joined new rest ≡ joined old (with_value role value rest)

after_value : (new old : Arguments) (role : Role) (value : List ℕ) (more : Result Arguments CommandLineFault) → Files new old role value
    → after new more ≡ after old (more >>= (λ rest. Ok (with_value role value rest)))
after_value new old role value (Ok rest) filed = ap Ok (filed rest)
after_value new old role value (Err e) filed = refl

-- the value of an option
pub after_option : (new old : Arguments) (role : Role) (word value : List ℕ) (words : List (List ℕ)) (waiting : Option Role) → waiting ≡ Some role → value ≡ word → Files new old role value
    → after new (arguments_after None words) ≡ after old (arguments_after waiting (word ∷ words))
after_option new old role word value words waiting waits same filed =
    subst (λ o. after new (arguments_after None words) ≡ after old (arguments_after o (word ∷ words))) (sym waits)
    (subst (λ v. after new (arguments_after None words) ≡ after old (arguments_after (Some role) (v ∷ words))) same (after_value new old role value (arguments_after None words) filed))

-- a word alone
pub after_alone : (new old : Arguments) (role : Role) (word value : List ℕ) (words : List (List ℕ)) (waiting : Option Role) → waiting ≡ None → takes_value word ≡ false → role ≡ role_alone word → value ≡ word → Files new old role value
    → after new (arguments_after None words) ≡ after old (arguments_after waiting (word ∷ words))
after_alone new old role word value words waiting waits alone is same filed =
    subst (λ o. after new (arguments_after None words) ≡ after old (arguments_after o (word ∷ words))) (sym waits)
    (subst (λ b. after new (arguments_after None words) ≡ after old (cond b (arguments_after (Some (role_of word)) words) (arguments_after None words >>= (λ rest. Ok (with_value (role_alone word) word rest))))) (sym alone)
    (subst (λ v. after new (arguments_after None words) ≡ after old (arguments_after None words >>= (λ rest. Ok (with_value (role_alone word) v rest)))) same
    (subst (λ r. after new (arguments_after None words) ≡ after old (arguments_after None words >>= (λ rest. Ok (with_value r value rest)))) is
    (after_value new old role value (arguments_after None words) filed))))

pub after_nothing : (more : Result Arguments CommandLineFault) → after no_arguments more ≡ more
after_nothing (Ok rest) = refl
after_nothing (Err e) = refl
