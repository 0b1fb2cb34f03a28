-- The options of a build of their parts.
use Rattle.std.proofs.Common.{◌≡◌, codes, [], ◌∷◌, Result, Ok, Err, MatchResult, refl}
use Rattle.serde_json.specs.Data.{Data}
use Rattle.pb_data.specs.UnlessOom.{◌>>=◌}
use Rattle.pb_build_session.specs.Faults.{Read, UnlessOom}
use Rattle.pb_build_session.specs.Options.{options_in}
use Rattle.pb_build_session.specs.Private.{asked_in, featured_in, targeted_in, joined}

then_then : {A B C E : Type 0} (x : Result A E) (f : A → Result B E) (g : B → Result C E) → (x >>= f) >>= g ≡ x >>= (λ a. f a >>= g)
then_then (Ok a) f g = refl
then_then (Err e) f g = refl

pub of_parts : (d : Data) → asked_in d >>= (λ a. featured_in d >>= (λ f. targeted_in d >>= (λ t. Ok (joined a f t (record { runner = codes "mini" ∷ codes "--run" ∷ []; tool = codes "cargo" }))))) ≡ options_in d
of_parts d = simp then_then refl

-- a value with the next one, in words of the answers
pub with_next_gives : {A B : Type 0} (a : A) (next : Read B) (pair : Read (A × B)) (answer : Read B) → UnlessOom next answer → MatchResult next (λ b. pair ≡ Ok (a, b)) (λ e. pair ≡ Err e) → UnlessOom pair (answer >>= (λ b. Ok (a, b)))
with_next_gives a (Ok b) pair answer given is = simp (is, given) refl
with_next_gives a (Err e) pair answer given is = rw is (λ ne. simp (given ne) refl)
