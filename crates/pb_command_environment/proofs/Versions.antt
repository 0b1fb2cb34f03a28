-- What is known of a version's numbers behind a truncation.
use Rattle.std.proofs.Common.{◌≡◌, ℕ, List, Ok, ap}
use Rattle.std.proofs.Math.Logic.{∥∥₁_elim}
use Rattle.std.specs.Coded.{coded_ℕ, coded_list}
use base.Stored.{Coded-set}
use Rattle.semver.specs.Parse.{version_parts}
use Rattle.pb_command_environment.specs.Pairs.{numbers_in, version_numbers}

-- a text made of a version's numbers
pub numbers_text : (f : ℕ × ℕ × ℕ × List ℕ × List ℕ → List ℕ) (text : List ℕ) (parts : ℕ × ℕ × ℕ × List ℕ × List ℕ) → ∥ version_parts text ≡ Ok parts ∥₁ → f (version_numbers text) ≡ f parts
numbers_text f text parts read = ∥∥₁_elim read (Coded-set (coded_list coded_ℕ) _ _) (λ e. ap (λ r. f (numbers_in r)) e)
