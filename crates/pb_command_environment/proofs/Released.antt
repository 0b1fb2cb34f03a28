-- A profile of whose line one is `release`.
use Rattle.std.proofs.Common.{◌≡◌, List, [], ◌∷◌, refl, ap, map}
use Rattle.std.specs.Prelude.{codes, Bool, ◌||◌}
use Rattle.std.specs.Str.{bytes_eq}
use Rattle.std.specs.List.{list_any}
use Rattle.pb_profile.specs.declared.line.Ancestor.{Ancestor}
use Rattle.pb_profile.specs.Line.{seen}
use Rattle.pb_command_environment.specs.Pairs.{is_released}

list_any-map : {A B : Type 0} (p : B → Bool) (h : A → B) (xs : List A) → list_any p (map h xs) ≡ list_any (λ x. p (h x)) xs
list_any-map p h [] = refl
list_any-map p h (x ∷ xs) = ap (λ b. p (h x) || b) (list_any-map p h xs)

pub released : (line : List Ancestor) → is_released (map seen line) ≡ list_any (λ ancestor. bytes_eq (seen ancestor).name (codes "release")) line
released line = list_any-map (λ s. bytes_eq s.name (codes "release")) seen line

pub ruleset released_laws = (released)
