-- Numbers for all facts that may be true; the rules are about these numbers. Only private functions
-- need these definitions. A package has a row of numbers. The first number means that the package
-- is on. The second number means that a feature is on that the package does not have. Then each
-- feature and each entry of the package has a number. Each number comes twice, once for each side.
use Rattle.std.specs.Prelude.{ℕ, zero, suc, ◌+◌, ◌*◌, List, [], ◌∷◌, Option, Some, None, length, slice_get, slice_index_or, if◌then◌else◌}
use Rattle.std.specs.Str.{bytes_eq}
use Rattle.pb_manifest_types.specs.declared.feature.Feature.{Feature}
use Rattle.pb_workspace_types.specs.declared.package.Side.{Side}
use Rattle.pb_workspace_types.specs.declared.package.Side.TheVariants.{Target, Host}
use Rattle.pb_workspace_types.specs.declared.package.Package.{Package}

-- how many numbers a package has on one side
abbrev pub width_of : Package → ℕ
width_of p = length p.features + length p.entries + 2

-- The numbers at which the rows of the packages begin. `end_from` is the number at which the last
-- row ends.
abbrev pub bases_from : ℕ → List Package → List ℕ
bases_from base [] = []
bases_from base (p ∷ ps) = base ∷ bases_from (base + width_of p) ps

abbrev pub end_from : ℕ → List Package → ℕ
end_from base [] = base
end_from base (p ∷ ps) = end_from (base + width_of p) ps

abbrev pub side_number : Side → ℕ
side_number Target = 0
side_number Host = 1

abbrev pub number_from : ℕ → Side → ℕ → ℕ
number_from base s local = (base + local) * 2 + side_number s

abbrev pub number_at : List ℕ → ℕ → Side → ℕ → ℕ
number_at bases p s local = number_from (slice_index_or bases p 0) s local

-- `slot` is the position of the feature with this name, counted from 1, or 0 if there is no such
-- feature. `after` is the new slot if one more feature is put in front.
abbrev pub after : ℕ → ℕ
after zero = zero
after (suc k) = suc (suc k)

abbrev pub slot : List Feature → List ℕ → ℕ
slot [] name = 0
slot (f ∷ fs) name = if bytes_eq name f.name then 1 else after (slot fs name)

abbrev pub features_of : Option Package → List Feature
features_of None = []
features_of (Some p) = p.features

abbrev pub slot_at : List Package → ℕ → List ℕ → ℕ
slot_at ps p name = slot (features_of (slice_get ps p)) name

-- The number of the fact that a package is on. `has` is the number of the fact that the package has
-- the feature of a slot. `enabled` is the number of the fact that the package's n-th entry is
-- enabled.
abbrev pub on : List ℕ → ℕ → Side → ℕ
on bases p s = number_at bases p s 0

abbrev pub has : List ℕ → ℕ → Side → ℕ → ℕ
has bases p s k = number_at bases p s (k + 1)

abbrev pub enabled : List ℕ → ℕ → Side → ℕ → ℕ → ℕ
enabled bases p s features n = number_at bases p s (features + (n + 2))
