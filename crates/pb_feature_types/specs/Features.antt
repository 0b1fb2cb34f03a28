-- Which packages, features and entries are on, by the resolved features.
use Rattle.std.specs.Prelude.{ℕ, Bool, false, List, [], Option, Some, None, slice_get, slice_index_or}
use Rattle.pb_workspace_types.specs.declared.package.Side.{Side}
use Rattle.pb_workspace_types.specs.declared.package.Side.TheVariants.{Target, Host}
use Rattle.pb_feature_types.specs.declared.features.Part.{Part}
use Rattle.pb_feature_types.specs.declared.features.Sides.{Sides}
use Rattle.pb_feature_types.specs.declared.features.Features.{Features}

-- the part of a package's features that belongs to one side
abbrev pub part_of : Sides → Side → Part
part_of sides Target = sides.target
part_of sides Host = sides.host

abbrev pub active_of : Option Sides → Side → Bool
active_of None s = false
active_of (Some sides) s = (part_of sides s).active

abbrev pub names_of : Option Sides → Side → List (List ℕ)
names_of None s = []
names_of (Some sides) s = (part_of sides s).features

abbrev pub enabled_of : Option Sides → Side → ℕ → Bool
enabled_of None s n = false
enabled_of (Some sides) s n = slice_index_or (part_of sides s).enabled n false

-- on this side, the package at this index is on
abbrev pub is_active : Features → ℕ → Side → Bool
is_active features p s = active_of (slice_get features.packages p) s

-- the names of the features that the package at an index has on a side
abbrev pub features_at : Features → ℕ → Side → List (List ℕ)
features_at features p s = names_of (slice_get features.packages p) s

-- on this side, the entry with the index `n` of the package with the index `p` is enabled
abbrev pub is_enabled : Features → ℕ → Side → ℕ → Bool
is_enabled features p s n = enabled_of (slice_get features.packages p) s n
