-- How the resolved features are made from marked numbers. Only private functions need these
-- definitions.
use Rattle.std.specs.Prelude.{◌≡◌, ℕ, ◌+◌, ◌<◌, Bool, true, false, List, [], ◌∷◌, length, if◌then◌else◌}
use Rattle.pb_manifest_types.specs.declared.feature.Feature.{Feature}
use Rattle.pb_workspace_types.specs.declared.package.Side.{Side}
use Rattle.pb_workspace_types.specs.declared.package.Side.TheVariants.{Target, Host}
use Rattle.pb_workspace_types.specs.declared.package.Package.{Package}
use Rattle.pb_workspace_types.specs.declared.package.Entry.{Entry}
use Rattle.pb_graph.specs.Closure.{is_on}
use Rattle.pb_graph.specs.Placed.{placed}
use Rattle.pb_feature_types.specs.declared.features.Part.{Part}
use Rattle.pb_feature_types.specs.declared.features.Sides.{Sides}
use Rattle.pb_feature.specs.Numbers.{on, has, enabled}

-- the name of a feature if its number is marked, and no name otherwise
abbrev pub marked_name : List Bool → List ℕ → ℕ → Side → ℕ → Feature → List (List ℕ)
marked_name marks bs p s i f = if is_on marks (has bs p s (i + 1)) then f.name ∷ [] else []

-- a list with one truth value, which is true if the number of an entry is marked
abbrev pub marked_entry : List Bool → List ℕ → ℕ → Side → ℕ → ℕ → Entry → List Bool
marked_entry marks bs p s features n e = is_on marks (enabled bs p s features n) ∷ []

abbrev pub marked_part : List Bool → List ℕ → ℕ → Side → Package → Part
marked_part marks bs p s owner = record {
  active = is_on marks (on bs p s);
  features = placed (marked_name marks bs p s) 0 owner.features;
  enabled = placed (marked_entry marks bs p s (length owner.features)) 0 owner.entries;
}

abbrev pub marked_sides : List Bool → List ℕ → ℕ → Package → List Sides
marked_sides marks bs p owner = (record { target = marked_part marks bs p Target owner; host = marked_part marks bs p Host owner }) ∷ []

-- for one of the first `count` packages, on some side, the number of a missing feature is marked
pub record IsMarkedMissing (marks : List Bool) (bs : List ℕ) (count : ℕ) : Type 0 where
  pub pkg : ℕ
  pub side : Side
  pub below : pkg < count
  pub marked : is_on marks (has bs pkg side 0) ≡ true

-- the number of a missing feature is not marked for any of the first `count` packages, on either
-- side
abbrev pub NoneMarkedMissing : List Bool → List ℕ → ℕ → Type 0
NoneMarkedMissing marks bs count = (p : ℕ) → p < count → (is_on marks (has bs p Target 0) ≡ false) × (is_on marks (has bs p Host 0) ≡ false)
