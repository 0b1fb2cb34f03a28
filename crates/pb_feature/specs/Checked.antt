-- The first fault among the packages that were checked so far. Only private functions need these
-- definitions.
use Rattle.std.specs.Prelude.{◌≡◌, ℕ, ◌<◌, Bool, true, false, List, Option, Some, None, slice_get, if◌then◌else◌}
use Rattle.std.specs.Ordering.{nat_cmp, is_lt}
use Rattle.std.specs.Cmp.Lexicographic.{slice_cmp}
use Rattle.pb_workspace_types.specs.declared.package.Package.{Package}
use Rattle.pb_feature.specs.declared.fault.FeatureFault.{FeatureFault}
use Rattle.pb_feature.specs.declared.checks.First.{First}
use Rattle.pb_feature.specs.Faults.{package_fault}

-- the name of `p` is less than the name of `q` in byte order
abbrev pub is_lesser : Package → Package → Bool
is_lesser p q = is_lt (slice_cmp nat_cmp p.name q.name)

-- The package at this index has this fault. Of the first n packages, none with a lesser name has a
-- fault.
pub record IsFirstBelow (ps : List Package) (n index : ℕ) (fault : FeatureFault) : Type 0 where
  pub owner : Package
  pub package_at : slice_get ps index ≡ Some owner
  pub told : package_fault owner ≡ Some fault
  pub first : (q : ℕ) (other : Package) → q < n → slice_get ps q ≡ Some other → is_lesser other owner ≡ true → package_fault other ≡ None

abbrev pub IsSofar : List Package → ℕ → Option First → Type 0
IsSofar ps n None = (q : ℕ) (other : Package) → q < n → slice_get ps q ≡ Some other → package_fault other ≡ None
IsSofar ps n (Some first) = IsFirstBelow ps n first.pkg first.fault

-- There are two packages, and the first package has the lesser name. `is_lesser_at` compares the
-- package at an index with the package of the first fault so far. `is_lesser_at` is true if there
-- is no fault so far.
abbrev pub lesser_of : Option Package → Option Package → Bool
lesser_of None w = false
lesser_of (Some p) None = false
lesser_of (Some p) (Some q) = is_lesser p q

abbrev pub is_lesser_at : List Package → ℕ → Option First → Bool
is_lesser_at ps n None = true
is_lesser_at ps n (Some first) = lesser_of (slice_get ps n) (slice_get ps first.pkg)

-- the first fault, updated for the fault of one more package
abbrev pub picked : Option FeatureFault → Option First → Bool → ℕ → Option First
picked None first lesser n = first
picked (Some fault) None lesser n = Some (record { pkg = n; fault = fault })
picked (Some fault) (Some old) lesser n = if lesser then Some (record { pkg = n; fault = fault }) else Some old
