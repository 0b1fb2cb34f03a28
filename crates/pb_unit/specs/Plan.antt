-- The plan of a build: the roots and all units that they reach, by level and then by key. If there
-- is no plan, these definitions say why (The Cargo Book, cargo build).
use Rattle.std.specs.Prelude.{◌≡◌, ◌≢◌, ◌⊎◌, ◌↔◌, ℕ, ◌+◌, ◌<◌, ◌≤◌, max, false, true, if◌then◌else◌, List, [], ◌∷◌, map, All, AllPairs, Contains, length, Option, Some, None, Result, Ok, Err, slice_get}
use Rattle.std.specs.List.Sorted.{IsStrictlyIncreasing}
use Rattle.std.specs.Ordering.{nat_cmp}
use Rattle.std.specs.declared.cmp.Ordering.TheVariants.{Less}
use Rattle.std.specs.Cmp.Lexicographic.{slice_cmp}
use Rattle.pb_data.specs.Limits.{max_units}
use Rattle.pb_data.specs.UnlessOom.{◌>>=◌}
use Rattle.pb_place_types.specs.Paths.{below, is_relative, is_at_or_below}
use Rattle.pb_workspace_types.specs.Settled.{IsAscending}
use Rattle.pb_workspace_types.specs.Workspace.{HasEntry}
use Rattle.pb_workspace_types.specs.declared.package.Side.{Side}
use Rattle.pb_workspace_types.specs.declared.package.Package.{Package}
use Rattle.pb_workspace_types.specs.declared.package.Entry.{Entry}
use Rattle.pb_workspace_types.specs.declared.options.Selection.{Selection}
use Rattle.pb_workspace_types.specs.declared.workspace.Workspace.{Workspace}
use Rattle.pb_feature_types.specs.declared.features.Features.{Features}
use Rattle.pb_feature_types.specs.Features.{is_enabled}
use Rattle.pb_profile.specs.Line.{Seen, checked_line, folder_of}
use Rattle.pb_profile.specs.Settings.{settings_along}
use Rattle.pb_profile.specs.declared.fault.ProfileFault.{ProfileFault}
use Rattle.pb_profile.specs.declared.fault.ProfileFault.TheVariants.{NoSuchProfile}
use Rattle.pb_unit.specs.declared.unit.Unit.{Unit}
use Rattle.pb_unit.specs.declared.plan.Planned.{Planned}
use Rattle.pb_unit.specs.declared.plan.Plan.{Plan}
use Rattle.pb_unit.specs.declared.fault.PlanFault.{PlanFault}
use Rattle.pb_unit.specs.declared.fault.PlanFault.TheVariants.{Cycle, TooManyUnits, NothingToBuild, Profile}
use Rattle.pb_unit.specs.Units.{name_at, key_of, role_of, has_library, needs, Reaches, IsPlanned}

-- the text `a` comes before the text `b` in byte order
abbrev pub IsBelow : List ℕ → List ℕ → Type 0
IsBelow a b = slice_cmp nat_cmp a b ≡ Less

-- the unit `a` comes before the unit `b`, by level and then by the bytes of the key
pub record ComesBefore (a b : Planned) : Type 0 where
  pub order : (a.level < b.level) ⊎ ((a.level ≡ b.level) × IsBelow a.key b.key)

-- one more than the greatest level in the list, or 0 if the list is empty
abbrev pub above : List ℕ → ℕ
above [] = 0
above (level ∷ levels) = max (level + 1) (above levels)

abbrev pub level_of : Option Planned → ℕ
level_of None = 0
level_of (Some p) = p.level

-- the level of the unit at an index
abbrev pub level_at : List Planned → ℕ → ℕ
level_at units index = level_of (slice_get units index)

abbrev pub needs_in : Option Planned → List ℕ
needs_in None = []
needs_in (Some p) = p.needs

abbrev pub reaches_in : Option Planned → List ℕ
reaches_in None = []
reaches_in (Some p) = p.reaches

-- `indices` lists the indices of the wanted units, in plan order, each once
pub record AreIndices (units : List Planned) (Wanted : Unit → Type 0) (indices : List ℕ) : Type 0 where
  pub rises : IsStrictlyIncreasing indices
  pub same : (index : ℕ) → Contains indices index ↔ ((p : Planned) × (slice_get units index ≡ Some p) × Wanted p.unit)

-- Profiles.

-- The line of the requested profile. A profile whose output folder would have no name counts as
-- missing. No manifest has such a profile.
abbrev pub profile_line : Workspace → List ℕ → Result (List Seen) ProfileFault
profile_line ws profile = checked_line ws.profiles profile >>= (λ line. if is_relative (folder_of profile) then Ok line else Err NoSuchProfile)

-- the profile's folder, which is in the target folder and contains the output folders of all units
abbrev pub profile_folder : Workspace → List ℕ → List ℕ
profile_folder ws profile = below ws.target (folder_of profile)

-- the unit's settings are the settings of the unit's package along the profile's line, in the
-- unit's role
pub record HasSettings (ws : Workspace) (line : List Seen) (p : Planned) : Type 0 where
  pub owner : Package
  pub package_at : slice_get ws.packages p.unit.package ≡ Some owner
  pub settings : p.settings ≡ settings_along owner (role_of p.unit) line

-- The names of packages.

-- the names of the packages that have no library although an enabled entry leads to them, in byte
-- order, each once
pub record AreWithoutLibrary (ws : Workspace) (features : Features) (names : List (List ℕ)) : Type 0 where
  pub order : IsAscending names
  pub same : (name : List ℕ) → Contains names name ↔ ((p : ℕ) × (s : Side) × (n : ℕ) × (e : Entry) × (is_enabled features p s n ≡ true) × HasEntry ws p n e × (has_library (slice_get ws.packages e.to) ≡ false) × (name ≡ name_at ws e.to))

-- The names of the packages of those units that reach themselves, in byte order, each once. The
-- list has at least one name.
pub record IsCycle (ws : Workspace) (features : Features) (selection : Selection) (names : List (List ℕ)) : Type 0 where
  pub some : 0 < length names
  pub order : IsAscending names
  pub same : (name : List ℕ) → Contains names name ↔ ((u : Unit) × IsPlanned ws features selection u × Reaches ws features u u × (name ≡ name_at ws u.package))

-- no unit of the plan reaches itself
abbrev pub IsStraight : Workspace → Features → Selection → Type 0
IsStraight ws features selection = (u : Unit) → IsPlanned ws features selection u → Reaches ws features u u → ⊥

-- The plan.

-- The plan contains the roots and all units that they reach, each once and in order. No unit
-- reaches itself. Each unit has its key, folder, level and settings, and the indices of the units
-- that it needs and reaches. There is at least 1 unit, and there are at most 4,096.
pub record IsPlan (ws : Workspace) (features : Features) (selection : Selection) (profile : List ℕ) (plan : Plan) : Type 0 where
  pub line : List Seen
  pub profile_has : profile_line ws profile ≡ Ok line
  pub units : (u : Unit) → Contains (map (λ (p : Planned). p.unit) plan.planned) u ↔ IsPlanned ws features selection u
  pub keys : All (λ p. p.key ≡ key_of ws p.unit) plan.planned
  pub folders : All (λ p. p.out ≡ below (profile_folder ws profile) p.key) plan.planned
  pub settings : All (HasSettings ws line) plan.planned
  pub levels : All (λ p. p.level ≡ above (map (level_at plan.planned) p.needs)) plan.planned
  pub order : AllPairs ComesBefore plan.planned
  pub needs : All (λ p. AreIndices plan.planned (Contains (needs ws features p.unit)) p.needs) plan.planned
  pub reaches : All (λ p. AreIndices plan.planned (Reaches ws features p.unit) p.reaches) plan.planned
  pub straight : IsStraight ws features selection
  pub some : 0 < length plan.planned
  pub few : length plan.planned ≤ max_units
  pub without_library : AreWithoutLibrary ws features plan.without_library

-- Refusals.

-- The plan would have more than 4,096 units. The list `units` has more than 4,096 of these units,
-- in byte order of their keys.
pub record IsCrowd (ws : Workspace) (features : Features) (selection : Selection) : Type 0 where
  pub units : List Unit
  pub planned : All (IsPlanned ws features selection) units
  pub order : AllPairs (λ u v. IsBelow (key_of ws u) (key_of ws v)) units
  pub many : max_units < length units

-- the profile has a line, so the profile determines settings
pub record IsUsable (ws : Workspace) (profile : List ℕ) : Type 0 where
  pub line : List Seen
  pub is : profile_line ws profile ≡ Ok line

-- Why the units have no plan. A cycle is the first reason, too many units the second, and no units
-- the third.
pub data LacksPlan (ws : Workspace) (features : Features) (selection : Selection) : PlanFault → Type 0 where
  by_cycle : (names : List (List ℕ)) (cycle : IsCycle ws features selection names) → LacksPlan ws features selection (Cycle names)
  by_number : (straight : IsStraight ws features selection) (crowd : IsCrowd ws features selection) → LacksPlan ws features selection TooManyUnits
  by_nothing : (none : (u : Unit) → IsPlanned ws features selection u → ⊥) → LacksPlan ws features selection NothingToBuild

-- Why there is no plan. Either the profile has no line, or the profile has a line but the units
-- have no plan.
pub data Refuses (ws : Workspace) (features : Features) (selection : Selection) (profile : List ℕ) : PlanFault → Type 0 where
  by_profile : (fault : ProfileFault) (told : profile_line ws profile ≡ Err fault) → Refuses ws features selection profile (Profile fault)
  by_units : (fault : PlanFault) (usable : IsUsable ws profile) (stops : LacksPlan ws features selection fault) → Refuses ws features selection profile fault

-- Laws.

-- two units have different keys, and no path is at or below the folders of both units
pub record LieApart (a b : Planned) : Type 0 where
  pub keys : a.key ≢ b.key
  pub folders : (path : List ℕ) → is_at_or_below a.out path ≡ true → is_at_or_below b.out path ≡ false
