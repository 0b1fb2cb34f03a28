-- Units as the nodes of a graph. The nodes are numbered: first six nodes for each package, and then
-- the binaries that are roots. Only private functions need these definitions.
use Rattle.std.specs.Prelude.{◌≡◌, ◌↔◌, ℕ, ◌+◌, ◌*◌, Bool, true, false, not, ◌&&◌, ◌||◌, if◌then◌else◌, List, [], ◌∷◌, ◌++◌, map, Contains, Option, Some, None, slice_get}
use Rattle.std.specs.List.{list_all}
use Rattle.std.specs.List.Sorted.{IsStrictlySortedBy}
use Rattle.std.specs.Ordering.{nat_cmp, ordering_then}
use Rattle.std.specs.declared.cmp.Ordering.{Ordering}
use Rattle.std.specs.Cmp.Lexicographic.{slice_cmp}
use Rattle.pb_graph.specs.Closure.{is_on}
use Rattle.pb_graph.specs.Placed.{placed}
use Rattle.pb_data.specs.OrderedSet.{is_mentioned}
use Rattle.pb_place_types.specs.Paths.{below}
use Rattle.pb_graph.specs.declared.graph.Node.{Node}
use Rattle.pb_graph.specs.declared.graph.Step.{Step}
use Rattle.pb_graph.specs.declared.graph.OrderFault.{OrderFault}
use Rattle.pb_graph.specs.declared.graph.OrderFault.TheVariants as order_fault
use Rattle.pb_workspace_types.specs.Settled.{IsAscending}
use Rattle.pb_unit.specs.declared.fault.PlanFault.{PlanFault}
use Rattle.pb_unit.specs.declared.fault.PlanFault.TheVariants.{Cycle, TooManyUnits, OutOfMemory}
use Rattle.pb_workspace_types.specs.declared.package.Side.{Side}
use Rattle.pb_workspace_types.specs.declared.package.Side.TheVariants.{Target, Host}
use Rattle.pb_workspace_types.specs.declared.package.Package.{Package}
use Rattle.pb_workspace_types.specs.declared.package.Binary.{Binary}
use Rattle.pb_workspace_types.specs.declared.package.Entry.{Entry}
use Rattle.pb_workspace_types.specs.declared.options.Selection.{Selection}
use Rattle.pb_workspace_types.specs.declared.workspace.Workspace.{Workspace}
use Rattle.pb_feature_types.specs.declared.features.Features.{Features}
use Rattle.pb_feature_types.specs.Features.{features_at, is_enabled}
use Rattle.pb_profile.specs.Line.{Seen}
use Rattle.pb_profile.specs.Settings.{settings_along}
use Rattle.pb_unit.specs.declared.unit.Unit.{Unit}
use Rattle.pb_unit.specs.declared.unit.What.{What}
use Rattle.pb_unit.specs.declared.unit.What.TheVariants.{Lib, Bin, Script, Run}
use Rattle.pb_unit.specs.declared.candidates.Named.{Named}
use Rattle.pb_unit.specs.declared.dependencies.Need.{Need}
use Rattle.pb_unit.specs.declared.dependencies.Need.TheVariants as need
use Rattle.pb_unit.specs.declared.plan.Planned.{Planned}
use Rattle.pb_unit.specs.Units.{unit, name_at, key_of, role_of, has_library, hands_on, is_normal, is_build, entries_at, needs, asks_libraries, asks_binary}

-- Numbers.

abbrev pub slot : What → Side → ℕ
slot Lib Target = 0
slot Lib Host = 1
slot Script Target = 2
slot Script Host = 3
slot Run Target = 4
slot Run Host = 5
slot (Bin name) s = 0

-- the number of a unit that is not a binary
abbrev pub number : Unit → ℕ
number u = u.package * 6 + slot u.what u.side

-- the unit of the package `p` to which a need of this kind leads from a unit on the side `s`
abbrev pub needed : Need → ℕ → Side → Unit
needed need.Lib p s = unit p s Lib
needed need.Tool p s = unit p Host Lib
needed need.Run p s = unit p s Run

-- for a need of this kind, the entry leads to a unit
abbrev pub leads : Need → Workspace → Entry → Bool
leads need.Lib ws e = is_normal e.kind && has_library (slice_get ws.packages e.to)
leads need.Tool ws e = is_build e.kind && has_library (slice_get ws.packages e.to)
leads need.Run ws e = is_normal e.kind && hands_on (slice_get ws.packages e.to)

-- The number of the unit to which the entry leads for a need of this kind. There is no number if
-- the entry is not enabled, or leads to no unit for such a need.
abbrev pub numbers_by : Need → Workspace → Features → ℕ → Side → ℕ → Entry → List ℕ
numbers_by w ws features p s n e = if is_enabled features p s n && leads w ws e then number (needed w e.to s) ∷ [] else []

-- for a need of this kind, the numbers of the units to which a package's enabled entries lead
abbrev pub all_numbers : Need → Workspace → Features → ℕ → Side → List ℕ
all_numbers w ws features p s = placed (numbers_by w ws features p s) 0 (entries_at ws p)

-- Candidates.

-- the six units that a package may have besides its binaries; some of the six may not exist
abbrev pub six : ℕ → Package → List Unit
six p owner = unit p Target Lib ∷ unit p Host Lib ∷ unit p Target Script ∷ unit p Host Script ∷ unit p Target Run ∷ unit p Host Run ∷ []

abbrev pub fixed : List Package → List Unit
fixed packages = placed six 0 packages

abbrev pub binaries_of : Option Package → List Binary
binaries_of None = []
binaries_of (Some p) = p.binaries

-- a binary of a selected package, if the binary is requested and all features that it requires are
-- on
abbrev pub named_by : Selection → List (List ℕ) → ℕ → ℕ → Binary → List Named
named_by selection names p n b = if asks_binary selection b.name && list_all (is_mentioned names) b.required_features then record { owner = p; name = b.name } ∷ [] else []

abbrev pub named_at : Workspace → Features → Selection → ℕ → ℕ → List Named
named_at ws features selection n p = placed (named_by selection (features_at features p Target) p) 0 (binaries_of (slice_get ws.packages p))

abbrev pub all_named : Workspace → Features → Selection → List Named
all_named ws features selection = placed (named_at ws features selection) 0 selection.packages

abbrev pub named_cmp : Named → Named → Ordering
named_cmp a b = ordering_then (nat_cmp a.owner b.owner) (slice_cmp nat_cmp a.name b.name)

abbrev pub unit_named : Named → Unit
unit_named b = unit b.owner Target (Bin b.name)

-- All units that a plan may have: the six units of each package, and the binaries that are roots.
-- Each occurs once.
pub record AreCandidates (ws : Workspace) (features : Features) (selection : Selection) (units : List Unit) : Type 0 where
  pub named : List Named
  pub rises : IsStrictlySortedBy named_cmp named
  pub same : (b : Named) → Contains named b ↔ Contains (all_named ws features selection) b
  pub is : units ≡ fixed ws.packages ++ map unit_named named

-- Roots.

abbrev pub is_target : Side → Bool
is_target Target = true
is_target Host = false

-- a candidate is a root; `marks` says which packages are selected
abbrev pub root_of : Workspace → Bool → List Bool → ℕ → Side → What → Bool
root_of ws asked marks p s Lib = asked && is_target s && is_on marks p && has_library (slice_get ws.packages p)
root_of ws asked marks p s (Bin name) = true
root_of ws asked marks p s Script = false
root_of ws asked marks p s Run = false

abbrev pub is_root : Workspace → Bool → List Bool → Unit → Bool
is_root ws asked marks u = root_of ws asked marks u.package u.side u.what

abbrev pub root_at : Workspace → Bool → List Bool → ℕ → Unit → List ℕ
root_at ws asked marks n u = if is_root ws asked marks u then n ∷ [] else []

pub record AreRoots (ws : Workspace) (selection : Selection) (units : List Unit) (roots : List ℕ) : Type 0 where
  pub marks : List Bool
  pub are : (p : ℕ) → (is_on marks p ≡ true) ↔ Contains selection.packages p
  pub is : roots ≡ placed (root_at ws (asks_libraries selection) marks) 0 units

-- The graph.

abbrev pub node_of : Workspace → Features → Unit → Node
node_of ws features u = record { key = key_of ws u; needs = map number (needs ws features u) }

pub record IsDrawn (ws : Workspace) (features : Features) (selection : Selection) (units : List Unit) (nodes : List Node) (roots : List ℕ) : Type 0 where
  pub candidates : AreCandidates ws features selection units
  pub nodes_are : nodes ≡ map (node_of ws features) units
  pub roots_are : AreRoots ws selection units roots

-- Names.

abbrev pub missing_by : Workspace → Features → ℕ → ℕ → Entry → List (List ℕ)
missing_by ws features p n e = if (is_enabled features p Target n || is_enabled features p Host n) && not (has_library (slice_get ws.packages e.to)) then name_at ws e.to ∷ [] else []

abbrev pub missing_at : Workspace → Features → ℕ → Package → List (List ℕ)
missing_at ws features p owner = placed (missing_by ws features p) 0 owner.entries

abbrev pub all_missing : Workspace → Features → List (List ℕ)
all_missing ws features = placed (missing_at ws features) 0 ws.packages

abbrev pub owner_of : Option Unit → ℕ
owner_of None = 0
owner_of (Some u) = u.package

-- the name of the package whose unit has this index
abbrev pub name_behind : Workspace → List Unit → ℕ → List ℕ
name_behind ws units n = name_at ws (owner_of (slice_get units n))

-- if the units' graph has no order, for this reason, the plan has this fault
abbrev pub IsRefusal : Workspace → List Unit → OrderFault → PlanFault → Type 0
IsRefusal ws units order_fault.OutOfMemory e = e ≡ OutOfMemory
IsRefusal ws units order_fault.TooMany e = e ≡ TooManyUnits
IsRefusal ws units (order_fault.Circle circle) e = (names : List (List ℕ)) × (e ≡ Cycle names) × IsAscending names × ((name : List ℕ) → Contains names name ↔ Contains (map (name_behind ws units) circle) name)

-- Planned units.

-- a planned unit is made from a step of the order; its output is in `folder`, and its settings come
-- from `line`
pub record IsPlannedFrom (ws : Workspace) (line : List Seen) (folder : List ℕ) (units : List Unit) (step : Step) (p : Planned) : Type 0 where
  pub unit_at : slice_get units step.node ≡ Some p.unit
  pub key : p.key ≡ step.key
  pub out : p.out ≡ below folder step.key
  pub level : p.level ≡ step.level
  pub needs : p.needs ≡ step.needs
  pub reaches : p.reaches ≡ step.reaches
  pub owner : Package
  pub package_at : slice_get ws.packages p.unit.package ≡ Some owner
  pub settings : p.settings ≡ settings_along owner (role_of p.unit) line
