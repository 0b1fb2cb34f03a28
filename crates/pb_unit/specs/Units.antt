-- Units: their keys, what each unit needs, and which units a build has (The Cargo Book, Build
-- Scripts, Features, cargo build).
use Rattle.std.specs.Prelude.{◌≡◌, ◌⊎◌, ℕ, Bool, true, false, not, ◌&&◌, ◌||◌, ◌==◌, if◌then◌else◌, is_some, codes, List, [], ◌∷◌, ◌++◌, All, Contains, length, Option, Some, None, slice_get}
use Rattle.pb_data.specs.Ascii.{dot}
use Rattle.pb_data.specs.OrderedSet.{is_mentioned}
use Rattle.pb_graph.specs.Placed.{placed}
use Rattle.pb_workspace_types.specs.declared.package.Side.{Side}
use Rattle.pb_workspace_types.specs.declared.package.Side.TheVariants.{Target, Host}
use Rattle.pb_workspace_types.specs.declared.package.DependencyKind.{DependencyKind}
use Rattle.pb_workspace_types.specs.declared.package.DependencyKind.TheVariants.{Normal, Build}
use Rattle.pb_workspace_types.specs.declared.package.Package.{Package}
use Rattle.pb_workspace_types.specs.declared.package.Binary.{Binary}
use Rattle.pb_workspace_types.specs.declared.package.Entry.{Entry}
use Rattle.pb_workspace_types.specs.declared.options.Selection.{Selection}
use Rattle.pb_workspace_types.specs.declared.workspace.Workspace.{Workspace}
use Rattle.pb_feature_types.specs.declared.features.Features.{Features}
use Rattle.pb_feature_types.specs.Features.{features_at, is_enabled}
use Rattle.pb_unit.specs.declared.unit.Unit.{Unit}
use Rattle.pb_unit.specs.declared.unit.What.{What}
use Rattle.pb_unit.specs.declared.unit.What.TheVariants.{Lib, Bin, Script, Run}

-- the unit of kind `w` of the package at the index `p`, on the side `s`
abbrev pub unit : ℕ → Side → What → Unit
unit p s w = record { «package» = p; side = s; what = w }

-- Keys.

abbrev pub name_of : Option Package → List ℕ
name_of None = []
name_of (Some p) = p.name

-- the name of the package at an index
abbrev pub name_at : Workspace → ℕ → List ℕ
name_at ws p = name_of (slice_get ws.packages p)

abbrev pub side_name : Side → List ℕ
side_name Target = codes "target"
side_name Host = codes "host"

abbrev pub what_name : What → List ℕ
what_name Lib = codes "lib"
what_name (Bin name) = codes "bin-" ++ name
what_name Script = codes "script"
what_name Run = codes "run"

-- a unit's key: `PACKAGE.SIDE.WHAT`
abbrev pub key_of : Workspace → Unit → List ℕ
key_of ws u = name_at ws u.package ++ dot ∷ (side_name u.side ++ dot ∷ what_name u.what)

-- The role for which a unit is compiled. Scripts have the host's role. Any other unit has the role
-- of its side.
abbrev pub role_at : Side → What → Side
role_at s Script = Host
role_at s _ = s

abbrev pub role_of : Unit → Side
role_of u = role_at u.side u.what

-- What a package has.

abbrev pub has_library : Option Package → Bool
has_library None = false
has_library (Some p) = is_some p.library

abbrev pub has_script : Option Package → Bool
has_script None = false
has_script (Some p) = is_some p.script

-- The package has a library, `links` and a script. The script of such a package passes metadata on.
-- In a workspace that was read, each package with `links` has a script.
abbrev pub hands_on : Option Package → Bool
hands_on None = false
hands_on (Some p) = is_some p.library && is_some p.links && is_some p.script

abbrev pub entries_of : Option Package → List Entry
entries_of None = []
entries_of (Some p) = p.entries

abbrev pub entries_at : Workspace → ℕ → List Entry
entries_at ws p = entries_of (slice_get ws.packages p)

abbrev pub is_normal : DependencyKind → Bool
is_normal Normal = true
is_normal Build = false

abbrev pub is_build : DependencyKind → Bool
is_build Normal = false
is_build Build = true

-- Needs.

-- the library to which an enabled normal entry leads, on the same side; no unit for any other entry
abbrev pub library_by : Workspace → Features → ℕ → Side → ℕ → Entry → List Unit
library_by ws features p s n e = if is_enabled features p s n && is_normal e.kind && has_library (slice_get ws.packages e.to) then unit e.to s Lib ∷ [] else []

-- the library to which an enabled build entry leads, on the host's side; no unit for any other
-- entry
abbrev pub tool_by : Workspace → Features → ℕ → Side → ℕ → Entry → List Unit
tool_by ws features p s n e = if is_enabled features p s n && is_build e.kind && has_library (slice_get ws.packages e.to) then unit e.to Host Lib ∷ [] else []

-- the run of the package to which an enabled normal entry leads, if this package has a library,
-- `links` and a script
abbrev pub run_by : Workspace → Features → ℕ → Side → ℕ → Entry → List Unit
run_by ws features p s n e = if is_enabled features p s n && is_normal e.kind && hands_on (slice_get ws.packages e.to) then unit e.to s Run ∷ [] else []

-- The libraries of all normal entries of a package. `tools` are the libraries of the package's
-- build entries, and `runs` are the runs of the package's normal entries.
abbrev pub libraries : Workspace → Features → ℕ → Side → List Unit
libraries ws features p s = placed (library_by ws features p s) 0 (entries_at ws p)

abbrev pub tools : Workspace → Features → ℕ → Side → List Unit
tools ws features p s = placed (tool_by ws features p s) 0 (entries_at ws p)

abbrev pub runs : Workspace → Features → ℕ → Side → List Unit
runs ws features p s = placed (run_by ws features p s) 0 (entries_at ws p)

-- The package's own library, if the package has a library. `own_run` is the package's own run, if
-- the package has a script.
abbrev pub own_library : Workspace → ℕ → Side → List Unit
own_library ws p s = if has_library (slice_get ws.packages p) then unit p s Lib ∷ [] else []

abbrev pub own_run : Workspace → ℕ → Side → List Unit
own_run ws p s = if has_script (slice_get ws.packages p) then unit p s Run ∷ [] else []

-- What a unit needs. A library needs its dependencies' libraries, and its package's run. A binary
-- needs the same, and its package's library. A script needs its build dependencies' libraries for
-- the host. A run needs its script, and the run of each dependency that has a library, `links` and
-- a script.
abbrev pub needs_of : Workspace → Features → ℕ → Side → What → List Unit
needs_of ws features p s Lib = libraries ws features p s ++ own_run ws p s
needs_of ws features p s (Bin name) = own_library ws p s ++ (libraries ws features p s ++ own_run ws p s)
needs_of ws features p s Script = tools ws features p s
needs_of ws features p s Run = unit p s Script ∷ runs ws features p s

abbrev pub needs : Workspace → Features → Unit → List Unit
needs ws features u = needs_of ws features u.package u.side u.what

-- one unit reaches another if one or more needs lead from the first unit to the second
pub data Reaches (ws : Workspace) (features : Features) : Unit → Unit → Type 0 where
  direct : (u v : Unit) (need : Contains (needs ws features u) v) → Reaches ws features u v
  onward : (u v w : Unit) (need : Contains (needs ws features u) v) (more : Reaches ws features v w) → Reaches ws features u w

-- Roots.

-- the options do not restrict which units of the selected packages are built
abbrev pub asks_all : Selection → Bool
asks_all selection = not (selection.lib || selection.bins || not (length selection.bin == 0))

-- libraries are built: `--lib` was given, or no option restricts what is built
abbrev pub asks_libraries : Selection → Bool
asks_libraries selection = selection.lib || asks_all selection

-- binaries with this name are built: `--bins` or `--bin NAME` was given, or no option restricts
-- what is built
abbrev pub asks_binary : Selection → List ℕ → Bool
asks_binary selection name = selection.bins || is_mentioned selection.bin name || asks_all selection

-- The unit is one that a build must make: the library or a binary of a selected package, for the
-- target. A binary is made only if all features that it requires are on.
pub data IsRoot (ws : Workspace) (features : Features) (selection : Selection) : Unit → Type 0 where
  library : (p : ℕ) (selected : Contains selection.packages p) (asked : asks_libraries selection ≡ true) (there : has_library (slice_get ws.packages p) ≡ true) → IsRoot ws features selection (unit p Target Lib)
  binary : (p : ℕ) (owner : Package) (made : Binary) (selected : Contains selection.packages p) (package_at : slice_get ws.packages p ≡ Some owner) (there : Contains owner.binaries made) (asked : asks_binary selection made.name ≡ true)
      (on : All (Contains (features_at features p Target)) made.required_features) → IsRoot ws features selection (unit p Target (Bin made.name))

-- the plan has the unit: the unit is a root, or a root reaches the unit
abbrev pub IsPlanned : Workspace → Features → Selection → Unit → Type 0
IsPlanned ws features selection u = IsRoot ws features selection u ⊎ ((r : Unit) × IsRoot ws features selection r × Reaches ws features r u)
