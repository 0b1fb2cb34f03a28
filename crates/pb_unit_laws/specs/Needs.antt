-- What a unit needs (The Cargo Book, Specifying Dependencies, Build Scripts). There is a rule for
-- each kind of unit.
use Rattle.std.specs.Prelude.{◌≡◌, ◌↔◌, ℕ, true, is_some, List, Contains, Some, slice_get}
use Rattle.pb_feature_types.specs.Features.{is_enabled}
use Rattle.pb_feature_types.specs.declared.features.Features.{Features}
use Rattle.pb_workspace_types.specs.Workspace.{HasEntry}
use Rattle.pb_workspace_types.specs.declared.package.DependencyKind.TheVariants.{Normal, Build}
use Rattle.pb_workspace_types.specs.declared.package.Entry.{Entry}
use Rattle.pb_workspace_types.specs.declared.package.Package.{Package}
use Rattle.pb_workspace_types.specs.declared.package.Side.{Side}
use Rattle.pb_workspace_types.specs.declared.package.Side.TheVariants.{Host}
use Rattle.pb_workspace_types.specs.declared.workspace.Workspace.{Workspace}
use Rattle.pb_unit.specs.Units.{unit, has_library, needs}
use Rattle.pb_unit.specs.declared.unit.Unit.{Unit}
use Rattle.pb_unit.specs.declared.unit.What.{What}
use Rattle.pb_unit.specs.declared.unit.What.TheVariants.{Lib, Bin, Script, Run}

-- a unit of this kind is compiled with the `[dependencies]` of its package
pub data UsesDependencies : What → Type 0 where
  a_library : UsesDependencies Lib
  a_binary : (name : List ℕ) → UsesDependencies (Bin name)

pub data Needs (ws : Workspace) (features : Features) : Unit → Unit → Type 0 where
  -- A library or a binary needs the library of each enabled normal entry, on the same side. It also
  -- needs the run of its own package, if the package has a script.
  dependency : (p : ℕ) (s : Side) (what : What) (n : ℕ) (e : Entry) (linked : UsesDependencies what) (has : HasEntry ws p n e) (enabled : is_enabled features p s n ≡ true) (normal : e.kind ≡ Normal) (made : has_library (slice_get ws.packages e.to) ≡ true) → Needs ws features (unit p s what) (unit e.to s Lib)
  own_run : (p : ℕ) (s : Side) (what : What) (owner : Package) (linked : UsesDependencies what) (there : slice_get ws.packages p ≡ Some owner) (script : is_some owner.script ≡ true) → Needs ws features (unit p s what) (unit p s Run)
  -- a binary needs its package's library
  own_library : (p : ℕ) (s : Side) (name : List ℕ) (made : has_library (slice_get ws.packages p) ≡ true) → Needs ws features (unit p s (Bin name)) (unit p s Lib)
  -- a script needs the library of each enabled build entry, on the host's side
  tool : (p : ℕ) (s : Side) (n : ℕ) (e : Entry) (has : HasEntry ws p n e) (enabled : is_enabled features p s n ≡ true) (build : e.kind ≡ Build) (made : has_library (slice_get ws.packages e.to) ≡ true) → Needs ws features (unit p s Script) (unit e.to Host Lib)
  -- A run needs its own script. If the package of an enabled normal entry has a library, `links`
  -- and a script, the run also needs the run of that package.
  own_script : (p : ℕ) (s : Side) → Needs ws features (unit p s Run) (unit p s Script)
  handed_on : (p : ℕ) (s : Side) (n : ℕ) (e : Entry) (to : Package) (has : HasEntry ws p n e) (enabled : is_enabled features p s n ≡ true) (normal : e.kind ≡ Normal) (there : slice_get ws.packages e.to ≡ Some to)
      (made : is_some to.library ≡ true) (links : is_some to.links ≡ true) (script : is_some to.script ≡ true) → Needs ws features (unit p s Run) (unit e.to s Run)

-- `needs` contains exactly the units that a unit needs by these rules
abbrev pub NeedsAreThese : Type 0
NeedsAreThese = (ws : Workspace) (features : Features) (u v : Unit) → Contains (needs ws features u) v ↔ Needs ws features u v
