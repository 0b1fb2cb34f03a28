-- Each unit of a plan has its target.
use Rattle.std.proofs.Common.{◌≡◌, inl, inr, ℕ, true, List, [], ◌∷◌, ◌++◌, Option, Some, None, codes, refl, slice_get}
use Rattle.std.specs.Prelude.{is_some}
use Rattle.pb_feature_types.specs.declared.features.Features.{Features}
use Rattle.pb_directive.specs.Metadata.{underscored}
use Rattle.pb_manifest_types.specs.declared.target.CrateType.{CrateType}
use Rattle.pb_manifest_types.specs.declared.target.CrateType.TheVariants as crate_type
use Rattle.pb_workspace_types.specs.declared.options.Selection.{Selection}
use Rattle.pb_workspace_types.specs.declared.package.Package.{Package}
use Rattle.pb_workspace_types.specs.declared.package.Side.{Side}
use Rattle.pb_workspace_types.specs.declared.package.Side.TheVariants.{Target, Host}
use Rattle.pb_workspace_types.specs.declared.workspace.Workspace.{Workspace}
use Rattle.pb_unit.specs.Units.{unit, has_library, Reaches, direct, onward, IsRoot, library as root_library, binary as root_binary}
use Rattle.pb_unit.specs.declared.unit.Unit.{Unit}
use Rattle.pb_unit.specs.declared.unit.What.{What}
use Rattle.pb_unit.specs.declared.unit.What.TheVariants.{Lib, Bin, Script, Run}
use Rattle.pb_unit_laws.specs.Needs.{Needs, dependency, own_run, own_library, tool, own_script, handed_on}
use Rattle.pb_unit_laws.specs.Targets.{IsTarget, library, binary, script, UnitHasTarget, compile, run, PlansHaveTargets}
use Rattle.pb_unit_laws.proofs.Needing.{needs_are}

some_of : {A : Type 0} (o : Option A) → is_some o ≡ true → (x : A) × (o ≡ Some x)
some_of None is = absurd (cc)
some_of (Some x) is = (x, refl)

module _ (ws : Workspace) where
  with_library : (p : ℕ) (s : Side) → has_library (slice_get ws.packages p) ≡ true → UnitHasTarget ws (unit p s Lib)
  with_library p s is = by (slice_get ws.packages p) refl is
    where
      by : (o : Option Package) → slice_get ws.packages p ≡ o → has_library o ≡ true → UnitHasTarget ws (unit p s Lib)
      by None at made = absurd (cc)
      by (Some owner) at made = let (l, has) = some_of owner.library made in compile p s Lib owner at l.name l.crate_types l.source (codes "lib" ++ l.name ++ codes ".rlib") (library l has)

  with_run : (p : ℕ) (s : Side) (owner : Package) → slice_get ws.packages p ≡ Some owner → is_some owner.script ≡ true → UnitHasTarget ws (unit p s Run)
  with_run p s owner at made = let (source, has) = some_of owner.script made in run p s owner at source has

  no_run : (p : Package) (what : What) (crate : List ℕ) (types : List CrateType) (source file : List ℕ) → IsTarget p what crate types source file → what ≡ Run → ⊥
  no_run p _ _ _ _ _ (library l has) is = cc
  no_run p _ _ _ _ _ (binary b has) is = cc
  no_run p _ _ _ _ _ (script source has) is = cc

  -- the script of a run
  to_script : (u : Unit) → UnitHasTarget ws u → u.what ≡ Run → UnitHasTarget ws (unit u.package u.side Script)
  to_script _ (compile p s what owner there crate types source file is) runs = absurd (no_run owner what crate types source file is runs)
  to_script _ (run p s owner there source has) runs = compile p s Script owner there (codes "build_script_build") (crate_type.Bin ∷ []) source (codes "build_script_build") (script source has)

  module _ (features : Features) where
    next_has : (u v : Unit) → Needs ws features u v → UnitHasTarget ws u → UnitHasTarget ws v
    next_has _ _ (dependency p s what n e linked has enabled normal made) it = with_library e.to s made
    next_has _ _ (own_run p s what owner linked there made) it = with_run p s owner there made
    next_has _ _ (own_library p s name made) it = with_library p s made
    next_has _ _ (tool p s n e has enabled build made) it = with_library e.to Host made
    next_has _ _ (own_script p s) it = to_script (unit p s Run) it refl
    next_has _ _ (handed_on p s n e to has enabled normal there made links hands) it = with_run e.to s to there hands

    reached_has : (u v : Unit) → Reaches ws features u v → UnitHasTarget ws u → UnitHasTarget ws v
    reached_has _ _ (direct u v need) it = next_has u v ((needs_are ws features u v).0 need) it
    reached_has _ _ (onward u v w need more) it = reached_has v w more (next_has u v ((needs_are ws features u v).0 need) it)

    root_has : (selection : Selection) (u : Unit) → IsRoot ws features selection u → UnitHasTarget ws u
    root_has selection _ (root_library p selected asked made) = with_library p Target made
    root_has selection _ (root_binary p owner made selected package_at there asked on) = compile p Target (Bin made.name) owner package_at (underscored made.name) (crate_type.Bin ∷ []) made.source (underscored made.name) (binary made there)

pub plans_have : PlansHaveTargets
plans_have ws features selection u (inl root) = root_has ws features selection u root
plans_have ws features selection u (inr (r, root, reaches)) = reached_has ws features r u reaches (root_has ws features selection r root)
