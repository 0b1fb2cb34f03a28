-- A unit of a plan reaches what it needs.
use Rattle.std.proofs.Common.{◌≡◌, ℕ, suc, List, [], ◌∷◌, Some, Contains, refl, arith, slice_get}
use Rattle.std.specs.List.{AllByRecursion}
use Rattle.pb_graph.proofs.Membership.{all_at}
use Rattle.pb_feature_types.specs.declared.features.Features.{Features}
use Rattle.pb_unit.specs.Plan.{AreIndices, IsPlan}
use Rattle.pb_unit.specs.Units.{needs, Reaches, direct}
use Rattle.pb_unit.specs.declared.plan.Plan.{Plan}
use Rattle.pb_unit.specs.declared.plan.Planned.{Planned}
use Rattle.pb_workspace_types.specs.declared.options.Selection.{Selection}
use Rattle.pb_workspace_types.specs.declared.workspace.Workspace.{Workspace}

all_contained : {A : Type 0} (P : A → Type 0) (xs : List A) → ((x : A) → Contains xs x → P x) → AllByRecursion P xs
all_contained P [] each = tt
all_contained P (x ∷ xs) each = (each x (0, omega arith, refl), all_contained P xs (λ y (k, lt, at). each y (suc k, omega (arith, lt), at)))

pub reaches_needs : (ws : Workspace) (features : Features) (selection : Selection) (profile : List ℕ) (plan : Plan) (i : ℕ) (u : Planned) → IsPlan ws features selection profile plan → slice_get plan.planned i ≡ Some u
    → AllByRecursion (Contains u.reaches) u.needs
reaches_needs ws features selection profile plan i u is at =
    let needed : AreIndices plan.planned (Contains (needs ws features u.unit)) u.needs = all_at (λ (p : Planned). AreIndices plan.planned (Contains (needs ws features p.unit)) p.needs) plan.planned i u is.needs at in
    let reached : AreIndices plan.planned (Reaches ws features u.unit) u.reaches = all_at (λ (p : Planned). AreIndices plan.planned (Reaches ws features p.unit) p.reaches) plan.planned i u is.reaches at in
    all_contained (Contains u.reaches) u.needs (λ index among. let (v, there, wanted) = (needed.same index).0 among in (reached.same index).1 (v, there, direct u.unit v.unit wanted))
