-- Law: the definition of resolved features determines which features are on.
use Rattle.std.specs.Prelude.{◌≡◌, ℕ}
use Rattle.pb_feature.specs.Resolved.{IsResolved}
use Rattle.pb_feature_types.specs.Features.{features_at, is_active, is_enabled}
use Rattle.pb_feature_types.specs.declared.features.Features.{Features}
use Rattle.pb_workspace_types.specs.declared.options.Selection.{Selection}
use Rattle.pb_workspace_types.specs.declared.package.Side.{Side}
use Rattle.pb_workspace_types.specs.declared.workspace.Workspace.{Workspace}

-- if `f` and `g` are both features as resolved for one selection, `f` and `g` answer each question
-- about features in the same way
abbrev pub FeaturesAreOne : Type 0
FeaturesAreOne = (ws : Workspace) (selection : Selection) (f g : Features) → IsResolved ws selection f → IsResolved ws selection g
    → (p : ℕ) (s : Side) → (is_active f p s ≡ is_active g p s) × (features_at f p s ≡ features_at g p s) × ((n : ℕ) → is_enabled f p s n ≡ is_enabled g p s n)
