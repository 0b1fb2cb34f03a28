-- Which features are on in a workspace.
use Rattle.std.specs.Prelude.{◌↔◌, ℕ, IsTrue, List, Contains}
use Rattle.pb_workspace_types.specs.declared.package.Side.{Side}
use Rattle.pb_workspace_types.specs.declared.options.Selection.{Selection}
use Rattle.pb_workspace_types.specs.declared.workspace.Workspace.{Workspace}
use Rattle.pb_workspace_types.specs.Settled.{IsAscending}
use Rattle.pb_feature_types.specs.Features.{is_active, features_at, is_enabled}
use Rattle.pb_feature_types.specs.declared.features.Features.{Features}
use Rattle.pb_feature.specs.Facts.{On, Has, Enabled, Holds}

-- The resolved features are exactly the facts: each package that is on, each such package's
-- features in byte order, and each enabled entry.
pub record IsResolved (ws : Workspace) (selection : Selection) (features : Features) : Type 0 where
  pub active : (p : ℕ) (s : Side) → IsTrue (is_active features p s) ↔ Holds ws selection (On p s)
  pub has : (p : ℕ) (s : Side) (f : List ℕ) → Contains (features_at features p s) f ↔ Holds ws selection (Has p s f)
  pub enabled : (p : ℕ) (s : Side) (n : ℕ) → IsTrue (is_enabled features p s n) ↔ Holds ws selection (Enabled p s n)
  pub order : (p : ℕ) (s : Side) → IsAscending (features_at features p s)
