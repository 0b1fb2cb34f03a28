-- What the keys of a plan's units say about these units.
use Rattle.std.specs.Prelude.{◌≡◌, ℕ, ◌==◌, Bool, true, false, if◌then◌else◌, List, [], ◌∷◌, All}
use Rattle.std.specs.List.{list_any}
use Rattle.pb_data.specs.Ascii.{dot, slash}
use Rattle.pb_place_types.specs.Paths.{is_name}
use Rattle.pb_workspace_types.specs.Settled.{IsSettled}
use Rattle.pb_workspace_types.specs.declared.options.Selection.{Selection}
use Rattle.pb_workspace_types.specs.declared.workspace.Workspace.{Workspace}
use Rattle.pb_feature_types.specs.declared.features.Features.{Features}
use Rattle.pb_unit.specs.declared.plan.Planned.{Planned}
use Rattle.pb_unit.specs.declared.plan.Plan.{Plan}
use Rattle.pb_unit.specs.Plan.{IsPlan}
use Rattle.pb_unit.specs.Units.{what_name}

abbrev pub has_point : List ℕ → Bool
has_point text = list_any (λ b. b == dot) text

-- the last word of a text: what follows its last dot, or the whole text if it has no dot
unfoldable pub last_word : List ℕ → List ℕ
last_word [] = []
last_word (b ∷ text) = if has_point text then last_word text else (if b == dot then text else b ∷ text)

-- The key of a unit is the name of one folder. The last word of the key says what the unit is. The
-- last word of the output folder's path says the same.
pub record TellsWhat (p : Planned) : Type 0 where
  pub name : is_name p.key ≡ true
  pub flat : list_any (λ b. b == slash) p.key ≡ false
  pub key : last_word p.key ≡ what_name p.unit.what
  pub out : last_word p.out ≡ what_name p.unit.what

-- The key of each unit of a plan says what the unit is, as `TellsWhat` states.
abbrev pub KeysTellWhat : Type 0
KeysTellWhat = (ws : Workspace) (features : Features) (selection : Selection) (profile : List ℕ) (plan : Plan) → IsSettled ws → IsPlan ws features selection profile plan → All TellsWhat plan.planned
