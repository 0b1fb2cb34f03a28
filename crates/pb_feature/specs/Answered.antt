-- How we decide whether a requested text is a feature of a package. Only private functions need
-- these definitions.
use Rattle.std.specs.Prelude.{◌≡◌, ℕ, Bool, false, List, Option, Some, None, Contains, slice_get}
use Rattle.std.specs.List.{list_any}
use Rattle.pb_manifest_types.specs.declared.feature.Feature.{Feature}
use Rattle.pb_workspace_types.specs.declared.package.Package.{Package}
use Rattle.pb_workspace_types.specs.declared.options.Selection.{Selection}
use Rattle.pb_feature.specs.Rules.{is_text_of}

abbrev pub is_owner_of : Package → List ℕ → Bool
is_owner_of owner text = list_any (λ (f : Feature). is_text_of owner.name f.name text) owner.features

abbrev pub owner_is : Option Package → List ℕ → Bool
owner_is None text = false
owner_is (Some owner) text = is_owner_of owner text

abbrev pub is_owner_at : List Package → List ℕ → ℕ → Bool
is_owner_at ps text p = owner_is (slice_get ps p) text

abbrev pub is_answered : List Package → List ℕ → List ℕ → Bool
is_answered ps pkgs text = list_any (is_owner_at ps text) pkgs

-- a requested text is not a feature of any selected package
pub record IsUnanswered (ps : List Package) (selection : Selection) : Type 0 where
  pub text : List ℕ
  pub asked : Contains selection.features text
  pub none : is_answered ps selection.packages text ≡ false
