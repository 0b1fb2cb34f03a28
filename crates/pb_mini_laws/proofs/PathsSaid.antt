-- The paths that texts of a manifest say, from a folder with a normalised absolute path.
use Rattle.std.proofs.Common.{◌≡◌, ◌∙◌, ◌||◌, ◌==◌, ℕ, Bool, true, false, if◌then◌else◌, List, ◌∷◌, ◌++◌, refl, ap}
use Rattle.std.proofs.lemmas.List.Folds.{list_any-append}
use Rattle.pb_manifest_types.specs.Letters.{has_zero}
use Rattle.pb_place_types.specs.Paths.{below, has_byte_0, is_absolute, is_path, is_relative}
use Rattle.pb_place_types.proofs.PathLemmas.{below_is_path, parsed_is_path, path_clean}
use Rattle.pb_workspace_package.specs.Sources.{resolved}

pub below_is : (folder relative : List ℕ) → is_path folder ≡ true → is_relative relative ≡ true → is_path (below folder relative) ≡ true
below_is folder relative is named = below_is_path folder relative (below folder relative) is named refl

pub resolved_is : (folder text : List ℕ) → is_path folder ≡ true → has_zero text ≡ false → is_path (resolved folder text) ≡ true
unfolding has_zero
resolved_is folder text is clean = parsed_is_path (if is_absolute text then text else folder ++ 47 ∷ text) _ (without (is_absolute text)) refl
  where
    without : (b : Bool) → has_byte_0 (if b then text else folder ++ 47 ∷ text) ≡ false
    without true = clean
    without false = list_any-append (λ b. b == 0) folder (47 ∷ text) ∙ ap (λ b. b || has_byte_0 (47 ∷ text)) (path_clean folder is) ∙ clean
