-- An item of a feature is read from its spelling alone.
use Rattle.std.proofs.Common.{◌≡◌, ◌&&◌, ◌==◌, [], ◌∷◌, ◌++◌, length, Option, None, Some, ◌∙◌, ap, refl, append_assoc, codes}
use Rattle.std.proofs.lemmas.Bool.{and_parts}
use Rattle.std.proofs.lemmas.Bool.Decides.{Decides-eqb}
use Rattle.std.proofs.lemmas.List.{nil_from_length}
use Rattle.std.proofs.lemmas.Slice.Eq.{bytes_eq-Decides}
use Rattle.std.specs.Str.{bytes_eq}
use Rattle.pb_manifest_types.specs.Features.{parted}
use Rattle.pb_manifest.specs.Features.{own_item, dependency_item, whole_item, item_of, item_of_enabled, parted_item, item_from, item_in}
use Rattle.pb_manifest.specs.Laws.{IsSpelled}
use Rattle.pb_manifest_types.specs.Letters.{is_name, is_feature_name}
use Rattle.pb_manifest_types.specs.Values.{Text}
use Rattle.pb_manifest_types.specs.declared.fault.ManifestFault.TheVariants.{BadFeature}
use Rattle.pb_manifest_types.proofs.Parting.{parted_around}
use Rattle.pb_manifest.proofs.Yields.{Yields, yields_ok, yields_err, yields_either}

own_spelled : (text : Text) → Yields (IsSpelled text) (own_item text)
own_spelled text = yields_either (IsSpelled text) (is_feature_name text) _ _ (λ is. yields_ok (IsSpelled text) _ (record { spelling = refl; letters = is })) (λ is. yields_err (IsSpelled text) BadFeature)

dependency_spelled : (text word name : Text) → text ≡ word ++ 58 ∷ name → Yields (IsSpelled text) (dependency_item word name)
dependency_spelled text word name around =
    yields_either (IsSpelled text) (bytes_eq word (codes "dep") && is_name name) _ _
    (λ is. let (dep, letters) = and_parts (bytes_eq word (codes "dep")) (is_name name) is in
    yields_ok (IsSpelled text) _ (record { spelling = around ∙ ap (λ w. w ++ 58 ∷ name) ((bytes_eq-Decides word (codes "dep")).0 dep); letters = letters }))
    (λ is. yields_err (IsSpelled text) BadFeature)

whole_spelled : (text : Text) (found : Option (Text × Text)) → parted 58 text ≡ found → Yields (IsSpelled text) (whole_item text found)
whole_spelled text None at = own_spelled text
whole_spelled text (Some parts) at = dependency_spelled text parts.0 parts.1 (parted_around 58 text parts.0 parts.1 at)

of_spelled : (text name feature : Text) → text ≡ name ++ 47 ∷ feature → Yields (IsSpelled text) (item_of name feature)
of_spelled text name feature around =
    yields_either (IsSpelled text) (is_name name && is_feature_name feature) _ _
    (λ is. yields_ok (IsSpelled text) _ (record { spelling = around; letters = and_parts (is_name name) (is_feature_name feature) is }))
    (λ is. yields_err (IsSpelled text) BadFeature)

enabled_spelled : (text name between feature : Text) → text ≡ (name ++ 63 ∷ between) ++ 47 ∷ feature → Yields (IsSpelled text) (item_of_enabled name between feature)
enabled_spelled text name between feature around =
    yields_either (IsSpelled text) (length between == 0 && is_name name && is_feature_name feature) _ _
    (λ is. let (front, feature_letters) = and_parts (length between == 0 && is_name name) (is_feature_name feature) is in
    let (none, name_letters) = and_parts (length between == 0) (is_name name) front in
    let empty : between ≡ [] = nil_from_length between ((Decides-eqb (length between) 0).0 none) in
    yields_ok (IsSpelled text) _ (record {
      spelling = around ∙ ap (λ b. (name ++ 63 ∷ b) ++ 47 ∷ feature) empty ∙ append_assoc name (63 ∷ []) (47 ∷ feature);
      letters = (name_letters, feature_letters);
    }))
    (λ is. yields_err (IsSpelled text) BadFeature)

parted_spelled : (text name : Text) (found : Option (Text × Text)) (feature : Text) → parted 63 name ≡ found → text ≡ name ++ 47 ∷ feature → Yields (IsSpelled text) (parted_item name found feature)
parted_spelled text name None feature at around = of_spelled text name feature around
parted_spelled text name (Some parts) feature at around =
    enabled_spelled text parts.0 parts.1 feature (around ∙ ap (λ n. n ++ 47 ∷ feature) (parted_around 63 name parts.0 parts.1 at))

from_spelled : (text : Text) (found : Option (Text × Text)) → parted 47 text ≡ found → Yields (IsSpelled text) (item_from text found)
from_spelled text None at = whole_spelled text (parted 58 text) refl
from_spelled text (Some parts) at = parted_spelled text parts.0 (parted 63 parts.0) parts.1 refl (parted_around 47 text parts.0 parts.1 at)

-- an item that was read has its spelling
pub item_spelled : (text : Text) → Yields (IsSpelled text) (item_in text)
item_spelled text = from_spelled text (parted 47 text) refl
