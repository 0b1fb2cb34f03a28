-- Each spelling of an item is read as the item.
use Rattle.std.proofs.Common.{◌≡◌, ℕ, not, ◌||◌, ◌==◌, Bool, true, false, [], ◌∷◌, ◌++◌, length, Ok, sym, ◌∙◌, ap, refl, eqb, append_assoc, codes, inl, inr}
use Rattle.std.proofs.lemmas.Bool.{cases_Bool, and_parts, false≢true}
use Rattle.std.proofs.lemmas.Bool.Decides.{Decides-eqb}
use Rattle.std.specs.List.{list_any, list_all}
use Rattle.pb_manifest_types.proofs.Parting.{Without, neither, parted_none, parted_some}
use Rattle.pb_manifest.specs.Features.{whole_item, parted_item, item_from, item_in}
use Rattle.pb_manifest.specs.Laws.{item_text}
use Rattle.pb_manifest_types.specs.Letters.{is_name, is_name_byte, is_crate_name_byte, is_feature_byte, is_feature_name}
use Rattle.pb_manifest.specs.Promises.{IsItem, IsName, IsFeatureName}
use Rattle.pb_manifest_types.specs.Values.{Text}
use Rattle.pb_manifest_types.specs.declared.feature.FeatureItem.{FeatureItem}
use Rattle.pb_manifest_types.specs.declared.feature.FeatureItem.TheVariants as item

-- a byte of none of the letters is not among them
unlike : (is_letter : ℕ → Bool) (mark b : ℕ) → is_letter mark ≡ false → is_letter b ≡ true → eqb b mark ≡ false
unlike is_letter mark b none is =
    elim (cases_Bool (eqb b mark)) [
      | inl same ↦ absurd (false≢true (sym none ∙ ap is_letter (sym ((Decides-eqb b mark).0 same)) ∙ is))
      | inr other ↦ other
    ]

either : (a b : Bool) → a ≡ false → b ≡ false → (a || b) ≡ false
either a b p q = ap (λ x. x || b) p ∙ q

letters_without : (is_letter : ℕ → Bool) (mark : ℕ) → is_letter mark ≡ false → (text : Text) → list_all is_letter text ≡ true → Without mark text
letters_without is_letter mark none [] all = refl
letters_without is_letter mark none (b ∷ text) all =
    let (here, more) = and_parts (is_letter b) (list_all is_letter text) all in
    either _ _ (unlike is_letter mark b none here) (letters_without is_letter mark none text more)

name_without : (mark : ℕ) → is_name_byte mark ≡ false → (text : Text) → IsName text → Without mark text
unfolding is_name
name_without mark none text is = letters_without is_name_byte mark none text (and_parts (not (length text == 0)) (list_all is_name_byte text) is).1

feature_without : (mark : ℕ) → is_crate_name_byte mark ≡ false → is_feature_byte mark ≡ false → (text : Text) → IsFeatureName text → Without mark text
unfolding is_feature_name
feature_without mark first_none none [] is = cc
feature_without mark first_none none (b ∷ text) is =
    let (here, more) = and_parts (is_crate_name_byte b) (list_all is_feature_byte text) is in
    either _ _ (unlike is_crate_name_byte mark b first_none here) (letters_without is_feature_byte mark none text more)

slash_name : is_name_byte 47 ≡ false
unfolding is_name_byte
slash_name = refl

mark_name : is_name_byte 63 ≡ false
unfolding is_name_byte
mark_name = refl

slash_feature : is_feature_byte 47 ≡ false
unfolding is_feature_byte
slash_feature = refl

colon_feature : is_feature_byte 58 ≡ false
unfolding is_feature_byte
colon_feature = refl

slash_crate : is_crate_name_byte 47 ≡ false
unfolding is_crate_name_byte
slash_crate = refl

colon_crate : is_crate_name_byte 58 ≡ false
unfolding is_crate_name_byte
colon_crate = refl

-- a name after `dep:` has no slash
dep_without : (name : Text) → Without 47 name → Without 47 (codes "dep:" ++ name)
dep_without name none = none

-- `N?` has none either
asked_without : (name : Text) → Without 47 name → Without 47 (name ++ 63 ∷ [])
asked_without [] none = refl
asked_without (b ∷ name) none = let n = neither (eqb b 47) (list_any (λ c. eqb c 47) name) none in either _ _ n.one (asked_without name n.other)

pub spelling_read : (i : FeatureItem) → IsItem i → item_in (item_text i) ≡ Ok i
spelling_read (item.Own feature) is =
    ap (item_from feature) (parted_none 47 feature (feature_without 47 slash_crate slash_feature feature is))
    ∙ ap (whole_item feature) (parted_none 58 feature (feature_without 58 colon_crate colon_feature feature is))
    ∙ rw is refl
spelling_read (item.Dependency name) is =
    ap (item_from (codes "dep:" ++ name)) (parted_none 47 (codes "dep:" ++ name) (dep_without name (name_without 47 slash_name name is)))
    ∙ ap (whole_item (codes "dep:" ++ name)) (parted_some 58 (codes "dep") name refl)
    ∙ rw is refl
spelling_read (item.Of name feature) is =
    ap (item_from (name ++ 47 ∷ feature)) (parted_some 47 name feature (name_without 47 slash_name name is.0))
    ∙ ap (λ found. parted_item name found feature) (parted_none 63 name (name_without 63 mark_name name is.0))
    ∙ rw (is.0, is.1) refl
spelling_read (item.OfEnabled name feature) is =
    let whole : (name ++ 63 ∷ []) ++ 47 ∷ feature ≡ name ++ 63 ∷ 47 ∷ feature = append_assoc name (63 ∷ []) (47 ∷ feature) in
    ap item_in (sym whole)
    ∙ ap (item_from ((name ++ 63 ∷ []) ++ 47 ∷ feature)) (parted_some 47 (name ++ 63 ∷ []) feature (asked_without name (name_without 47 slash_name name is.0)))
    ∙ ap (λ found. parted_item (name ++ 63 ∷ []) found feature) (parted_some 63 name [] (name_without 63 mark_name name is.0))
    ∙ rw (is.0, is.1) refl
