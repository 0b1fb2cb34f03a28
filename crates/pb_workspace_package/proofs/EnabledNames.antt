-- Names that are mentioned once are found among them just where some feature lists them.
use Rattle.std.proofs.Common.{◌≡◌, ℕ, ◌+◌, ◌<◌, Bool, true, false, not, ◌&&◌, ◌||◌, if◌then◌else◌, List, [], ◌∷◌, add-one, length, get_or, drop, refl, sym, ◌∙◌, ap}
use Rattle.std.proofs.Math.Seq.{drop-cons}
use Rattle.std.proofs.lemmas.List.Folds.{list_any-append}
use Rattle.std.specs.List.{flat_map, list_any}
use Rattle.std.specs.Str.{bytes_eq}
use Rattle.pb_data.specs.OrderedSet.{is_mentioned, mentioned_all}
use Rattle.pb_data.proofs.MentionLemmas.{mentioned_all-append, mentioned_all-once, is_mentioned-once}
use Rattle.pb_manifest_types.specs.declared.dependency.Dependency.{Dependency}
use Rattle.pb_manifest_types.specs.declared.feature.Feature.{Feature}
use Rattle.pb_manifest_types.specs.declared.feature.FeatureItem.{FeatureItem}
use Rattle.pb_manifest_types.specs.declared.feature.FeatureItem.TheVariants as item
use Rattle.pb_workspace_package.specs.Enabling.{named_by, named_in, AreEnabledNames, with_one}
use Rattle.pb_workspace_package.specs.Features.{enables, is_enabled_by_name, with_made}
use Rattle.pb_workspace_package.specs.Sorted.{with_entry}

or_nothing : (b : Bool) → (b || false) ≡ b
or_nothing true = refl
or_nothing false = refl

one_named : (name : List ℕ) (i : FeatureItem) → is_mentioned (named_by i) name ≡ enables name i
one_named name (item.Dependency dependency) = or_nothing (bytes_eq name dependency)
one_named name _ = refl

items_named : (name : List ℕ) (items : List FeatureItem) → is_mentioned (flat_map named_by items) name ≡ list_any (enables name) items
items_named name [] = refl
items_named name (i ∷ items) =
    list_any-append (bytes_eq name) (named_by i) (flat_map named_by items) ∙ ap (λ b. b || is_mentioned (flat_map named_by items) name) (one_named name i) ∙ ap (λ b. enables name i || b) (items_named name items)

features_named : (name : List ℕ) (features : List Feature) → is_mentioned (flat_map named_in features) name ≡ is_enabled_by_name name features
features_named name [] = refl
features_named name (f ∷ features) =
    list_any-append (bytes_eq name) (named_in f) (flat_map named_in features) ∙ ap (λ b. b || is_mentioned (flat_map named_in features) name) (items_named name f.items)
    ∙ ap (λ b. list_any (enables name) f.items || b) (features_named name features)

pub enabled_names : (names : List (List ℕ)) (features : List Feature) → names ≡ mentioned_all [] (flat_map named_in features) → AreEnabledNames names features
enabled_names names features same name =
    ap (λ texts. is_mentioned texts name) (same ∙ mentioned_all-once (flat_map named_in features)) ∙ is_mentioned-once (flat_map named_in features) name ∙ features_named name features

-- a loop's step: what one thing says is mentioned, and then the rest
pub mentioned_step : {A : Type 0} (f : A → List (List ℕ)) (xs : List A) (i : ℕ) (x : A) (seen now_seen whole : List (List ℕ)) → i < length xs → x ≡ get_or xs i x
    → now_seen ≡ mentioned_all seen (f x) → mentioned_all seen (flat_map f (drop i xs)) ≡ whole → mentioned_all now_seen (flat_map f (drop (i + 1) xs)) ≡ whole
mentioned_step f xs i x seen now_seen whole lt is made before =
    ap (λ s. mentioned_all s (flat_map f (drop (i + 1) xs))) made ∙ sym (mentioned_all-append seen (f x) (flat_map f (drop (i + 1) xs)))
    ∙ sym (ap (λ ys. mentioned_all seen (flat_map f ys)) (drop-cons xs i x lt ∙ ap (λ n. get_or xs i x ∷ drop n xs) (sym (add-one i)) ∙ ap (λ y. y ∷ drop (i + 1) xs) (sym is))) ∙ before

-- a loop's step: the feature that one entry makes is put
pub made_step : (written : List Feature) (names : List (List ℕ)) → AreEnabledNames names written → (ds : List Dependency) (i : ℕ) (d : Dependency) (es now_es whole : List (List ℕ × List FeatureItem))
    → i < length ds → d ≡ get_or ds i d → now_es ≡ with_one names es d → with_made written es (drop i ds) ≡ whole → with_made written now_es (drop (i + 1) ds) ≡ whole
made_step written names named ds i d es now_es whole lt is made before =
    let rest : List Dependency = drop (i + 1) ds in
    ap (λ s. with_made written s rest) made
    ∙ ap (λ b. with_made written (if d.optional && not b then with_entry es d.key (item.Dependency d.key ∷ []) else es) rest) (named d.key)
    ∙ sym (ap (with_made written es) (drop-cons ds i d lt ∙ ap (λ n. get_or ds i d ∷ drop n ds) (sym (add-one i)) ∙ ap (λ y. y ∷ rest) (sym is))) ∙ before
