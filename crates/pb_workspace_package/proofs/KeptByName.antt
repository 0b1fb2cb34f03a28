-- Binaries and features that are put together keep their names and their order.
use Rattle.std.proofs.Common.{◌≡◌, ℕ, List, [], ◌∷◌, map, Bool, true, false, ◌||◌, refl, sym, ap, ◌∙◌, subst, if◌then◌else◌}
use Rattle.std.specs.List.{AllByRecursion}
use Rattle.pb_manifest_types.specs.Letters.{is_name, is_feature_name}
use Rattle.pb_manifest_types.specs.declared.dependency.Dependency.{Dependency}
use Rattle.pb_manifest_types.specs.declared.feature.Feature.{Feature}
use Rattle.pb_manifest_types.specs.declared.feature.FeatureItem.{FeatureItem}
use Rattle.pb_manifest_types.specs.declared.feature.FeatureItem.TheVariants as item
use Rattle.pb_workspace_types.specs.declared.package.Binary.{Binary}
use Rattle.pb_workspace_package.specs.Binaries.{binary_of, with_binaries}
use Rattle.pb_workspace_package.specs.Drafted.{AreBinaries, AreFeatures, IsBinaryNamed, IsFeatureNamed, IsKeyed, IsWrittenFeature}
use Rattle.pb_workspace_package.specs.Features.{feature_of, makes_feature, with_made, with_written}
use Rattle.pb_workspace_types.specs.Settled.{IsAscending}
use Rattle.pb_workspace_package.specs.Sorted.{with_entry}
use Rattle.pb_workspace_package.proofs.Puttings.{with_entry_all, all_map, map_twice}

-- binaries
abbrev NamedEntry : List ℕ × Binary → Type 0
NamedEntry e = is_name e.0 ≡ true

with_named : (es : List (List ℕ × Binary)) (bs : List Binary) → AllByRecursion NamedEntry es → AllByRecursion IsBinaryNamed bs → AllByRecursion NamedEntry (with_binaries es bs)
with_named es [] all named = all
with_named es (b ∷ bs) all named = with_named (with_entry es b.name b) bs (with_entry_all NamedEntry es b.name b all named.0) named.1

pub binaries_kept : (found written made : List Binary) (es : List (List ℕ × Binary)) → AllByRecursion IsBinaryNamed found → AllByRecursion IsBinaryNamed written
    → es ≡ with_binaries (with_binaries [] found) written → IsAscending (map (λ e. e.0) es) → made ≡ map binary_of es → AreBinaries made
binaries_kept found written made es one two put order is = record {
  named = subst (AllByRecursion IsBinaryNamed) (sym is) (all_map IsBinaryNamed binary_of es (subst (AllByRecursion NamedEntry) (sym put) (with_named _ written (with_named [] found tt one) two)));
  order = subst IsAscending (sym (ap (map (λ (b : Binary). b.name)) is ∙ map_twice (λ (b : Binary). b.name) binary_of es)) order;
}

-- features
abbrev FeatureEntry : List ℕ × List FeatureItem → Type 0
FeatureEntry e = is_feature_name e.0 || is_name e.0 ≡ true

or_right : (a b : Bool) → b ≡ true → (a || b) ≡ true
or_right true b on = refl
or_right false b on = on

made_named : (written : List Feature) (es : List (List ℕ × List FeatureItem)) (ds : List Dependency) → AllByRecursion FeatureEntry es → AllByRecursion IsKeyed ds → AllByRecursion FeatureEntry (with_made written es ds)
made_named written es [] all named = all
made_named written es (d ∷ ds) all named = by (makes_feature written d) (λ next keeps. made_named written next ds keeps named.1)
  where
    by : (b : Bool) → ((next : List (List ℕ × List FeatureItem)) → AllByRecursion FeatureEntry next → AllByRecursion FeatureEntry (with_made written next ds))
        → AllByRecursion FeatureEntry (with_made written (if b then with_entry es d.key (item.Dependency d.key ∷ []) else es) ds)
    by true rest = rest _ (with_entry_all FeatureEntry es d.key _ all (or_right (is_feature_name d.key) (is_name d.key) named.0))
    by false rest = rest es all

written_named : (es : List (List ℕ × List FeatureItem)) (fs : List Feature) → AllByRecursion FeatureEntry es → AllByRecursion IsWrittenFeature fs → AllByRecursion FeatureEntry (with_written es fs)
written_named es [] all named = all
written_named es (f ∷ fs) all named = written_named (with_entry es f.name f.items) fs (with_entry_all FeatureEntry es f.name f.items all (ap (λ b. b || is_name f.name) named.0)) named.1

pub features_kept : (written made : List Feature) (ds bs : List Dependency) (es : List (List ℕ × List FeatureItem)) → AllByRecursion IsWrittenFeature written → AllByRecursion IsKeyed ds → AllByRecursion IsKeyed bs
    → es ≡ with_written (with_made written (with_made written [] ds) bs) written → IsAscending (map (λ e. e.0) es) → made ≡ map feature_of es → AreFeatures made
features_kept written made ds bs es one two three put order is = record {
  named = subst (AllByRecursion IsFeatureNamed) (sym is)
      (all_map IsFeatureNamed feature_of es (subst (AllByRecursion FeatureEntry) (sym put) (written_named _ written (made_named written _ bs (made_named written [] ds tt two) three) one)));
  order = subst IsAscending (sym (ap (map (λ (f : Feature). f.name)) is ∙ map_twice (λ (f : Feature). f.name) feature_of es)) order;
}
