use Rattle.std.proofs.Common.{◌≡◌, ℕ, List, [], IfOk, Result, Ok, map, sym, ◌∙◌, ap, subst}
use Rattle.std.specs.declared.alloc.AllocError.{AllocError}
use Rattle.pb_manifest_types.specs.declared.dependency.Dependency.{Dependency}
use Rattle.pb_manifest_types.specs.declared.feature.Feature.{Feature}
use Rattle.pb_manifest_types.specs.declared.feature.FeatureItem.{FeatureItem}
use Rattle.pb_workspace_package.specs.Drafted.{AreFeatures}
use Rattle.pb_workspace_package.specs.Features.{feature_of, with_made, with_written}
use Rattle.pb_workspace_package.proofs.KeptByName.{features_kept}
use Rattle.pb_workspace_package.proofs.features.features_of.Goals as goal

-- the steps over plain values: what was made, kept by a call, and what is put over it
all_put : (written slice again : List Feature) (ds bs : List Dependency) (r : Result (List (List ℕ × List FeatureItem)) AllocError) (made put items : List (List ℕ × List FeatureItem)) → slice ≡ written
    → IfOk r (λ m. m ≡ with_made slice (with_made slice [] ds) bs) → again ≡ written → r ≡ Ok made → put ≡ with_written made again → items ≡ put → items ≡ with_written (with_made written (with_made written [] ds) bs) written
all_put written slice again ds bs r made put items lent gives same is over all =
    let there : made ≡ with_made slice (with_made slice [] ds) bs = subst (λ (x : Result (List (List ℕ × List FeatureItem)) AllocError). IfOk x (λ m. m ≡ with_made slice (with_made slice [] ds) bs)) is gives in
    all ∙ over ∙ ap (with_written made) same ∙ ap (λ m. with_written m written) (there ∙ ap (λ fs. with_made fs (with_made fs [] ds) bs) lent)

pub from_items-requires : goal.from_items-requires
from_items-requires c =
    (features_kept c.args.written c.in_ok-features.features c.args.dependencies.now c.args.build.now c.in_ok-items.items c.requires.features c.requires.normal c.requires.build
    (all_put c.args.written _ _ c.args.dependencies.now c.args.build.now _ _ _ _ c.as_slice.ensures c.made_of-made.ensures c.in_ok-written.ensures.both.0 c.in_ok-written.ensures.both.1 c.in_ok-add_written.ensures c.in_ok-items.ensures.same)
    c.in_ok-items.ensures.order c.in_ok-features.ensures).order

pub returns-clause-features : goal.returns-clause-features
returns-clause-features c =
    c.from_items.ensures ∙ c.in_ok-features.ensures ∙ ap (map feature_of)
    (all_put c.args.written _ _ c.args.dependencies.now c.args.build.now _ _ _ _ c.as_slice.ensures c.made_of-made.ensures c.in_ok-written.ensures.both.0 c.in_ok-written.ensures.both.1 c.in_ok-add_written.ensures c.in_ok-items.ensures.same)

pub returns-clause-kept : goal.returns-clause-kept
returns-clause-kept c =
    subst AreFeatures (sym c.from_items.ensures)
    (features_kept c.args.written c.in_ok-features.features c.args.dependencies.now c.args.build.now c.in_ok-items.items c.requires.features c.requires.normal c.requires.build
    (all_put c.args.written _ _ c.args.dependencies.now c.args.build.now _ _ _ _ c.as_slice.ensures c.made_of-made.ensures c.in_ok-written.ensures.both.0 c.in_ok-written.ensures.both.1 c.in_ok-add_written.ensures c.in_ok-items.ensures.same)
    c.in_ok-items.ensures.order c.in_ok-features.ensures)
