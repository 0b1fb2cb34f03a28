use Rattle.std.proofs.Common.{rules}
use Rattle.std.proofs.lemmas.Fn.{always_returns_same}
use Rattle.std.specs.Ordering.{nat_cmp}
use Rattle.std.specs.Cmp.Lexicographic.{slice_cmp}
use Rattle.pb_manifest_types.specs.declared.feature.Feature.{Feature}
use Rattle.pb_workspace_types.proofs.Halving.{index_there, index_nowhere}
use Rattle.pb_workspace_types.proofs.by_name.FeaturesByName.index_of.Goals as goal

pub returns-in-Ok : goal.returns-in-Ok
returns-in-Ok c =
    index_there (λ (x : Feature). x.name) c.args.self.now c.self.inside.inside c.as_slice-features.result.now c.args.name.now c.as_slice-features.ensures c.self.view_is c.self.invariant
    c.in-Ok.index c.in-Ok.ensures.bound
    (c.in-Ok.ensures.position (λ (x : Feature). slice_cmp nat_cmp x.name c.args.name.now) (always_returns_same _ _ _ (λ a r f called. search rules)))

pub returns-in-Err : goal.returns-in-Err
returns-in-Err c =
    index_nowhere (λ (x : Feature). x.name) c.args.self.now c.self.inside.inside c.as_slice-features.result.now c.args.name.now c.as_slice-features.ensures c.self.view_is c.self.invariant
    c.in-Err.field-0 (c.in-Err.ensures.position (λ (x : Feature). slice_cmp nat_cmp x.name c.args.name.now) (always_returns_same _ _ _ (λ a r f called. search rules)))
