use Rattle.pb_manifest_types.specs.declared.feature.Feature.{Feature}
use Rattle.pb_workspace_types.proofs.Halving.{none_ascend}
use Rattle.pb_workspace_types.proofs.by_name.FeaturesByName.new.Goals as goal

pub invariant_of-result : goal.invariant_of-result
invariant_of-result c = none_ascend (λ (x : Feature). x.name) c.new.result c.new.ensures
