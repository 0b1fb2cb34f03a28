use Rattle.pb_manifest_types.specs.declared.dependency.WorkspaceDependency.{WorkspaceDependency}
use Rattle.pb_workspace_types.proofs.Halving.{none_ascend}
use Rattle.pb_workspace_package.proofs.by_key.SharedByKey.new.Goals as goal

pub invariant_of-result : goal.invariant_of-result
invariant_of-result c = none_ascend (λ (x : WorkspaceDependency). x.key) c.new.result c.new.ensures
