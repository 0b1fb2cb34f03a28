use Rattle.pb_workspace_types.specs.declared.package.Entry.{Entry}
use Rattle.pb_workspace_types.specs.ByKey.{table_key}
use Rattle.pb_workspace_types.proofs.Halving.{none_ascend}
use Rattle.pb_workspace_types.proofs.by_key.EntriesByKey.new.Goals as goal

pub invariant_of-result : goal.invariant_of-result
invariant_of-result c = none_ascend (λ (x : Entry). table_key x.kind x.key) c.new.result c.new.ensures
