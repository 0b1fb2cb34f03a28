use Rattle.pb_workspace_types.specs.declared.package.Binary.{Binary}
use Rattle.pb_workspace_types.proofs.Halving.{none_ascend}
use Rattle.pb_workspace_types.proofs.by_name.BinariesByName.new.Goals as goal

pub invariant_of-result : goal.invariant_of-result
invariant_of-result c = none_ascend (λ (x : Binary). x.name) c.new.result c.new.ensures
