use Rattle.pb_unit.proofs.Numbering.{binary_needs}
use Rattle.pb_unit.proofs.needed.by_binary.Goals as goal

pub returns : goal.returns
returns c = binary_needs c.args.workspace.now c.args.features.now c.args.owner c.args.side c.args.name.now _ _ _ _ c.new-numbers.ensures.items c.in_ok-add_own_library.ensures c.in_ok-add_needed.ensures c.in_ok-add_own_run.ensures
