use Rattle.pb_unit.proofs.Numbering.{script_needs}
use Rattle.pb_unit.proofs.needed.by_script.Goals as goal

pub returns : goal.returns
returns c = script_needs c.args.workspace.now c.args.features.now c.args.owner c.args.side _ _ c.new-numbers.ensures.items c.in_ok-add_needed.ensures
