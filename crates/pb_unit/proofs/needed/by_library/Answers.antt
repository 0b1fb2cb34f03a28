use Rattle.pb_unit.proofs.Numbering.{library_needs}
use Rattle.pb_unit.proofs.needed.by_library.Goals as goal

pub returns : goal.returns
returns c = library_needs c.args.workspace.now c.args.features.now c.args.owner c.args.side _ _ _ c.new-numbers.ensures.items c.in_ok-add_needed.ensures c.in_ok-add_own_run.ensures
