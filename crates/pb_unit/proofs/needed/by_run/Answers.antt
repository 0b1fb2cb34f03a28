use Rattle.pb_unit.proofs.Numbering.{run_needs}
use Rattle.pb_unit.proofs.needed.by_run.Goals as goal

pub returns : goal.returns
returns c = run_needs c.args.workspace.now c.args.features.now c.args.owner c.args.side _ _ _ _ c.new-numbers.ensures.items c.script_number.ensures c.in_ok-push.ensures.items c.in_ok-add_needed.ensures
