use Rattle.pb_workspace.proofs.GlobRelation.{decides}
use Rattle.pb_workspace.proofs.laws.globs_stand_for_names.Goals as goal

pub returns : goal.returns
returns c = decides
