use Rattle.std.proofs.Common.{rules}
use Rattle.pb_workspace.proofs.Keeping.{workspace_settled}
use Rattle.pb_workspace.proofs.loading.workspace_of.Goals as goal

pub new-requires : goal.new-requires
new-requires c = workspace_settled c.args.target.now c.args.frame.now c.args.profiles c.args.read _ c.requires c.in_ok-drafts.ensures.order (search rules)
