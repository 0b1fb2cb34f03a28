use Rattle.std.proofs.Common.{◌≡◌, Ok, rules}
use Rattle.pb_workspace.specs.Selected.{selected}
use Rattle.pb_workspace.proofs.Chosen.{selected_below}
use Rattle.pb_workspace.proofs.selecting.selected.Goals as goal

pub new-requires : goal.new-requires
new-requires c =
    let is : selected c.args.workspace.now c.args.options.now ≡ Ok c.in_ok-selection.selection = search rules in
    selected_below c.args.workspace.now c.get.ensures.settled c.args.options.now c.in_ok-selection.selection is
