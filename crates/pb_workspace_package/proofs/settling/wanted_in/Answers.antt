use Rattle.std.proofs.Common.{◌∙◌}
use Rattle.pb_workspace_package.proofs.WantedOrder.{wanted_ascend, wanted_named}
use Rattle.pb_workspace_package.proofs.settling.wanted_in.Goals as goal

pub from_items-requires : goal.from_items-requires
from_items-requires c =
    wanted_ascend c.args.at.now.root c.args.at.now.folder c.args.at.now.manifest c.args.given.now.dependencies c.args.dependencies.now c.args.build.now
    c.in_ok-normal.normal c.in_ok-for_script.for_script c.in_ok-wanted.wanted c.requires.normal c.requires.build c.in_ok-normal.ensures.told c.in_ok-for_script.ensures.told c.in_ok-wanted.ensures

pub returns-clause-keys : goal.returns-clause-keys
returns-clause-keys c =
    wanted_named c.args.at.now.root c.args.at.now.folder c.args.at.now.manifest c.args.given.now.dependencies c.args.dependencies.now c.args.build.now
    c.in_ok-normal.normal c.in_ok-for_script.for_script c.from_items.result c.requires.normal_keys c.requires.build_keys c.in_ok-normal.ensures.told c.in_ok-for_script.ensures.told (c.from_items.ensures ∙ c.in_ok-wanted.ensures)
