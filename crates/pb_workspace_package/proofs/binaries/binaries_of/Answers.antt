use Rattle.std.proofs.Common.{rules, sym, subst}
use Rattle.pb_workspace_package.specs.Drafted.{AreBinaries}
use Rattle.pb_workspace_package.proofs.KeptByName.{binaries_kept}
use Rattle.pb_workspace_package.proofs.binaries.binaries_of.Goals as goal

pub from_items-requires : goal.from_items-requires
from_items-requires c =
    (binaries_kept c.args.found c.args.written c.in_ok-made.made c.in_ok-items.items c.requires.found c.requires.written (search rules) c.in_ok-items.ensures.order c.in_ok-made.ensures).order

pub returns-clause-kept : goal.returns-clause-kept
returns-clause-kept c =
    subst AreBinaries (sym c.from_items.ensures)
    (binaries_kept c.args.found c.args.written c.in_ok-made.made c.in_ok-items.items c.requires.found c.requires.written (search rules) c.in_ok-items.ensures.order c.in_ok-made.ensures)
