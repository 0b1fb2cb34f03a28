use Rattle.std.proofs.Common.{map, sym, ◌∙◌, ap, subst}
use Rattle.pb_workspace.specs.Assembled.{entry_at}
use Rattle.pb_workspace_types.specs.ByKey.{table_key}
use Rattle.pb_workspace_types.specs.Settled.{IsAscending}
use Rattle.pb_workspace_types.specs.declared.package.Entry.{Entry}
use Rattle.pb_workspace_package.proofs.Puttings.{map_twice}
use Rattle.pb_workspace.proofs.assembled.entries_in_order.Goals as goal

pub from_items-requires : goal.from_items-requires
from_items-requires c =
    subst IsAscending
    (sym (ap (map (λ (e : Entry). table_key e.kind e.key)) (c.in_ok-entries.ensures ∙ ap (map (entry_at c.args.indices.now)) c.into_items-wanted.ensures.same) ∙ map_twice (λ (e : Entry). table_key e.kind e.key) (entry_at c.args.indices.now) c.args.wanted))
    c.into_items-wanted.ensures.order
