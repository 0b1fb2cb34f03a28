use Rattle.std.proofs.Common.{sym}
use Rattle.pb_data.proofs.TableLemmas.{with_entries-append}
use Rattle.pb_data.proofs.table.table_joins.Goals as goal

pub returns : goal.returns
returns g c entries more = sym (with_entries-append _ entries more)
