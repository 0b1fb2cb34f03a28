use Rattle.pb_data.proofs.TableLemmas.{names-table_of}
use Rattle.pb_data.proofs.table.table_names.Goals as goal

pub returns : goal.returns
returns g c entries = names-table_of entries
