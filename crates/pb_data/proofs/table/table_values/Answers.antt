use Rattle.pb_data.proofs.TableLemmas.{value-table_of}
use Rattle.pb_data.proofs.table.table_values.Goals as goal

pub returns : goal.returns
returns g c entries name = value-table_of entries name
