use Rattle.pb_data.proofs.TableLemmas.{value-table_of}
use Rattle.pb_directive.proofs.laws.last_metadata_counts.Goals as goal

pub returns : goal.returns
returns c links name directives = value-table_of _ name
