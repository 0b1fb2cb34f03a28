use Rattle.pb_build_laws.proofs.Numbering.{next_is_above, records_are_numbered, records_count}
use Rattle.pb_build_laws.proofs.next_is_above.Goals as goal

pub returns : goal.returns
returns c = record { records = records_are_numbered; counts = records_count; next = next_is_above }
