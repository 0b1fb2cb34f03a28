use Rattle.pb_record.proofs.LawLemmas.{first_parts, more_bytes}
use Rattle.pb_record.proofs.WholeLemmas.{record_told, record_apart}
use Rattle.pb_record.proofs.laws.records_lie_apart.Goals as goal

pub returns-clause-told : goal.returns-clause-told
returns-clause-told c = record_told

pub returns-clause-ends : goal.returns-clause-ends
returns-clause-ends c = record_apart

pub returns-clause-torn : goal.returns-clause-torn
returns-clause-torn c = first_parts

pub returns-clause-longer : goal.returns-clause-longer
returns-clause-longer c = more_bytes
