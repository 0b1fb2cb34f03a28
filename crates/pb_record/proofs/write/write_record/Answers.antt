use Rattle.pb_record.proofs.LawLemmas.{reads_back, reads_torn}
use Rattle.pb_record.proofs.write.write_record.Goals as goal

pub returns-clause-read : goal.returns-clause-read
returns-clause-read c = reads_back c.in_ok-text.ensures

pub returns-clause-torn : goal.returns-clause-torn
returns-clause-torn c = reads_torn c.in_ok-text.ensures
