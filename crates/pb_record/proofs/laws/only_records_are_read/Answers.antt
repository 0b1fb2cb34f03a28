use Rattle.pb_place_types.proofs.PathLemmas.{path_clean}
use Rattle.pb_record.proofs.LawLemmas.{only_records}
use Rattle.pb_record.proofs.laws.only_records_are_read.Goals as goal

pub returns-clause-said : goal.returns-clause-said
returns-clause-said c = only_records

pub returns-clause-paths : goal.returns-clause-paths
returns-clause-paths c = λ path is. path_clean path is.0
