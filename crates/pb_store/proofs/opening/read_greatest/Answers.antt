use Rattle.pb_store.proofs.Called.{reads_at}
use Rattle.pb_store.proofs.LookingBy.{opening_stops_once}
use Rattle.pb_store.proofs.opening.read_greatest.Goals as goal

pub returns-in-Err-clause-told : goal.returns-in-Err-clause-told
returns-in-Err-clause-told g c = reads_at _ c.in-Err.fault _ c.requires.named c.open_error.ensures c.in-Err.ensures.looks.fault

pub returns-in-Err-clause-looks : goal.returns-in-Err-clause-looks
returns-in-Err-clause-looks g c = opening_stops_once _ _ c.in-Err.fault _ _ _ c.open_error.ensures c.in-Err.ensures.looks.fault c.in-Err.ensures.looks.counts
