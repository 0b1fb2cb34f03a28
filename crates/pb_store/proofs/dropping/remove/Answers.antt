use Rattle.pb_store.proofs.Called.{ends_once}
use Rattle.pb_store.proofs.dropping.remove.Goals as goal

pub returns-in-Err-clause-calls : goal.returns-in-Err-clause-calls
returns-in-Err-clause-calls g c = ends_once _ c.in-Err.fault _ _ _ c.store_error.ensures c.in-Err.ensures.changes.fault c.in-Err.ensures.changes.counts
