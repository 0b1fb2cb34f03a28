use Rattle.pb_store_soundness.proofs.Renewing.{grounds, reuse, renew, spares, put_grounds}
use Rattle.pb_store_soundness.proofs.laws.records_are_reused.Goals as goal

pub returns : goal.returns
returns c = record {
  grounds = grounds;
  reuse = reuse;
  renew = renew;
  spares = spares;
  put_grounds = put_grounds;
}
