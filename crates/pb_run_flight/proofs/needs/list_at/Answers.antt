use Rattle.std.proofs.Common.{arith}
use Rattle.pb_run_flight.proofs.Listing.{push_kept}
use Rattle.pb_run_flight.proofs.needs.list_at.Goals as goal

pub returns-clause-kept : goal.returns-clause-kept
returns-clause-kept c = push_kept c.args.lists.now.items c.args.need c.index_mut.result.now c.push.new.self c.args.unit (omega arith) c.index_mut.ensures.value c.in_ok-push.ensures.ok
