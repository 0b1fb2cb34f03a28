use Rattle.std.proofs.Common.{rules}
use Rattle.pb_data.proofs.NextLemmas.{next_failed}
use Rattle.pb_place_host.proofs.host_place.HostPlace.begin.Goals as goal

pub returns-in_err-child-2-clause-fault : goal.returns-in_err-child-2-clause-fault
returns-in_err-child-2-clause-fault g c =
    let failed = next_failed _ _ _ _ _ c.with_next.ensures.whole c.note_start-answer.ensures.fault c.in_err-child-2.was in
    search (rules, failed)
