use Rattle.std.proofs.Common.{rules}
use Rattle.pb_build_turns.proofs.Counting.{cause_from}
use Rattle.pb_build.proofs.Preparing.{open_ready}
use Rattle.pb_build.proofs.builder.ready.Goals as goal

pub returns-in-Err-open_store-clause-asks : goal.returns-in-Err-open_store-clause-asks
returns-in-Err-open_store-clause-asks g c =
    let old = (g.P.Place.at c.args.place.now).counts in
    let mid = (g.P.Place.at c.ask.new.place).counts in
    let new = (g.P.Place.at c.open_store.new.place).counts in record {
      world = search rules;
      most = search rules;
      most_else = search rules;
      takes = (
        open_ready c.in-Err-open_store.fault old.starts mid.starts new.starts c.in-Ok.ensures.asks.takes.1 c.in-Err-open_store.ensures.unrefused c.in-Err-open_store.ensures.quiet.takes.0,
        cause_from c.in-Err-open_store.fault old mid new c.in-Ok.ensures.asks.takes.0 c.in-Err-open_store.ensures.quiet.takes.1,
      );
    }
