use Rattle.std.proofs.Common.{append_assoc, append-nil}
use Rattle.std.proofs.lemmas.List.{drop_all}
use Rattle.pb_graph.proofs.Placing.{rest_here}
use Rattle.pb_feature.proofs.numbers.bases_of.Goals as goal

pub loop-owner-preserved : goal.loop-owner-preserved
loop-owner-preserved c =
    let rest = rest_here c.args.packages.now c.loop-owner.owner-index c.owner-item.result c.loop-owner-test.true c.owner-item.is in
    record {
      bases = rw (c.in_ok-push.ensures.items, c.in_ok-base.ensures, append_assoc) (rw rest at c.loop-owner.invariant.bases);
      end = rw c.in_ok-base.ensures (rw rest at c.loop-owner.invariant.end);
    }

pub returns-in-Some-clause-bases : goal.returns-in-Some-clause-bases
returns-in-Some-clause-bases c = rw (drop_all c.loop-owner.owner-index c.args.packages.now c.loop-owner-test.false, append-nil) at c.loop-owner.invariant.bases
