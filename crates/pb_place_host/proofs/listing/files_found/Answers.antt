use Rattle.std.proofs.Common.{sym}
use Rattle.pb_place_host.proofs.Finding.{none_found, none_outside, first_waits, one_taken}
use Rattle.pb_place_host.proofs.listing.files_found.Goals as goal

pub loop-init : goal.loop-init
loop-init g c = record {
  below = record {
    files = none_found c.args.folder.now _ c.new.ensures.items;
    waiting = first_waits c.args.folder.now _ c.new-2.result.items _ (sym c.in_ok-copy.ensures) c.new-2.ensures.items c.in_ok-push.ensures.items;
  };
  outside = none_outside _ _ c.new.ensures.items;
}

pub loop-preserved : goal.loop-preserved
loop-preserved g c =
    let left = one_taken c.args.folder.now c.in-Some.here c.loop.found.waiting.items c.pop.new.self.items c.pop.result c.in-Some.is c.pop.ensures.items c.loop.invariant.below.waiting in
    record {
      below = c.in_ok-take_folder-in-Some.ensures.below c.args.folder.now left.1 record { files = c.loop.invariant.below.files; waiting = left.0 };
      outside = c.in_ok-take_folder-in-Some.ensures.outside c.loop.invariant.outside;
    }
