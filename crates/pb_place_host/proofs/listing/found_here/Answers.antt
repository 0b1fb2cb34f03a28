use Rattle.std.proofs.Common.{sym}
use Rattle.pb_place_types.proofs.Within.{at_itself}
use Rattle.pb_place_host.proofs.Finding.{none_found, none_waits}
use Rattle.pb_place_host.proofs.listing.found_here.Goals as goal

pub returns : goal.returns
returns g c = record {
  below = c.in_ok-take_named.ensures.below c.args.folder.now (at_itself c.args.folder.now _ (sym c.in_ok-copy.ensures)) record {
    files = none_found c.args.folder.now _ c.new.ensures.items;
    waiting = none_waits c.args.folder.now _ c.new-2.ensures.items;
  };
}
