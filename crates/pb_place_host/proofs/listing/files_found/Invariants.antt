use Rattle.std.specs.Option.{option_copied}
use Rattle.pb_place_host.specs.Listing.{AreOutside, StaysBelow}
use Rattle.pb_place_host.proofs.listing.files_found.Given as goal

abbrev pub invariant-loop : goal.invariant-loop
invariant-loop g l = record {
  below : StaysBelow l.folder l.found;
  outside : AreOutside (option_copied l.left_out) l.found.files.items;
}
