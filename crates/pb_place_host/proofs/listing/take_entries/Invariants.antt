use Rattle.std.proofs.Common.{◌≡◌, ℕ, List, true}
use Rattle.std.specs.Option.{option_copied}
use Rattle.pb_place_types.specs.Paths.{is_at_or_below}
use Rattle.pb_place_host.specs.Listing.{AreOutside, StaysBelow}
use Rattle.pb_place_host.proofs.listing.take_entries.Given as goal

abbrev pub invariant-loop-entry : goal.invariant-loop-entry
invariant-loop-entry g l = record {
  below : (above : List ℕ) → is_at_or_below above l.here.folder ≡ true → StaysBelow above l.fn.found → StaysBelow above l.found;
  outside : AreOutside (option_copied l.left_out) l.fn.found.files.items → AreOutside (option_copied l.left_out) l.found.files.items;
}
