use Rattle.std.proofs.Common.{◌≡◌, ℕ, List, true}
use Rattle.pb_place_types.specs.Paths.{is_at_or_below}
use Rattle.pb_place_host.specs.Listing.{StaysBelow}
use Rattle.pb_place_host.proofs.listing.take_named.Given as goal

abbrev pub invariant-loop-entry : goal.invariant-loop-entry
invariant-loop-entry g l = (above : List ℕ) → is_at_or_below above l.here.folder ≡ true → StaysBelow above l.fn.found → StaysBelow above l.found
