use Rattle.std.proofs.Common.{◌≡◌, true, false}
use Rattle.std.proofs.lemmas.List.Sorted.{All-permutation}
use Rattle.std.specs.Option.{option_copied}
use Rattle.pb_place_types.specs.Paths.{is_below}
use Rattle.pb_place_host.specs.Listing.{is_left_out}
use Rattle.pb_place_host.proofs.listing.files_listed.Goals as goal

pub returns-clause-below : goal.returns-clause-below
returns-clause-below g c = rw c.from_vec.ensures (All-permutation (λ path. is_below c.args.folder.now path ≡ true) _ _ c.sort.ensures.permutation c.in_ok-files.ensures.below)

pub returns-clause-outside : goal.returns-clause-outside
returns-clause-outside g c = rw c.from_vec.ensures (All-permutation (λ path. is_left_out (option_copied c.args.left_out) path ≡ false) _ _ c.sort.ensures.permutation c.in_ok-files.ensures.outside)

pub returns-clause-ordered : goal.returns-clause-ordered
returns-clause-ordered g c = rw c.from_vec.ensures c.in_ok-sort.ensures.sorted
