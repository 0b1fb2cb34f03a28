use Rattle.std.proofs.Common.{◌≡◌, true}
use Rattle.std.proofs.lemmas.List.Elements.{All-map}
use Rattle.std.proofs.lemmas.List.Sorted.{All-permutation}
use Rattle.pb_place_types.specs.Paths.{is_at_or_below}
use Rattle.pb_place_host.specs.declared.listing.Waiting.{Waiting}
use Rattle.pb_place_host.proofs.listing.folders_directly.Goals as goal

pub returns-clause-below : goal.returns-clause-below
returns-clause-below g c =
    rw c.from_vec.ensures (All-permutation (λ path. is_at_or_below c.args.folder.now path ≡ true) _ _ c.sort.ensures.permutation
    (rw c.in_ok-folders.ensures.folders (All-map (λ path. is_at_or_below c.args.folder.now path ≡ true) (λ (here : Waiting). here.folder) c.in_ok-found.found.waiting.items c.in_ok-found.ensures.below.waiting)))
