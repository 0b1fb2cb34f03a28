use Rattle.std.proofs.Common.{◌≡◌, ◌++◌, map}
use Rattle.std.specs.Vec.Iter.{into_iter_items}
use Rattle.pb_place_host.specs.declared.listing.Waiting.{Waiting}
use Rattle.pb_place_host.proofs.listing.folders_of.Given as goal

abbrev pub invariant-loop-here : goal.invariant-loop-here
invariant-loop-here l = l.folders.items ++ map (λ (here : Waiting). here.folder) (into_iter_items l.here-iterator) ≡ map (λ (here : Waiting). here.folder) l.fn.waiting.items
