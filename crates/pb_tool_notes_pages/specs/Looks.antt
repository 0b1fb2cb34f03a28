-- What a second look at the manifests changes in a place.
use Rattle.std.specs.Prelude.{◌≡◌}
use Rattle.pb_place_types.specs.At.{At}

-- Nothing has changed but the counters of calls and of failures. No file and no variable has
-- changed, and no child was started.
pub record LooksAgain (old new : At) : Type 0 where
  pub world : new.world ≡ old.world
  pub most : new.most ≡ old.most
  pub starts : new.counts.starts ≡ old.counts.starts
