-- Where no child is in flight, a place in memory has no entry of one.
use Rattle.std.proofs.Common.{◌≡◌, List, [], ◌∷◌, refl}
use Rattle.pb_place.specs.InFlight.{children_in}
use Rattle.pb_place.specs.declared.in_flight.Flying.{Flying}
use Rattle.pb_place_types.specs.declared.child_in_flight.ChildInFlight.{ChildInFlight}

pub no_entries : {K : Type 0} (fs : List (Flying K)) → children_in fs ≡ [] → fs ≡ []
no_entries [] none = refl
no_entries (f ∷ fs) none = absurd (clash none)
  where
    clash : (f.child ∷ children_in fs) ≡ [] → ⊥
    clash e = cc
