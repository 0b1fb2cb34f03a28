-- What a unit that has begun is asked with.
use Rattle.std.proofs.Common.{◌≡◌, ◌∙◌, ◌==◌, ◌||◌, ◌++◌, ◌∷◌, [], ℕ, Bool, true, false, List, Option, Some, None, IfSome, refl, ap, subst}
use Rattle.pb_place_types.specs.Children.{is_flying}
use Rattle.pb_place_types.specs.Counts.{Starts}
use Rattle.pb_place_types.specs.declared.child_in_flight.ChildInFlight.{ChildInFlight}
use Rattle.pb_place_types.proofs.InFlight.{same_number}
use Rattle.pb_run.specs.Steps.{BeginsBy, StartsRise}
use Rattle.pb_run.specs.declared.begun.SpawnedChild.{SpawnedChild}

is_its : (l : SpawnedChild) (old mid : Starts) (lifted : StartsRise l.ticket old mid) → (lifted.child.ticket == l.ticket) ≡ true
is_its l old mid lifted = subst (λ t. (lifted.child.ticket == t) ≡ true) lifted.its (same_number lifted.child.ticket)

or_true : (b : Bool) → (b || true) ≡ true
or_true true = refl
or_true false = refl

last_flies : (t : ℕ) (fs : List ChildInFlight) (f : ChildInFlight) → (f.ticket == t) ≡ true → is_flying t (fs ++ f ∷ []) ≡ true
last_flies t [] f hit = ap (λ b. b || false) hit
last_flies t (g ∷ fs) f hit = ap (λ b. (g.ticket == t) || b) (last_flies t fs f hit) ∙ or_true (g.ticket == t)

-- it flies when its end is asked for
pub lifted_flies : (launched : Option SpawnedChild) (old mid : Starts) → BeginsBy launched old mid → IfSome launched (λ l. is_flying l.ticket mid.flying ≡ true)
lifted_flies None old mid begins = tt
lifted_flies (Some l) old mid begins = ap (λ (s : Starts). is_flying l.ticket s.flying) begins.lifted ∙ last_flies l.ticket old.flying begins.child (is_its l old mid begins)

-- Where the answer fails, a child was started only if something differed.
