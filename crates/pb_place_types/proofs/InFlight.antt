-- Children in flight: the last one in a list.
use Rattle.std.proofs.Common.{◌≡◌, ℕ, Bool, true, false, ◌==◌, ◌||◌, ◌∙◌, ◌++◌, List, [], ◌∷◌, Some, None, refl, sym, ap, cond, suc, ◌+◌, arith}
use Rattle.std.proofs.lemmas.Bool.{false≢true}
use Rattle.pb_place_types.specs.Children.{is_flying, child_at}
use Rattle.pb_place_types.specs.Counts.{without}
use Rattle.pb_place_types.specs.declared.child_in_flight.ChildInFlight.{ChildInFlight}

pub or_left : (a b : Bool) → a || b ≡ false → a ≡ false
or_left true b h = h
or_left false b h = refl

pub or_right : (a b : Bool) → a || b ≡ false → b ≡ false
or_right true b h = absurd (false≢true (sym h))
or_right false b h = h

pub or_true : (a b : Bool) → b ≡ true → a || b ≡ true
or_true true b h = refl
or_true false b h = h

-- the last one
pub last_flies : (t : ℕ) (fs : List ChildInFlight) (f : ChildInFlight) → (f.ticket == t) ≡ true → is_flying t (fs ++ f ∷ []) ≡ true
last_flies t [] f hit = ap (λ b. b || false) hit
last_flies t (g ∷ fs) f hit = or_true (g.ticket == t) _ (last_flies t fs f hit)

pub last_at : (t : ℕ) (fs : List ChildInFlight) (f : ChildInFlight) → is_flying t fs ≡ false → (f.ticket == t) ≡ true → child_at t (fs ++ f ∷ []) ≡ Some f
last_at t [] f fresh hit = ap (λ b. cond b (Some f) None) hit
last_at t (g ∷ fs) f fresh hit = ap (λ b. cond b (Some g) (child_at t (fs ++ f ∷ []))) (or_left (g.ticket == t) _ fresh) ∙ last_at t fs f (or_right (g.ticket == t) _ fresh) hit

pub last_gone : (t : ℕ) (fs : List ChildInFlight) (f : ChildInFlight) → is_flying t fs ≡ false → (f.ticket == t) ≡ true → without t (fs ++ f ∷ []) ≡ fs
last_gone t [] f fresh hit = ap (λ b. cond b [] (f ∷ [])) hit
last_gone t (g ∷ fs) f fresh hit =
    ap (λ b. cond b (fs ++ f ∷ []) (g ∷ without t (fs ++ f ∷ []))) (or_left (g.ticket == t) _ fresh) ∙ ap (λ r. g ∷ r) (last_gone t fs f (or_right (g.ticket == t) _ fresh) hit)

pub same_number : (n : ℕ) → (n == n) ≡ true
same_number n = grind arith

pub next : (n : ℕ) → suc n ≡ n + 1
next n = omega arith
