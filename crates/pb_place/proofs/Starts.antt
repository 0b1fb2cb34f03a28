-- A start is a spawn and the end of its child in turn: what it spawned is the last in the table, and is taken out again.
use Rattle.std.proofs.Common.{◌≡◌, ◌≢◌, ◌⊎◌, ℕ, true, false, ◌==◌, ◌-◌, ◌++◌, ◌∙◌, List, [], ◌∷◌, Option, Some, None, Result, Err, ap, cond, inl, arith}
use Rattle.std.specs.Prelude.{IfSome}
use Rattle.pb_place_types.specs.Children.{is_flying}
use Rattle.pb_place_types.specs.declared.command.Ended.{Ended}
use Rattle.pb_place_types.specs.declared.place.StartFault.{StartFault}
use Rattle.pb_place_types.specs.declared.place.StartFault.TheVariants as start
use Rattle.pb_place_types.proofs.InFlight.{or_left, or_right}
use Rattle.pb_place.specs.InFlight.{children_in, entry_at, other_entries}
use Rattle.pb_place.specs.declared.in_flight.Flying.{Flying}

-- the entry of a fresh ticket, put last
pub last_entry : {K : Type 0} (t : ℕ) (xs ys : List (Flying K)) (x : Flying K) → ys ≡ xs ++ x ∷ [] → is_flying t (children_in xs) ≡ false → (x.child.ticket == t) ≡ true
    → (entry_at t ys ≡ Some x) × (other_entries t ys ≡ xs)
last_entry {K = K} t xs ys x is fresh hit = (ap (λ (fs : List (Flying K)). entry_at t fs) is ∙ (at_last xs fresh).0, ap (λ (fs : List (Flying K)). other_entries t fs) is ∙ (at_last xs fresh).1)
  where
    at_last : (zs : List (Flying K)) → is_flying t (children_in zs) ≡ false → (entry_at t (zs ++ x ∷ []) ≡ Some x) × (other_entries t (zs ++ x ∷ []) ≡ zs)
    at_last [] none = (ap (λ b. cond b (Some x) None) hit, ap (λ b. cond b [] (x ∷ [])) hit)
    at_last (z ∷ zs) none =
        let away : (z.child.ticket == t) ≡ false = or_left (z.child.ticket == t) _ none in
        let rest = at_last zs (or_right (z.child.ticket == t) _ none) in
        (ap (λ b. cond b (Some z) (entry_at t (zs ++ x ∷ []))) away ∙ rest.0, ap (λ b. cond b (zs ++ x ∷ []) (z ∷ other_entries t (zs ++ x ∷ []))) away ∙ ap (λ (fs : List (Flying K)). z ∷ fs) rest.1)

-- how the end of a child is answered, so is its start
pub fated_start : (Q : Type 0) (r : Result Ended StartFault) (fate : Option StartFault) → IfSome fate (λ e. e ≢ start.CannotStart → r ≡ Err e) → IfSome fate (λ e. e ≢ start.CannotStart → (r ≡ Err e) ⊎ Q)
fated_start Q r None h = h
fated_start Q r (Some e) h = λ flies. inl (h flies)

-- the end is not the call that fails where it was not the second
pub not_the_end : (before after : ℕ) → after ≡ before - 1 → before ≢ 2 → after ≢ 1
not_the_end before after is no_end fails_now = no_end (omega arith)
