-- Where nothing is set to fail, and nothing has failed, so it is behind the end of a child.
use Rattle.std.proofs.Common.{◌≡◌, ◌≢◌, ◌==◌, ◌||◌, ◌-◌, ◌∙◌, not, ℕ, Bool, true, false, List, [], ◌∷◌, Option, Result, Ok, Err, refl, ap, sym, if◌then◌else◌}
use Rattle.std.specs.Prelude.{IfErr}
use Rattle.std.proofs.lemmas.Bool.{eqb-true}
use Rattle.std.specs.List.{list_any}
use Rattle.pb_place.specs.InFlight.{other_entries}
use Rattle.pb_place.specs.Memory.{Held, counts_in, is_doomed, may_fail}
use Rattle.pb_place.specs.declared.in_flight.Death.{Death}
use Rattle.pb_place.specs.declared.in_flight.Flying.{Flying}
use Rattle.pb_place_types.proofs.InFlight.{or_left, or_right}
use Rattle.pb_place_types.specs.Counts.{Counts, counted_finish}
use Rattle.pb_place_types.specs.declared.command.Ended.{Ended}
use Rattle.pb_place_types.specs.declared.place.StartFault.{StartFault}
use Rattle.pb_place_types.specs.declared.place.StartFault.TheVariants as start

neither : (a b : Bool) → a ≡ false → b ≡ false → (a || b) ≡ false
neither a b left right = ap (λ x. x || b) left ∙ right

-- of children of which none is doomed one is taken out
doomed_left : (ticket : ℕ) (fs : List (Flying (Option StartFault))) → list_any is_doomed fs ≡ false → list_any is_doomed (other_entries ticket fs) ≡ false
doomed_left ticket [] none = refl
doomed_left ticket (f ∷ fs) none = by (f.child.ticket == ticket) (doomed_left ticket fs (or_right (is_doomed f) _ none))
  where
    by : (here : Bool) → list_any is_doomed (other_entries ticket fs) ≡ false → list_any is_doomed (if here then fs else f ∷ other_entries ticket fs) ≡ false
    by true rest = or_right (is_doomed f) _ none
    by false rest = neither _ _ (or_left (is_doomed f) _ none) rest

fuse_out : (n : ℕ) → not (n == 0) ≡ false → not ((n - 1) == 0) ≡ false
fuse_out n out = ap (λ k. not ((k - 1) == 0)) (eqb-true n 0 (zero_so (n == 0) out))
  where
    zero_so : (b : Bool) → not b ≡ false → b ≡ true
    zero_so true out = refl
    zero_so false out = sym out

pub quiet_behind : (old new : Held) (ticket : ℕ) → may_fail old ≡ false → new.fuse ≡ old.fuse - 1 → new.deaths ≡ old.deaths → new.flying ≡ other_entries ticket old.flying → may_fail new ≡ false
quiet_behind old new ticket quiet fuse deaths flying =
    ap (λ n. may_with n new.deaths new.flying) fuse ∙ ap (λ ds. may_with (old.fuse - 1) ds new.flying) deaths ∙ ap (λ fs. may_with (old.fuse - 1) old.deaths fs) flying
    ∙ neither _ _ (fuse_out old.fuse (or_left _ _ quiet)) (neither _ _ (or_left _ _ (or_right _ _ quiet)) (doomed_left ticket old.flying (or_right _ _ (or_right _ _ quiet))))
  where
    may_with : ℕ → List Death → List (Flying (Option StartFault)) → Bool
    may_with n ds fs = may_fail record old { fuse = n; deaths = ds; flying = fs }

pub unfailed_behind : (old new : Held) (ticket : ℕ) (result : Result Ended StartFault) → may_fail old ≡ false → IfErr result (λ e. e ≢ start.OutOfMemory → may_fail old ≡ true)
    → counts_in new ≡ counted_finish ticket result (counts_in old) → new.tally.failures ≡ old.tally.failures
unfailed_behind old new ticket result quiet fails counts = ap (λ (c : Counts). c.failures) counts ∙ same result fails
  where
    clash : may_fail old ≡ true → ⊥
    clash e = let f = sym quiet ∙ e in differ f
      where
        differ : false ≡ true → ⊥
        differ e = cc

    same : (r : Result Ended StartFault) → IfErr r (λ e. e ≢ start.OutOfMemory → may_fail old ≡ true) → (counted_finish ticket r (counts_in old)).failures ≡ old.tally.failures
    same (Ok x) fails = refl
    same (Err start.OutOfMemory) fails = refl
    same (Err start.CannotStart) fails = absurd (clash (fails (λ e. cc)))
    same (Err start.Died) fails = absurd (clash (fails (λ e. cc)))
    same (Err start.Capture) fails = absurd (clash (fails (λ e. cc)))
