-- Lemmas on where a comparison looks: one step after the other.
use Rattle.std.proofs.Common.{◌≡◌, ◌≢◌, ◌∙◌, ◌++◌, ◌+◌, ◌<◌, ◌≤◌, inl, inr, ℕ, Bool, true, false, cond, List, [], ◌∷◌, drop, length, get_or, Result, Ok, Err, refl, sym, ap, subst, append_assoc}
use Rattle.std.proofs.lemmas.List.{drop_all, drop_more}
use Rattle.pb_place_types.specs.CallsInTurn.{own_fault, MakesSome, past_calls}
use Rattle.pb_place_types.specs.declared.call.Call.{Call}
use Rattle.pb_place_types.specs.Counts.{Counts, past_place_fault}
use Rattle.pb_place_types.specs.World.{World}
use Rattle.pb_place_types.specs.declared.place.PlaceFault.{PlaceFault}
use Rattle.pb_place_types.specs.declared.place.PlaceFault.TheVariants as place
use Rattle.pb_place_types.proofs.CallsInTurn.{append_none, fails_left, fails_right, made_both, some_all, some_left, some_right}
use Rattle.pb_store.specs.Calls.{fault_in_store}
use Rattle.pb_store.specs.Looking.{Looks, StopsAt, looked_up_to}
use Rattle.pb_store.specs.declared.fault.StoreFault.{StoreFault}
use Rattle.pb_store.specs.declared.fault.StoreFault.TheVariants.{Place, NumbersSpent, OutOfMemory}

-- a first step stops it, and no second comes
pub stops_first : (e : StoreFault) (a b : List Call) (old new : Counts) → StopsAt e a old new → StopsAt e (a ++ b) old new
stops_first (Place fault) a b old new is = fails_left fault a b old new is
stops_first NumbersSpent a b old new is = is
stops_first OutOfMemory a b old new is = some_left a b old new is

-- a second step stops it, after a first
pub stops_then : (e : StoreFault) (a b : List Call) (old mid new : Counts) → mid ≡ past_calls a old → StopsAt e b mid new → StopsAt e (a ++ b) old new
stops_then (Place fault) a b old mid new first is = fails_right fault a b old mid new first is
stops_then NumbersSpent a b old mid new first is = is
stops_then OutOfMemory a b old mid new first is = some_right a b old mid new first is

-- both are made
pub looks_both : {T : Type 0} (result : Result T StoreFault) (a b : List Call) (old mid new : Counts) → mid ≡ past_calls a old → Looks result b mid new → Looks result (a ++ b) old new
looks_both (Ok x) a b old mid new first second = made_both a b old mid new first second
looks_both (Err e) a b old mid new first second = stops_then e a b old mid new first second

-- the one call
one_stops : (call : Call) (fault : PlaceFault) (old new : Counts) → (fault ≢ place.OutOfMemory → fault ≡ own_fault call) → new ≡ past_place_fault call fault old → StopsAt (fault_in_store fault) (call ∷ []) old new
one_stops call place.OutOfMemory old new kind is = inr is
one_stops call _ old new kind is = inl (kind (λ e. cc), is)

pub stops_once : (call : Call) (fault : PlaceFault) (e : StoreFault) (old new : Counts) → e ≡ fault_in_store fault → (fault ≢ place.OutOfMemory → fault ≡ own_fault call) → new ≡ past_place_fault call fault old → StopsAt e (call ∷ []) old new
stops_once call fault e old new told kind is = subst (λ f. StopsAt f (call ∷ []) old new) (sym told) (one_stops call fault old new kind is)

-- a fault is told as it is
pub looks_told : {T : Type 0} (result : Result T StoreFault) (e : StoreFault) (names : List Call) (old new : Counts) → result ≡ Err e → StopsAt e names old new → Looks result names old new
looks_told result e names old new is stops = subst (λ r. Looks r names old new) (sym is) stops

-- how far a row of calls has come: these are left
pub record Reached (whole rest : List Call) (old mid : Counts) : Type 0 where
  pub before : List Call
  pub split : whole ≡ before ++ rest
  pub made : mid ≡ past_calls before old

pub reached_none : (whole : List Call) (c : Counts) → Reached whole whole c c
reached_none whole c = record { before = []; split = refl; made = refl }

pub reached_on : (whole a rest : List Call) (old mid next : Counts) → Reached whole (a ++ rest) old mid → next ≡ past_calls a mid → Reached whole rest old next
reached_on whole a rest old mid next reached is = record {
  before = reached.before ++ a;
  split = reached.split ∙ sym (append_assoc reached.before a rest);
  made = made_both reached.before a old mid next reached.made is;
}

pub reached_made : (whole rest : List Call) (old mid new : Counts) → Reached whole rest old mid → new ≡ past_calls rest mid → new ≡ past_calls whole old
reached_made whole rest old mid new reached is = made_both reached.before rest old mid new reached.made is ∙ ap (λ names. past_calls names old) (sym reached.split)

pub reached_stops : (e : StoreFault) (whole rest : List Call) (old mid new : Counts) → Reached whole rest old mid → StopsAt e rest mid new → StopsAt e whole old new
reached_stops e whole rest old mid new reached is = subst (λ names. StopsAt e names old new) (sym reached.split) (stops_then e reached.before rest old mid new reached.made is)

-- a row, item for item
module _ {A : Type 0} (is_same : World → A → Bool) (look : World → A → List Call) (w now : World) (row : List A) (i : ℕ) where
  abbrev rest_of : List Call
  rest_of = looked_up_to (is_same w) (look w) (drop i row)

  pub row_done : (whole : List Call) (old new : Counts) → length row ≤ i → Reached whole rest_of old new → new ≡ past_calls whole old
  row_done whole old new end reached = reached_made whole rest_of old new new reached (ap (λ xs. past_calls (looked_up_to (is_same w) (look w) xs) new) (sym (drop_all i row end)))

  module _ (here : A) (within : i < length row) (is : here ≡ get_or row i here) (same : now ≡ w) where
    rest_is : rest_of ≡ look now here ++ cond (is_same w here) (looked_up_to (is_same w) (look w) (drop (i + 1) row)) []
    rest_is = ap (looked_up_to (is_same w) (look w)) (drop_more row i here within ∙ ap (λ x. x ∷ drop (i + 1) row) (sym is))
        ∙ ap (λ (v : World). look v here ++ cond (is_same w here) (looked_up_to (is_same w) (look w) (drop (i + 1) row)) []) (sym same)

    pub row_stops : (e : StoreFault) (whole : List Call) (old mid new : Counts) → Reached whole rest_of old mid → StopsAt e (look now here) mid new → StopsAt e whole old new
    row_stops e whole old mid new reached is = reached_stops e whole rest_of old mid new reached (subst (λ names. StopsAt e names mid new) (sym rest_is) (stops_first e (look now here) _ mid new is))

    pub row_refused : (whole : List Call) (old mid new : Counts) → Reached whole rest_of old mid → new ≡ past_calls (look now here) mid → MakesSome whole old new
    row_refused whole old mid new reached is = row_stops OutOfMemory whole old mid new reached (subst (λ c. MakesSome (look now here) mid c) (sym is) (some_all (look now here) mid))

    pub row_ends : (whole : List Call) (old mid new : Counts) → Reached whole rest_of old mid → new ≡ past_calls (look now here) mid → is_same w here ≡ false → new ≡ past_calls whole old
    row_ends whole old mid new reached is differs =
        let last : rest_of ≡ look now here = rest_is ∙ ap (λ b. look now here ++ cond b (looked_up_to (is_same w) (look w) (drop (i + 1) row)) []) differs ∙ append_none (look now here) in
        reached_made whole rest_of old mid new reached (is ∙ ap (λ names. past_calls names mid) (sym last))

    pub row_on : (whole : List Call) (old mid new : Counts) → Reached whole rest_of old mid → new ≡ past_calls (look now here) mid → is_same w here ≡ true → Reached whole (looked_up_to (is_same w) (look w) (drop (i + 1) row)) old new
    row_on whole old mid new reached is alike =
        let more : rest_of ≡ look now here ++ looked_up_to (is_same w) (look w) (drop (i + 1) row) = rest_is ∙ ap (λ b. look now here ++ cond b (looked_up_to (is_same w) (look w) (drop (i + 1) row)) []) alike in
        reached_on whole (look now here) _ old mid new (subst (λ names. Reached whole names old mid) more reached) is
