-- How often opening and keeping look and write.
use Rattle.std.proofs.Common.{◌≡◌, ◌≢◌, ◌∙◌, ◌++◌, ℕ, Bool, true, false, cond, map, List, [], ◌∷◌, refl, sym, ap, subst, inl, inr}
use Rattle.std.specs.List.{filter}
use Rattle.pb_place_types.specs.CallsInTurn.{own_fault, MakesSome, past_calls}
use Rattle.pb_place_types.specs.declared.call.Call.{Call}
use Rattle.pb_place_types.specs.declared.call.Call.TheVariants as call
use Rattle.pb_place_types.specs.Counts.{Counts, past_call, past_place_fault}
use Rattle.pb_place_types.specs.World.{World, listed_directly}
use Rattle.pb_place_types.specs.declared.place.PlaceFault.{PlaceFault}
use Rattle.pb_place_types.specs.declared.place.PlaceFault.TheVariants as place
use Rattle.pb_place_types.proofs.CallsInTurn.{fails_left, fails_right, some_all, some_left, some_right}
use Rattle.pb_store_soundness.specs.Records.{ends_as_record}
use Rattle.pb_store.specs.Calls.{EndsOnce, MayWrite, fault_in_opening}
use Rattle.pb_store.specs.Looking.{OpeningStopsAt, StopsAt, opened_looked, records_looked}
use Rattle.pb_store.specs.declared.fault.OpenFault.{OpenFault}
use Rattle.pb_store.specs.declared.fault.OpenFault.TheVariants as open_fault
use Rattle.pb_store.specs.declared.fault.StoreFault.{StoreFault}
use Rattle.pb_store.specs.declared.fault.StoreFault.TheVariants.{Place, NumbersSpent, OutOfMemory}
use Rattle.pb_store.proofs.Looking.{Reached, reached_on}

-- opening: a first step stops it, or a second, after a first
opening_stops_first : (e : OpenFault) (a b : List Call) (old new : Counts) → OpeningStopsAt e a old new → OpeningStopsAt e (a ++ b) old new
opening_stops_first (open_fault.Place path fault) a b old new is = fails_left fault a b old new is
opening_stops_first open_fault.OutOfMemory a b old new is = some_left a b old new is

opening_stops_then : (e : OpenFault) (a b : List Call) (old mid new : Counts) → mid ≡ past_calls a old → OpeningStopsAt e b mid new → OpeningStopsAt e (a ++ b) old new
opening_stops_then (open_fault.Place path fault) a b old mid new first is = fails_right fault a b old mid new first is
opening_stops_then open_fault.OutOfMemory a b old mid new first is = some_right a b old mid new first is

-- the one call
one_opened : (call : Call) (path : List ℕ) (fault : PlaceFault) (old new : Counts) → (fault ≢ place.OutOfMemory → fault ≡ own_fault call) → new ≡ past_place_fault call fault old → OpeningStopsAt (fault_in_opening path fault) (call ∷ []) old new
one_opened call path place.OutOfMemory old new kind is = inr is
one_opened call path _ old new kind is = inl (kind (λ e. cc), is)

pub opening_stops_once : (call : Call) (path : List ℕ) (fault : PlaceFault) (e : OpenFault) (old new : Counts) → e ≡ fault_in_opening path fault → (fault ≢ place.OutOfMemory → fault ≡ own_fault call) → new ≡ past_place_fault call fault old → OpeningStopsAt e (call ∷ []) old new
opening_stops_once call path fault e old new told kind is = subst (λ f. OpeningStopsAt f (call ∷ []) old new) (sym told) (one_opened call path fault old new kind is)

-- one file more of a row
one_read : (b : Bool) (path : List ℕ) (rest : List (List ℕ)) (c : Counts) → past_calls (map call.Read (cond b (path ∷ rest) rest)) c ≡ past_calls (map call.Read rest) (past_calls (cond b (call.Read path ∷ []) []) c)
one_read true path rest c = refl
one_read false path rest c = refl

pub row_read : (items rest : List (List ℕ)) (path : List ℕ) (old new : Counts) (whole : Counts) → past_calls (records_looked items) old ≡ whole → items ≡ path ∷ rest → new ≡ past_calls (cond (ends_as_record path) (call.Read path ∷ []) []) old
    → past_calls (records_looked rest) new ≡ whole
row_read items rest path old new whole before cut made =
    ap (past_calls (records_looked rest)) made ∙ sym (one_read (ends_as_record path) path (filter ends_as_record rest) old) ∙ sym (ap (λ xs. past_calls (records_looked xs) old) cut) ∙ before

pub folder_opened : (folder : List ℕ) (w : World) (paths : List (List ℕ)) (old mid new : Counts) → paths ≡ listed_directly folder w → mid ≡ past_call old → new ≡ past_calls (records_looked paths) mid → new ≡ past_calls (opened_looked folder w) old
folder_opened folder w paths old mid new are first second = second ∙ ap (past_calls (records_looked paths)) first ∙ ap (λ xs. past_calls (records_looked xs) (past_call old)) are

row_parts : (b : Bool) (path : List ℕ) (rest : List (List ℕ)) → map call.Read (cond b (path ∷ rest) rest) ≡ cond b (call.Read path ∷ []) [] ++ map call.Read rest
row_parts true path rest = refl
row_parts false path rest = refl

first_parts : (items rest : List (List ℕ)) (path : List ℕ) → items ≡ path ∷ rest → records_looked items ≡ cond (ends_as_record path) (call.Read path ∷ []) [] ++ records_looked rest
first_parts items rest path cut = ap records_looked cut ∙ row_parts (ends_as_record path) path (filter ends_as_record rest)

pub row_reached : (items rest : List (List ℕ)) (path : List ℕ) (whole : List Call) (old mid new : Counts) → Reached whole (records_looked items) old mid → items ≡ path ∷ rest
    → new ≡ past_calls (cond (ends_as_record path) (call.Read path ∷ []) []) mid → Reached whole (records_looked rest) old new
row_reached items rest path whole old mid new reached cut made =
    reached_on whole (cond (ends_as_record path) (call.Read path ∷ []) []) (records_looked rest) old mid new (subst (λ names. Reached whole names old mid) (first_parts items rest path cut) reached) made

pub row_unread : (e : OpenFault) (items rest : List (List ℕ)) (path : List ℕ) (whole : List Call) (old mid new : Counts) → Reached whole (records_looked items) old mid → items ≡ path ∷ rest
    → OpeningStopsAt e (cond (ends_as_record path) (call.Read path ∷ []) []) mid new → OpeningStopsAt e whole old new
row_unread e items rest path whole old mid new reached cut stops =
    subst (λ names. OpeningStopsAt e names old new) (sym reached.split)
    (opening_stops_then e reached.before (records_looked items) old mid new reached.made
    (subst (λ names. OpeningStopsAt e names mid new) (sym (first_parts items rest path cut)) (opening_stops_first e (cond (ends_as_record path) (call.Read path ∷ []) []) (records_looked rest) mid new stops)))

-- the folder could not be listed, or one of the records not be read
pub folder_unlisted : (folder : List ℕ) (w : World) (fault : PlaceFault) (e : OpenFault) (old new : Counts) → e ≡ fault_in_opening folder fault → (fault ≢ place.OutOfMemory → fault ≡ place.List) → new ≡ past_place_fault (call.ListDirectly folder) fault old → OpeningStopsAt e (opened_looked folder w) old new
folder_unlisted folder w fault e old new told kind is = opening_stops_first e (call.ListDirectly folder ∷ []) (records_looked (listed_directly folder w)) old new (opening_stops_once (call.ListDirectly folder) folder fault e old new told kind is)

pub folder_unread : (folder : List ℕ) (w : World) (paths : List (List ℕ)) (e : OpenFault) (old mid new : Counts) → paths ≡ listed_directly folder w → mid ≡ past_call old → OpeningStopsAt e (records_looked paths) mid new
    → OpeningStopsAt e (opened_looked folder w) old new
folder_unread folder w paths e old mid new are first second =
    opening_stops_then e (call.ListDirectly folder ∷ []) (records_looked (listed_directly folder w)) old mid new first (subst (λ xs. OpeningStopsAt e (records_looked xs) mid new) are second)

-- the one call that writes
pub ends_stops : (call : Call) (e : StoreFault) (old new : Counts) → MayWrite e → EndsOnce call e old new → StopsAt e (call ∷ []) old new
ends_stops call (Place fault) old new may ends = inl ends
ends_stops call NumbersSpent old new may ends = absurd may
ends_stops call OutOfMemory old new may ends = ends

-- memory was refused after all of the calls
pub refused_after : (names : List Call) (old new : Counts) → new ≡ past_calls names old → StopsAt OutOfMemory names old new
refused_after names old new made = subst (λ c. MakesSome names old c) (sym made) (some_all names old)
