-- Children in flight: one taken out of a table, and one put in.
use Rattle.std.proofs.Common.{◌≡◌, ℕ, Bool, true, false, ◌==◌, ◌||◌, ◌∙◌, ◌++◌, List, [], ◌∷◌, Option, Some, None, Result, Ok, Err, subst, refl, sym, ap, cond, inl, inr, length, take, get_or, suc, zero, ◌+◌, ◌<◌, arith}
use Rattle.std.proofs.lemmas.Option.{none-some}
use Rattle.std.proofs.lemmas.Bool.{false≢true, cases_Bool}
use Rattle.std.specs.List.{list_any, remove}
use Rattle.pb_place_types.specs.Children.{is_flying, child_at}
use Rattle.pb_place_types.specs.Counts.{Counts, without, counted, counted_start, counted_spawn, counted_finish, past_place_fault}
use Rattle.pb_place.specs.Tallies.{with_children, flown, past_finish}
use Rattle.pb_place_types.specs.declared.place.PlaceFault.{PlaceFault}
use Rattle.pb_place_types.specs.declared.place.PlaceFault.TheVariants as place
use Rattle.pb_place_types.specs.declared.place.StartFault.{StartFault}
use Rattle.pb_place_types.specs.declared.place.StartFault.TheVariants as start
use Rattle.pb_place.specs.InFlight.{children_in, entry_at, other_entries}
use Rattle.pb_place.specs.Memory.{is_for, fate_of, fate_in, fate_at, other_deaths, is_doomed}
use Rattle.pb_place.specs.declared.in_flight.Death.{Death}
use Rattle.pb_place_types.specs.declared.call.Call.{Call}
use Rattle.pb_place_types.specs.declared.child_in_flight.ChildInFlight.{ChildInFlight}
use Rattle.pb_place.specs.declared.in_flight.Flying.{Flying}
use Rattle.pb_place_types.proofs.InFlight.{next, or_left, or_right, or_true}

pub any_flying : {K : Type 0} (ticket : ℕ) (xs : List (Flying K)) → is_flying ticket (children_in xs) ≡ list_any (λ f. f.child.ticket == ticket) xs
any_flying ticket [] = refl
any_flying ticket (x ∷ xs) = ap (λ b. (x.child.ticket == ticket) || b) (any_flying ticket xs)

pub ruleset flying_laws = (any_flying)

-- the first entry of a ticket, at its place
pub entry_taken : {K : Type 0} (t : ℕ) (xs : List (Flying K)) (i : ℕ) (x : Flying K) → x ≡ get_or xs i x → i < length xs → list_any (λ f. f.child.ticket == t) (take i xs) ≡ false → list_any (λ f. f.child.ticket == t) (take (suc i) xs) ≡ true
    → (entry_at t xs ≡ Some x) × (remove xs i ≡ other_entries t xs)
entry_taken {K = K} t [] i x is inside none hit = absurd (omega arith)
entry_taken {K = K} t (y ∷ ys) zero x is inside none hit =
    let here : (y.child.ticket == t) ≡ true = or_alone (y.child.ticket == t) hit in
    (ap (λ b. cond b (Some y) (entry_at t ys)) here ∙ ap (λ (z : Flying K). Some z) (sym is), sym (ap (λ b. cond b ys (y ∷ other_entries t ys)) here))
  where
    or_alone : (b : Bool) → b || false ≡ true → b ≡ true
    or_alone true h = refl
    or_alone false h = h
entry_taken {K = K} t (y ∷ ys) (suc i) x is inside none hit =
    let away : (y.child.ticket == t) ≡ false = or_left (y.child.ticket == t) _ none in
    let rest = entry_taken t ys i x is (omega arith) (or_right (y.child.ticket == t) _ none) (or_past (y.child.ticket == t) _ away hit) in
    (ap (λ b. cond b (Some y) (entry_at t ys)) away ∙ rest.0, ap (λ (fs : List (Flying K)). y ∷ fs) rest.1 ∙ sym (ap (λ b. cond b ys (y ∷ other_entries t ys)) away))
  where
    or_past : (a b : Bool) → a ≡ false → a || b ≡ true → b ≡ true
    or_past true b e h = absurd (false≢true (sym e))
    or_past false b e h = h

pub entry_taken_at : {K : Type 0} (t : ℕ) (xs ys : List (Flying K)) (i : ℕ) (x : Flying K) → ys ≡ xs → x ≡ get_or xs i x → (i < length ys) × (list_any (λ f. f.child.ticket == t) (take i ys) ≡ false) × (list_any (λ f. f.child.ticket == t) (take (i + 1) ys) ≡ true)
    → (entry_at t xs ≡ Some x) × (remove xs i ≡ other_entries t xs)
entry_taken_at {K = K} t xs ys i x same is place = entry_taken t xs i x is (subst (λ (zs : List (Flying K)). i < length zs) same place.0)
    (ap (λ (zs : List (Flying K)). list_any (λ f. f.child.ticket == t) (take i zs)) (sym same) ∙ place.1)
    (ap (λ (n : ℕ). list_any (λ f. f.child.ticket == t) (take n xs)) (next i) ∙ ap (λ (zs : List (Flying K)). list_any (λ f. f.child.ticket == t) (take (i + 1) zs)) (sym same) ∙ place.2)

-- the child of the entry of a ticket, and the children of the others
pub entry_child : {K : Type 0} (t : ℕ) (xs : List (Flying K)) (x : Flying K) → entry_at t xs ≡ Some x → child_at t (children_in xs) ≡ Some x.child
entry_child {K = K} t xs x is = child_of_entry t xs ∙ ap (λ (o : Option (Flying K)). of_entry o) is
  where
    of_entry : {K : Type 0} → Option (Flying K) → Option ChildInFlight
    of_entry None = None
    of_entry (Some f) = Some f.child

    child_of_entry : {K : Type 0} (t : ℕ) (ys : List (Flying K)) → child_at t (children_in ys) ≡ of_entry (entry_at t ys)
    child_of_entry t [] = refl
    child_of_entry t (y ∷ ys) = elim (cases_Bool (y.child.ticket == t)) [
      | inl same ↦ ap (λ b. cond b (Some y.child) (child_at t (children_in ys))) same ∙ sym (ap (λ b. of_entry (cond b (Some y) (entry_at t ys))) same)
      | inr apart ↦ ap (λ b. cond b (Some y.child) (child_at t (children_in ys))) apart ∙ child_of_entry t ys ∙ sym (ap (λ b. of_entry (cond b (Some y) (entry_at t ys))) apart)
    ]

pub entry_others : {K : Type 0} (t : ℕ) (xs : List (Flying K)) → children_in (other_entries t xs) ≡ without t (children_in xs)
entry_others t [] = refl
entry_others t (y ∷ ys) = elim (cases_Bool (y.child.ticket == t)) [
  | inl same ↦ ap (λ b. children_in (cond b ys (y ∷ other_entries t ys))) same ∙ sym (ap (λ b. cond b (children_in ys) (y.child ∷ without t (children_in ys))) same)
  | inr apart ↦ ap (λ b. children_in (cond b ys (y ∷ other_entries t ys))) apart ∙ ap (λ (fs : List ChildInFlight). y.child ∷ fs) (entry_others t ys) ∙ sym (ap (λ b. cond b (children_in ys) (y.child ∷ without t (children_in ys))) apart)
]

-- what an entry is, some of them are
pub any_entry : {K : Type 0} (p : Flying K → Bool) (t : ℕ) (xs : List (Flying K)) (x : Flying K) → entry_at t xs ≡ Some x → p x ≡ true → list_any p xs ≡ true
any_entry p t [] x is hit = absurd (none-some x is)
any_entry {K = K} p t (y ∷ ys) x is hit = elim (cases_Bool (y.child.ticket == t)) [
  | inl same ↦ ap (λ b. b || list_any p ys) (ap p (same_Some (sym (ap (λ b. cond b (Some y) (entry_at t ys)) same) ∙ is)) ∙ hit)
  | inr apart ↦ or_true (p y) (list_any p ys) (any_entry p t ys x (sym (ap (λ b. cond b (Some y) (entry_at t ys)) apart) ∙ is) hit)
]
  where
    same_Some : {u v : Flying K} → Some u ≡ Some v → u ≡ v
    same_Some e = cc

-- the first death for a folder, at its place
pub exit_fails : (out : Option (List ℕ)) (ds : List Death) (i : ℕ) (d : Death) → d ≡ get_or ds i d → i < length ds → list_any (is_for out) (take i ds) ≡ false → list_any (is_for out) (take (suc i) ds) ≡ true
    → (fate_of out ds ≡ Some d.kind) × (remove ds i ≡ other_deaths out ds)
exit_fails out [] i d is inside none hit = absurd (omega arith)
exit_fails out (y ∷ ys) zero d is inside none hit =
    let here : is_for out y ≡ true = or_alone (is_for out y) hit in
    (ap (λ b. cond b (Some y.kind) (fate_of out ys)) here ∙ ap (λ (z : Death). Some z.kind) (sym is), sym (ap (λ b. cond b ys (y ∷ other_deaths out ys)) here))
  where
    or_alone : (b : Bool) → b || false ≡ true → b ≡ true
    or_alone true h = refl
    or_alone false h = h
exit_fails out (y ∷ ys) (suc i) d is inside none hit =
    let away : is_for out y ≡ false = or_left (is_for out y) _ none in
    let rest = exit_fails out ys i d is (omega arith) (or_right (is_for out y) _ none) (or_past (is_for out y) _ away hit) in
    (ap (λ b. cond b (Some y.kind) (fate_of out ys)) away ∙ rest.0, ap (λ (zs : List Death). y ∷ zs) rest.1 ∙ sym (ap (λ b. cond b ys (y ∷ other_deaths out ys)) away))
  where
    or_past : (a b : Bool) → a ≡ false → a || b ≡ true → b ≡ true
    or_past true b e h = absurd (false≢true (sym e))
    or_past false b e h = h

pub unfated : (out : Option (List ℕ)) (ds : List Death) → list_any (is_for out) ds ≡ false → (fate_of out ds ≡ None) × (other_deaths out ds ≡ ds)
unfated out [] none = (refl, refl)
unfated out (y ∷ ys) none =
    let away : is_for out y ≡ false = or_left (is_for out y) _ none in
    let rest = unfated out ys (or_right (is_for out y) _ none) in
    (ap (λ b. cond b (Some y.kind) (fate_of out ys)) away ∙ rest.0, ap (λ b. cond b ys (y ∷ other_deaths out ys)) away ∙ ap (λ (zs : List Death). y ∷ zs) rest.1)

pub ruleset death_laws = (exit_fails, unfated)

pub fated_at : (out : Option (List ℕ)) (ds es : List Death) (i : ℕ) (d : Death) → es ≡ ds → d ≡ get_or ds i d → (i < length es) × (list_any (is_for out) (take i es) ≡ false) × (list_any (is_for out) (take (i + 1) es) ≡ true)
    → (fate_of out ds ≡ Some d.kind) × (remove ds i ≡ other_deaths out ds)
fated_at out ds es i d same is place = exit_fails out ds i d is (subst (λ (xs : List Death). i < length xs) same place.0) (ap (λ (xs : List Death). list_any (is_for out) (take i xs)) (sym same) ∙ place.1)
    (ap (λ (n : ℕ). list_any (is_for out) (take n ds)) (next i) ∙ ap (λ (xs : List Death). list_any (is_for out) (take (i + 1) xs)) (sym same) ∙ place.2)

-- one more child
pub children_push : {K : Type 0} (xs ys : List (Flying K)) (x : Flying K) → ys ≡ xs ++ x ∷ [] → children_in ys ≡ children_in xs ++ x.child ∷ []
children_push xs ys x is = ap children_in is ∙ pushed xs x
  where
    pushed : {K : Type 0} (zs : List (Flying K)) (z : Flying K) → children_in (zs ++ z ∷ []) ≡ children_in zs ++ z.child ∷ []
    pushed [] z = refl
    pushed (y ∷ zs) z = ap (λ (fs : List ChildInFlight). y.child ∷ fs) (pushed zs z)

pub children_len : {K : Type 0} (xs : List (Flying K)) → length (children_in xs) ≡ length xs
children_len [] = refl
children_len (x ∷ xs) = ap suc (children_len xs)

pub ruleset fly_laws = (children_push, children_len)

pub one_more : {A : Type 0} (xs : List A) (x : A) → length (xs ++ x ∷ []) ≡ length xs + 1
one_more [] x = refl
one_more (y ∷ xs) x = let rest : length (xs ++ x ∷ []) ≡ length xs + 1 = one_more xs x in omega arith

-- counters beside what flies
pub called_with : {A : Type 0} (call : Call) (r : Result A PlaceFault) (fs : List ChildInFlight) (c : Counts) → with_children fs (counted call r c) ≡ counted call r (with_children fs c)
called_with call (Ok x) fs c = refl
called_with call (Err place.Read) fs c = refl
called_with call (Err place.List) fs c = refl
called_with call (Err place.Write) fs c = refl
called_with call (Err place.Remove) fs c = refl
called_with call (Err place.Variable) fs c = refl
called_with call (Err place.OutOfMemory) fs c = refl

pub failed_with : (call : Call) (e : PlaceFault) (fs : List ChildInFlight) (c : Counts) → with_children fs (past_place_fault call e c) ≡ past_place_fault call e (with_children fs c)
failed_with call place.Read fs c = refl
failed_with call place.List fs c = refl
failed_with call place.Write fs c = refl
failed_with call place.Remove fs c = refl
failed_with call place.Variable fs c = refl
failed_with call place.OutOfMemory fs c = refl

pub spawned_with : (spawned : ℕ → ChildInFlight) (r : Result ℕ StartFault) (fs : List ChildInFlight) (c : Counts) → with_children (flown spawned r fs) (counted_start r c) ≡ counted_spawn spawned r (with_children fs c)
spawned_with spawned (Ok t) fs c = refl
spawned_with spawned (Err start.CannotStart) fs c = refl
spawned_with spawned (Err start.Died) fs c = refl
spawned_with spawned (Err start.Capture) fs c = refl
spawned_with spawned (Err start.OutOfMemory) fs c = refl

pub finished_with : {A : Type 0} (ticket : ℕ) (r : Result A StartFault) (fs : List ChildInFlight) (c : Counts) → with_children (without ticket fs) (past_finish r c) ≡ counted_finish ticket r (with_children fs c)
finished_with ticket (Ok x) fs c = refl
finished_with ticket (Err start.CannotStart) fs c = refl
finished_with ticket (Err start.Died) fs c = refl
finished_with ticket (Err start.Capture) fs c = refl
finished_with ticket (Err start.OutOfMemory) fs c = refl

pub ruleset tally_laws = (called_with, failed_with, spawned_with, finished_with)

-- a child that will not answer, among those in flight
pub doomed_at : (t : ℕ) (xs : List (Flying (Option StartFault))) (x : Flying (Option StartFault)) → entry_at t xs ≡ Some x → is_doomed x ≡ true → list_any is_doomed xs ≡ true
doomed_at t xs x is hit = any_entry is_doomed t xs x is hit

pub fate_of_entry : (t : ℕ) (xs : List (Flying (Option StartFault))) (x : Flying (Option StartFault)) → entry_at t xs ≡ Some x → fate_at t xs ≡ x.kept
fate_of_entry t xs x is = ap fate_in is

pub ruleset end_laws = (doomed_at, fate_of_entry)
