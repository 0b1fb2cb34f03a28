-- Where a comparison with a record looks: its inputs, the units that it names, and its place.
use Rattle.std.proofs.Common.{◌≡◌, ◌∙◌, ◌++◌, ℕ, Bool, true, false, cond, List, [], ◌∷◌, Option, Some, None, Result, refl, sym, ap, subst}
use Rattle.std.specs.Prelude.{Decides, MatchOption}
use Rattle.std.specs.List.{list_all}
use Rattle.std.specs.Option.{option_map_or}
use Rattle.pb_place_types.specs.CallsInTurn.{past_calls}
use Rattle.pb_place_types.specs.declared.call.Call.TheVariants as call
use Rattle.pb_place_types.specs.Counts.{Counts}
use Rattle.pb_place_types.specs.World.{World}
use Rattle.pb_place_types.specs.declared.command.Command as commands
use Rattle.pb_place_types.proofs.CallsInTurn.{append_none}
use Rattle.pb_record.specs.Commands.{command_of}
use Rattle.pb_record.specs.declared.record.Input.{Input}
use Rattle.pb_record.specs.declared.record.InputName.{InputName}
use Rattle.pb_record.specs.declared.record.Record.{Record}
use Rattle.pb_store_soundness.specs.Inputs.{Agrees, name_of}
use Rattle.pb_store_soundness.specs.Records.{record_path, records}
use Rattle.pb_store.specs.Asking.{IsFirstName, SamePart, parts}
use Rattle.pb_store.specs.Differences.{FirstInput, IsFirst, IsPresent}
use Rattle.pb_store.specs.declared.difference.CommandPart.{CommandPart}
use Rattle.pb_store.specs.declared.fault.StoreFault.{StoreFault}
use Rattle.pb_store.specs.Looking.{Looks, StopsAt, is_present, inputs_looked, needed_looked, around_looked, from_looked, unit_looked}
use Rattle.pb_store.proofs.Alike.{all_decided, asked_decides, present_decides}
use Rattle.pb_store.proofs.Looking.{looks_both, stops_first}
use Rattle.pb_store.proofs.Once.{asks_of, name_apart, none_fails, part_apart}

refuted : {P : Type 0} (b : Bool) → Decides b P → (P → ⊥) → b ≡ false
refuted true test wrong = absurd (wrong (test.0 refl))
refuted false test wrong = refl

-- its inputs, and then the units that it names
module _ (folder target : List ℕ) (w : World) (r : Record) (inputs : List Input) (are : inputs ≡ r.inputs) (old : Counts) where
  around_inputs : list_all (is_present target w) r.inputs ≡ false → around_looked folder target w r ≡ inputs_looked target w inputs
  unfolding around_looked
  around_inputs differs = ap (λ b. inputs_looked target w r.inputs ++ cond b (needed_looked folder w r.needed) []) differs ∙ append_none (inputs_looked target w r.inputs) ∙ ap (inputs_looked target w) (sym are)

  around_names : Agrees target inputs w → around_looked folder target w r ≡ inputs_looked target w inputs ++ needed_looked folder w r.needed
  unfolding around_looked
  around_names agrees =
      ap (λ b. inputs_looked target w r.inputs ++ cond b (needed_looked folder w r.needed) []) ((all_decided (IsPresent target w) (is_present target w) (present_decides target w) r.inputs).1 (subst (λ xs. Agrees target xs w) are agrees))
      ∙ ap (λ xs. inputs_looked target w xs ++ needed_looked folder w r.needed) (sym are)

  pub around_unread : (e : StoreFault) (new : Counts) → StopsAt e (inputs_looked target w inputs) old new → StopsAt e (around_looked folder target w r) old new
  unfolding around_looked
  around_unread e new stops = stops_first e (inputs_looked target w r.inputs) _ old new (subst (λ xs. StopsAt e (inputs_looked target w xs) old new) are stops)

  pub around_ends : (found : Option InputName) (name : InputName) (new : Counts) → found ≡ Some name → FirstInput target inputs w found → new ≡ past_calls (inputs_looked target w inputs) old
      → new ≡ past_calls (around_looked folder target w r) old
  around_ends found name new some told made =
      let first : IsFirst (IsPresent target w) name_of inputs name = subst (λ o. FirstInput target inputs w o) some told in
      let differs : list_all (is_present target w) r.inputs ≡ false = refuted _ (all_decided (IsPresent target w) (is_present target w) (present_decides target w) r.inputs) (λ all. none_fails (IsPresent target w) name_of inputs name (subst (λ xs. Agrees target xs w) (sym are) all) first) in
      made ∙ ap (λ names. past_calls names old) (sym (around_inputs differs))

  pub around_then : {T : Type 0} (result : Result T StoreFault) (found : Option InputName) (now : World) (mid new : Counts) → now ≡ w → found ≡ None → FirstInput target inputs w found
      → mid ≡ past_calls (inputs_looked target w inputs) old → Looks result (needed_looked folder now r.needed) mid new → Looks result (around_looked folder target w r) old new
  around_then result found now mid new same none told first second =
      let agrees : Agrees target inputs w = subst (λ o. FirstInput target inputs w o) none told in
      subst (λ names. Looks result names old new) (sym (around_names agrees))
      (looks_both result (inputs_looked target w inputs) (needed_looked folder w r.needed) old mid new first
      (subst (λ (v : World). Looks result (needed_looked folder v r.needed) mid new) same second))

-- a record, where its command is another, and where it is the same
module _ (folder : List ℕ) (c : commands.Command) (w : World) (r : Record) where
  from_none : (command_of r.asked ≡ c → ⊥) → from_looked folder c w r ≡ []
  unfolding from_looked
  from_none wrong = ap (λ b. cond b (around_looked folder c.target w r) []) (refuted _ (asked_decides r.asked c) wrong)

  from_around : command_of r.asked ≡ c → from_looked folder c w r ≡ around_looked folder c.target w r
  unfolding from_looked
  from_around same = ap (λ b. cond b (around_looked folder c.target w r) []) ((asked_decides r.asked c).1 same)

  pub part_unlooked : (part : CommandPart) (now : Counts) → IsFirst (SamePart r.asked c) (λ p. p) parts part → now ≡ past_calls (from_looked folder c w r) now
  part_unlooked part now first = ap (λ names. past_calls names now) (sym (from_none (λ same. part_apart r.asked c part (asks_of r.asked c same) first)))

  pub name_unlooked : (pairs others : List (List ℕ × List ℕ)) (found : Option (List ℕ)) (name : List ℕ) (now : Counts) → pairs ≡ r.asked.pairs → others ≡ c.pairs → found ≡ Some name → MatchOption found (pairs ≡ others) (IsFirstName pairs others) → now ≡ past_calls (from_looked folder c w r) now
  name_unlooked pairs others found name now is are some told =
      let here : IsFirstName pairs others name = subst (λ o. MatchOption o (pairs ≡ others) (IsFirstName pairs others)) some told in
      let first : IsFirstName r.asked.pairs c.pairs name = subst (λ xs. IsFirstName xs c.pairs name) is (subst (λ ys. IsFirstName pairs ys name) are here) in
      ap (λ names. past_calls names now) (sym (from_none (λ same. name_apart r.asked c name same first)))

  pub from_then : {T : Type 0} (result : Result T StoreFault) (old new : Counts) → command_of r.asked ≡ c → Looks result (around_looked folder c.target w r) old new → Looks result (from_looked folder c w r) old new
  from_then result old new same looks = subst (λ names. Looks result names old new) (sym (from_around same)) looks

-- the place of a record, and the record that counts there
module _ (folder key : List ℕ) (c : commands.Command) (w : World) (old : Counts) where
  pub at_unread : (e : StoreFault) (new : Counts) → StopsAt e (call.Read (record_path folder key) ∷ []) old new → StopsAt e (unit_looked folder key c w) old new
  unfolding unit_looked
  at_unread e new stops = stops_first e (call.Read (record_path folder key) ∷ []) _ old new stops

  pub at_none : (found : Option Record) (new : Counts) → found ≡ records folder w key → found ≡ None → new ≡ past_calls (call.Read (record_path folder key) ∷ []) old → new ≡ past_calls (unit_looked folder key c w) old
  unfolding unit_looked
  at_none found new is none made = made ∙ ap (λ o. past_calls (call.Read (record_path folder key) ∷ option_map_or (from_looked folder c w) o []) old) (sym none ∙ is)

  at_names : (found : Option Record) (r : Record) → found ≡ records folder w key → found ≡ Some r → unit_looked folder key c w ≡ (call.Read (record_path folder key) ∷ []) ++ from_looked folder c w r
  unfolding unit_looked
  at_names found r is some = ap (λ o. call.Read (record_path folder key) ∷ option_map_or (from_looked folder c w) o []) (sym is ∙ some)

  pub at_then : {T : Type 0} (result : Result T StoreFault) (found : Option Record) (r : Record) (now : World) (mid new : Counts) → found ≡ records folder w key → found ≡ Some r → now ≡ w → mid ≡ past_calls (call.Read (record_path folder key) ∷ []) old
      → Looks result (from_looked folder c now r) mid new → Looks result (unit_looked folder key c w) old new
  at_then result found r now mid new is some same first second =
      subst (λ names. Looks result names old new) (sym (at_names found r is some))
      (looks_both result (call.Read (record_path folder key) ∷ []) (from_looked folder c w r) old mid new first
      (subst (λ (v : World). Looks result (from_looked folder c v r) mid new) same second))
