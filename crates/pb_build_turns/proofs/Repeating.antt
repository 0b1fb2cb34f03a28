-- Where each unit has its record at first, no child is started.
use Rattle.std.proofs.Common.{◌≡◌, ◌⊎◌, ◌∙◌, inl, inr, Bool, true, false, not, List, [], ◌∷◌, ℕ, Option, Some, None, Result, Ok, Err, Contains, refl, sym, ap, subst, is_some, append-nil, map, length}
use Rattle.std.proofs.lemmas.Bool.{false≢true}
use Rattle.std.specs.List.{AllByRecursion, flat_map}
use Rattle.pb_run_flight.specs.declared.flight.State.TheVariants.{Untouched, Begun, Answered}
use Rattle.pb_run_flight.specs.declared.turn.Step.{Step}
use Rattle.pb_run_flight.specs.Events.{Event, Began, Anything, IsLawful, MayBegin, nothing, begin, answer, started_by, states_after}
use Rattle.pb_run_flight.specs.Laws.{HasBegun}
use Rattle.pb_run_flight.specs.Steps.{Anyhow}
use Rattle.pb_run_flight.proofs.Lists.{injective, contains_head, contains_tail}
use Rattle.pb_run_flight.proofs.Stepping.{steps_are_lawful}
use Rattle.pb_place_types.specs.Counts.{Counts, counted_finish}
use Rattle.pb_place_types.specs.World.{World, Map}
use Rattle.pb_place_types.specs.declared.command.Command.{Command}
use Rattle.pb_place_types.specs.declared.command.Ended.{Ended}
use Rattle.pb_place_types.specs.declared.place.StartFault.{StartFault}
use Rattle.pb_place_types.specs.declared.place.StartFault.TheVariants as start
use Rattle.pb_command_types.specs.Targets.{unit_at}
use Rattle.pb_build_result.specs.declared.bad_unit.BadUnit.{BadUnit}
use Rattle.pb_record.specs.declared.record.Needed.{Needed}
use Rattle.pb_record.specs.declared.record.Needed.TheVariants.{Copies, Numbers}
use Rattle.pb_record.specs.declared.record.Record.{Record}
use Rattle.pb_run.specs.UnitSteps.{TrustedRecords, BuildContext, build_context, HasRecord, HoldsRecords, command_in, key_in, records_in}
use Rattle.pb_run.specs.Invariants.{records_folder}
use Rattle.pb_store_soundness.specs.Grounded.{RecordMap}
use Rattle.pb_store_soundness.specs.Records.{number_in, number_of, reading, records}
use Rattle.pb_store_soundness.specs.Reuse.{IsSame, NeededNow, number_if}
use Rattle.pb_store_soundness.proofs.Becoming.{none_some}
use Rattle.pb_store.specs.Differences.{AreNeeded, FirstDifference, FirstOf, HasNumber}
use Rattle.pb_store.specs.Folder.{lacks_number}
use Rattle.pb_store.specs.declared.difference.Difference.{Difference}
use Rattle.pb_store.proofs.Once.{one_difference}
use Rattle.pb_build_turns.specs.Executor.{needs_of, ticket_of_child}
use Rattle.pb_build_turns.specs.Ends.{Dropped, EachHasRecord, LeavesRecords, StartsNothing, StartsNoneAgain}
use Rattle.pb_build_turns.specs.Rows.{is_started}
use Rattle.pb_build_turns.specs.History.{LacksNumber, events_before, states_in, upped}
use Rattle.pb_build_turns.proofs.Happening.{before_now, before_other, started_now, started_other}
use Rattle.pb_build_turns.proofs.States.{another, begun_more, begun_now}
use Rattle.pb_unit.specs.declared.plan.Planned.{Planned}

-- Nothing differs from a record of format 2 that stands for what it says.

all_numbers : (at : RecordMap) (needs : List (List ℕ × ℕ)) → ((need : List ℕ) (n : ℕ) → Contains needs (need, n) → number_if (at need) ≡ Some n) → AllByRecursion (HasNumber at) needs
all_numbers at [] now = tt
all_numbers at (x ∷ needs) now = (now x.0 x.1 (contains_head x needs), all_numbers at needs (λ need n has. now need n (contains_tail x needs (need, n) has)))

are_needed : (folder : List ℕ) (at : RecordMap) (files : Map) (needed : Needed) (n : ℕ) → number_in needed ≡ Some n → NeededNow folder at files needed → AreNeeded folder at files needed
are_needed folder at files (Copies copies) n is now = absurd (none_some n is)
are_needed folder at files (Numbers number needs) n is now = all_numbers at needs now

none_first : (folder key : List ℕ) (c : Command) (w : World) (r : Record) (n : ℕ) → number_of r ≡ Some n → IsSame reading folder key c w r → FirstDifference folder key c w None
none_first folder key c w r n is same =
    subst (λ (o : Option Record). FirstOf folder (records folder w) c w o None) (sym same.stands) record {
      asked = same.asked;
      inputs = same.inputs;
      needed = are_needed folder (records folder w) w.files r.needed n is same.needed;
    }

-- no record lacks a number
numbered_all : (b : BuildContext) (w : World) → EachHasRecord b w → (index : ℕ) → LacksNumber b.project w index false
numbered_all b w each index u there =
    let h = each index u there in
    let is : h.unit ≡ u = injective (sym h.there ∙ there) in
    sym (ap (λ (x : Planned). lacks_number (records_in b w x.key)) is) ∙ ap lacks_number h.here ∙ ap (λ (o : Option ℕ). not (is_some o)) h.numbered

-- so none does from that of a unit
none_differs : (b : BuildContext) (w : World) (index : ℕ) (u : Planned) → unit_at b.project index ≡ Some u → HasRecord b w index → FirstDifference (records_folder b.project) u.key (command_in b index u) w None
none_differs b w index u there h =
    subst (λ (x : Planned). FirstDifference (records_folder b.project) x.key (command_in b index x) w None) (injective (sym h.there ∙ there))
    (none_first (records_folder b.project) h.unit.key (command_in b index h.unit) w h.kept h.number h.numbered h.same)

-- Where a child was started, one was the first.

record IsFirstStart (needs : List (List ℕ)) (es : List (Event BadUnit)) : Type 0 where
  pub index : ℕ
  pub begun : HasBegun (states_after needs es) index
  pub started : is_started es index ≡ true
  pub none : started_by (events_before es index) ≡ []

first_begun : (needs : List (List ℕ)) (es : List (Event BadUnit)) (u : ℕ) (spawned : Bool) → MayBegin needs (states_after needs es) u → (started_by es ≡ []) ⊎ IsFirstStart needs es
    → (started_by (Began u spawned ∷ es) ≡ []) ⊎ IsFirstStart needs (Began u spawned ∷ es)
first_begun needs es u true may (inl none) = inr record {
  index = u;
  begun = begun_now (states_after needs es) u Untouched Begun may.untouched refl;
  started = started_now es u true;
  none = ap (λ (x : List (Event BadUnit)). started_by x) (before_now es u true) ∙ none;
}
first_begun needs es u false may (inl none) = inl (append-nil (started_by es) ∙ none)
first_begun needs es u spawned may (inr f) =
    let ne = another (states_after needs es) u f.index may.untouched f.begun in
    inr record {
      index = f.index;
      begun = begun_more (states_after needs es) u f.index Untouched Begun may.untouched refl f.begun;
      started = started_other es u f.index spawned ne ∙ f.started;
      none = ap (λ (x : List (Event BadUnit)). started_by x) (before_other es u f.index spawned ne) ∙ f.none;
    }

first_start : (needs : List (List ℕ)) (es : List (Event BadUnit)) → IsLawful needs es → (started_by es ≡ []) ⊎ IsFirstStart needs es
first_start needs _ nothing = inl refl
first_start needs _ (begin es u spawned before may) = first_begun needs es u spawned may (first_start needs es before)
first_start needs _ (answer es u given before flying gives) = elim (first_start needs es before) [
  | inl none ↦ inl none
  | inr f ↦ inr record {
    index = f.index;
    begun = begun_more (states_after needs es) u f.index Begun (Answered given) flying refl f.begun;
    started = f.started;
    none = f.none;
  }
]

-- the first one began in the first world, where nothing differed of its unit
pub starts_nothing : StartsNothing
starts_nothing b es reasons first now lawful began each = elim (first_start (needs_of b.project) es lawful) [
  | inl none ↦ none
  | inr f ↦
      let g = began f.index f.begun in
      let as_first : g.world ≡ first = g.unstarted f.none (numbered_all b first each) in
      let named = subst (λ (w : World). FirstDifference (records_folder b.project) g.unit.key (command_in b f.index g.unit) w g.difference) as_first g.named in
      let nothing_is : g.difference ≡ None = one_difference (records_folder b.project) g.unit.key (command_in b f.index g.unit) first g.difference None named (none_differs b first f.index g.unit g.there (each f.index g.unit g.there)) in
      absurd (false≢true (sym (ap (λ (o : Option Difference). is_some o) nothing_is) ∙ sym g.started ∙ f.started))
]

-- Units that came to their end.

-- a child that is asked for its end is no start
finish_count : (ticket : ℕ) (result : Result Ended StartFault) (old : Counts) → (counted_finish ticket result old).starts.count ≡ old.starts.count
finish_count ticket (Ok x) old = refl
finish_count ticket (Err start.CannotStart) old = refl
finish_count ticket (Err start.Died) old = refl
finish_count ticket (Err start.Capture) old = refl
finish_count ticket (Err start.OutOfMemory) old = refl

pub dropped_count : (tickets : List ℕ) (old new : Counts) → Dropped tickets old new → new.starts.count ≡ old.starts.count
dropped_count [] old new dropped = ap (λ (c : Counts). c.starts.count) dropped
dropped_count (ticket ∷ tickets) old new (result, may, more) = dropped_count tickets (counted_finish ticket result old) new more ∙ finish_count ticket result old

pub leaves_records : {S : Type 0} (Turns : S → List ℕ → List ℕ → Step → S → Type 0) → LeavesRecords Turns
leaves_records Turns child setup project next from last summary old new ends success sources keeps index u there =
    let b = build_context TrustedRecords child setup project sources in
    let whole = ends.told refl TrustedRecords sources keeps in
    let holds : HoldsRecords b (states_in project ends.es) whole.stands.next new.world = whole.stands.keeps.records in
    holds.recorded index (ends.good success index u there)

pub starts_none_again : {S : Type 0} (Turns : S → List ℕ → List ℕ → Step → S → Type 0) → StartsNoneAgain Turns
starts_none_again Turns child setup project next from last summary old new ends premise sources keeps each =
    let whole = ends.told refl premise sources keeps in
    let none : started_by ends.es ≡ [] = starts_nothing (build_context premise child setup project sources) ends.es ends.reasons old.world new.world (steps_are_lawful Turns (needs_of project) Anyhow Anything from ends.es last ends.flies) whole.began each in (
      dropped_count (map ticket_of_child ends.mid.starts.flying) ends.mid new.counts ends.drained ∙ ends.starts ∙ ap (λ indices. upped (length indices) old.counts.starts.count) none,
      ends.started ∙ ap (λ indices. flat_map (λ index. key_in (unit_at project index)) indices) none,
    )
