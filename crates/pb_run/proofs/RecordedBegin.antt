-- A unit begins: what is kept, and what its child waits for.
use Rattle.std.proofs.Common.{◌≡◌, ◌≢◌, ◌∙◌, ℕ, true, false, List, Option, Some, None, Contains, refl, sym, ap, subst, slice_get}
use Rattle.std.proofs.lemmas.Bool.{false≢true}
use Rattle.std.specs.FinMap as finite
use Rattle.std.specs.Prelude.{slice_set}
use Rattle.pb_command.specs.Judge.{judge}
use Rattle.pb_directive.specs.declared.directive.Directive.{Directive}
use Rattle.pb_run_flight.specs.declared.flight.State.{State}
use Rattle.pb_run_flight.specs.declared.flight.State.TheVariants.{Untouched, Begun as begun_state}
use Rattle.pb_run_flight.specs.Table.{is_good_at, are_good}
use Rattle.pb_run_flight.proofs.Lists.{get_set_same, get_set_other, length_set}
use Rattle.pb_place_types.specs.Children.{child_spawned, child_at, inside_out}
use Rattle.pb_place_types.specs.World.{World, ChangesOnly, seen_by}
use Rattle.pb_place_types.specs.declared.child_in_flight.ChildInFlight.{ChildInFlight}
use Rattle.pb_command_types.specs.Targets.{unit_at}
use Rattle.pb_build_result.specs.declared.bad_unit.BadUnit.{BadUnit}
use Rattle.pb_record.specs.declared.record.Record.{Record}
use Rattle.pb_run.specs.UnitSteps.{Premise, TrustedRecords, NoRecords, BuildContext, HasRecord, HoldsBy, BuildInvariant, IsBegun, AwaitsBy, NothingDiffers, WaitsBy, CanBegin, records_in, command_in, view_in}
use Rattle.pb_run.specs.Invariants.{IsInOrder, records_folder}
use Rattle.pb_run.specs.declared.begun.Awaited.{Awaited}
use Rattle.pb_run.specs.declared.begun.Awaited.TheVariants as awaited
use Rattle.pb_run.specs.declared.begun.Begun.{Begun}
use Rattle.pb_run.specs.declared.begun.SpawnedChild.{SpawnedChild}
use Rattle.pb_run.proofs.Recorded.{command_for, seen_still}
use Rattle.pb_run.proofs.RecordedKeeps.{has_needs, keeps_over}
use Rattle.pb_run.proofs.RecordedOthers.{IfRecords, vanished, names_still, needs_still, others_at, far_of}
use Rattle.pb_store_soundness.specs.Apart.{is_of}
use Rattle.pb_store_soundness.specs.Numbers.{IsAhead, after, IsBefore}
use Rattle.pb_store_soundness.specs.Reuse.{IsSame}
use Rattle.pb_store_soundness.specs.Sound.{Sound}
use Rattle.pb_store_soundness.proofs.Ahead.{given_ahead, next_is_new}
use Rattle.pb_store_soundness.proofs.Becoming.{none_some}
use Rattle.pb_store.specs.Differences.{IsReplayed}
use Rattle.pb_store.specs.declared.replaying.Replayed.{Replayed}
use Rattle.pb_unit.specs.declared.plan.Planned.{Planned}
use Rattle.pb_store_soundness.specs.Records.{reading}

untouched_begun : (s : State BadUnit) → s ≡ begun_state → Some s ≡ Some Untouched → ⊥
untouched_begun s is e = cc

-- by what a build rests on
pub by_footing : (premise : Premise) (b : BuildContext) (states : List (State BadUnit)) (next : Option ℕ) (w : World) (Fact : Type 0) → HoldsBy premise b states next w
    → (Sound reading judge b.child (records_folder b.project) w.files → IsAhead (records_in b w) next → Fact) → IfRecords premise Fact
by_footing TrustedRecords b states next w Fact holds gives = gives holds.sound holds.ahead
by_footing NoRecords b states next w Fact holds gives = tt

pub never_by : (premise : Premise) (Given Fact : Type 0) → (Given → ⊥) → IfRecords premise (Given → Fact)
never_by TrustedRecords Given Fact never = λ given. absurd (never given)
never_by NoRecords Given Fact never = tt

module _ (b : BuildContext) (order : IsInOrder b.project) (states : List (State BadUnit)) (done : List (Option (List Directive))) (index : ℕ) (u : Planned) (there : unit_at b.project index ≡ Some u)
    (next : Option ℕ) (w w' : World) (only : ChangesOnly (is_of (records_folder b.project) u.key) w w') where
  -- a unit that is not good is not reached by itself
  pub own_far : is_good_at (slice_get states index) ≡ false → are_good states u.reaches ≡ true → (p : ℕ) → Contains u.reaches p → p ≢ index
  own_far bad reaches = far_of states index u.reaches bad reaches

  -- nor does its own work change what its child is shown
  pub own_seen : (c : _) → is_good_at (slice_get states index) ≡ false → are_good states u.reaches ≡ true → c ≡ command_in b index u → seen_by c w' ≡ seen_by c w
  own_seen c bad reaches is = seen_still b.project order index u there w w' only u c (command_for b.project order b index u c refl there is) (own_far bad reaches)

  module _ (can : CanBegin b states done index u next w) where
    untouched_bad : is_good_at (slice_get states index) ≡ false
    untouched_bad = ap is_good_at can.untouched

    now_begun : slice_get (slice_set states index begun_state) index ≡ Some begun_state
    now_begun = get_set_same states index Untouched begun_state can.untouched

    not_good : is_good_at (slice_get (slice_set states index begun_state) index) ≡ true → ⊥
    not_good good = false≢true (sym (ap is_good_at now_begun) ∙ good)

    -- what is kept while it begins, and after each fault on the way
    pub keeps_begun : (next' : Option ℕ) → (Sound reading judge b.child (records_folder b.project) w.files → Sound reading judge b.child (records_folder b.project) w'.files)
        → (IsAhead (records_in b w) next → IsAhead (records_in b w') next') → BuildInvariant b (slice_set states index begun_state) done next' w'
    keeps_begun next' sound ahead = keeps_over b order states done index u there untouched_bad next w w' can.keeps only (slice_set states index begun_state) done next'
        (λ p apart. get_set_other states index p begun_state (λ e. apart (sym e))) (λ p apart. refl) (can.keeps.long ∙ sym (length_set states index begun_state))
        record {
          stands = λ good. absurd (not_good good);
          reaches = λ good. absurd (not_good good);
          recorded = never_by b.premise (is_good_at (slice_get (slice_set states index begun_state) index) ≡ true) (HasRecord b w' index) not_good;
          begun = λ untouched. untouched_begun begun_state refl (sym now_begun ∙ untouched);
        }
        (by_footing b.premise b states next w (Sound reading judge b.child (records_folder b.project) w'.files) can.keeps.records (λ was more. sound was))
        (by_footing b.premise b states next w (IsAhead (records_in b w') next') can.keeps.records (λ was more. ahead more))

    -- a record of it may be kept with the number that was given
    pub awaits : (premise : Premise) (number : ℕ) (next' : Option ℕ) → HoldsBy premise b states next w → records_in b w' u.key ≡ None → next ≡ Some number → next' ≡ after number → AwaitsBy premise b u number next' w'
    awaits NoRecords number next' holds gone given then' = tt
    awaits TrustedRecords number next' holds gone given then' =
        let ahead : IsAhead (records_in b w) (Some number) = subst (IsAhead (records_in b w)) given holds.ahead in
        let new = next_is_new (records_in b w) number ahead in
        record {
          gone = gone;
          unnamed = names_still (records_in b w) (records_in b w') u.key None number (others_at b order index u there w w' only) (vanished gone) (λ e. none_some number e) new.0;
          needs_stand = needs_still b order index u there w w' only index u there (own_far untouched_bad can.reaches) number
              (has_needs b order states next w holds index u number there can.reaches new.1);
          before = subst (λ n. IsBefore n number) (sym then') (given_ahead (records_in b w) number ahead).1;
        }

    -- with a child it has begun so,
    pub begun_child : (begun : Begun) (launched : SpawnedChild) (spawned : World) (next' : Option ℕ) (flying' : List ChildInFlight) (still' : ℕ → Type 0)
        → begun.command ≡ command_in b index u → begun.awaited ≡ awaited.Child launched → seen_by begun.command w ≡ view_in b index u
        → ChangesOnly (is_of (records_folder b.project) u.key) w spawned → child_at launched.ticket flying' ≡ Some (child_spawned (b.child begun.command) begun.command spawned launched.ticket)
        → inside_out begun.command.out spawned.files ≡ finite.empty → still' launched.ticket
        → records_in b w' u.key ≡ None → next ≡ Some launched.number → next' ≡ after launched.number → IsBegun b index begun next' w' flying' still'
    begun_child begun launched spawned next' flying' still' is_command is_launched sees before flies emptied stands gone given then' = record {
      unit = u;
      there = there;
      command = is_command;
      waits = subst (λ (o : Awaited). WaitsBy b u begun.command (view_in b index u) o next' w' flying' still') (sym is_launched) (
        record {
          spawned = spawned;
          flies = flies;
          sees = seen_still b.project order index u there w spawned before u begun.command (command_for b.project order b index u begun.command refl there is_command) (own_far untouched_bad can.reaches) ∙ sees;
          emptied = emptied;
          stands = stands;
        },
        awaits b.premise launched.number next' can.keeps.records gone given then',
      );
    }

    -- and without one, where nothing differs
    unchanged_by : (premise : Premise) (c : _) → HoldsBy premise b states next w → (r : Record) × IsSame reading (records_folder b.project) u.key c w r → NothingDiffers premise b u c w
    unchanged_by TrustedRecords c holds same = same
    unchanged_by NoRecords c holds (r, same) = none_some r (sym (holds index u there can.untouched) ∙ same.stands)

    pub begun_same : (begun : Begun) (again : Replayed) (flying : List ChildInFlight) (still : ℕ → Type 0) → begun.command ≡ command_in b index u → begun.awaited ≡ awaited.Record again
        → (r : Record) × IsSame reading (records_folder b.project) u.key begun.command w r → IsReplayed (records_in b w u.key) again → IsBegun b index begun next w flying still
    begun_same begun again flying still is_command is_awaited same gives = record {
      unit = u;
      there = there;
      command = is_command;
      waits = subst (λ (o : Awaited). WaitsBy b u begun.command (view_in b index u) o next w flying still) (sym is_awaited) (unchanged_by b.premise begun.command can.keeps.records same, gives);
    }
