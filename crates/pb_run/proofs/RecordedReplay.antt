-- A unit whose record gives its answer again, and gets a run number where it has none.
use Rattle.std.proofs.Common.{◌≡◌, ◌≢◌, ◌<◌, ◌∙◌, ℕ, true, List, is_some, Option, Some, None, refl, sym, ap, subst, inl, inr, arith}
use Rattle.std.proofs.lemmas.Bool.{false≢true}
use Rattle.pb_command_arguments.specs.Externs.{reads_of}
use Rattle.pb_command.specs.Judge.{judge}
use Rattle.pb_directive.specs.declared.directive.Directive.{Directive}
use Rattle.pb_run_flight.specs.declared.flight.State.{State}
use Rattle.pb_place_types.specs.Folders.{files_in}
use Rattle.pb_place_types.specs.Paths.{is_at_or_below}
use Rattle.pb_place_types.specs.World.{World, ChangesOnly, from_nothing, seen_by}
use Rattle.pb_place_types.specs.declared.child.Reply.{Reply}
use Rattle.pb_place_types.specs.declared.child_in_flight.ChildInFlight.{ChildInFlight}
use Rattle.pb_place_types.specs.declared.command.Command.{Command}
use Rattle.pb_command_types.specs.Targets.{unit_at}
use Rattle.pb_build_result.specs.declared.bad_unit.BadUnit.{BadUnit}
use Rattle.pb_record.specs.declared.record.Input.{Input}
use Rattle.pb_record.specs.declared.record.Record.{Record}
use Rattle.pb_run.specs.UnitSteps.{Premise, TrustedRecords, NoRecords, BuildContext, HasRecord, HoldsRecords, HoldsBy, AwaitsBy, NothingDiffers, CanAnswer, BeginsApart, command_in, needed_keys, records_in, view_in, child_of}
use Rattle.pb_run.specs.Invariants.{IsInOrder, records_folder}
use Rattle.pb_run.specs.declared.begun.Begun.{Begun}
use Rattle.pb_run.specs.declared.begun.SpawnedChild.{SpawnedChild}
use Rattle.pb_run.proofs.Recorded.{sources_still}
use Rattle.pb_run.proofs.RecordedAnswer.{grounded_alike, only_record, its_command, its_for}
use Rattle.pb_run.proofs.RecordedKeeps.{has_needs, reads_grounded}
use Rattle.pb_run.proofs.RecordedLanding.{put_over}
use Rattle.pb_run.proofs.RecordedOthers.{IfRecords, Left, agrees_still, vanished, as_before, put_anew, others_at, waits_child}
use Rattle.pb_run.proofs.RecordedSame.{named_now, needed_alike}
use Rattle.pb_run.proofs.Views.{IsFor}
use Rattle.pb_store_soundness.specs.Inputs.{Agrees, IsHonest}
use Rattle.pb_store_soundness.specs.Numbers.{IsAhead, IsBefore}
use Rattle.pb_store_soundness.specs.Records.{number_of, out_of, record_path, reading}
use Rattle.pb_store_soundness.specs.Reuse.{IsSame, AreGrounded, NamesNeeds}
use Rattle.pb_store_soundness.specs.Sound.{Sound, Backs}
use Rattle.pb_store_soundness.proofs.Ahead.{next_is_new}
use Rattle.pb_store_soundness.proofs.Becoming.{one, none_some, grounded_number}
use Rattle.pb_store_soundness.proofs.RecordPaths.{is_same}
use Rattle.pb_store_soundness.proofs.Renewing.{grounds, reuse}
use Rattle.pb_store.specs.Folder.{Leaves, HasNeeds, numbered, IsMigrated, numbered_record, migrated, migrated_by}
use Rattle.pb_store.proofs.Earned.{names_stand}
use Rattle.pb_unit.specs.declared.plan.Planned.{Planned}

-- the next number is none that was given
pub next_apart : (next : Option ℕ) (number : ℕ) → IsBefore next number → next ≢ Some number
next_apart None number before e = none_some number e
next_apart (Some n) number before e = not_less n number before (one n number e)
  where
    not_less : (m k : ℕ) → k < m → m ≡ k → ⊥
    not_less m k less is = omega (arith, less, is)

module _ (b : BuildContext) (order : IsInOrder b.project) (index : ℕ) (u : Planned) (there : unit_at b.project index ≡ Some u)
    (states : List (State BadUnit)) (done : List (Option (List Directive))) (begun : Begun) (next : Option ℕ) (w : World) (flying : List ChildInFlight) (still : ℕ → Type 0)
    (can : CanAnswer b states done index u begun next w flying still) where
  abbrev Folder : List ℕ
  Folder = records_folder b.project

  for : IsFor b.project u begun.command
  for = its_for b order index u there states done begun next w flying still can

  all_grounded : HoldsRecords b states next w → AreGrounded (records_in b w) Folder begun.command.reads
  all_grounded holds = reads_grounded b order states next w holds u begun.command.reads for.reads can.reaches

  -- the record holds the reply of the child in its view, and its files stand
  pub replay_backs : (premise : Premise) → HoldsBy premise b states next w → NothingDiffers premise b u begun.command w → seen_by begun.command w ≡ view_in b index u
      → (r : Record) × (records_in b w u.key ≡ Some r) × Backs judge r u.out (files_in u.out w.files) (b.child begun.command (view_in b index u))
  replay_backs TrustedRecords holds (r, same) sees = (
    r,
    same.stands,
    subst (λ f. Backs judge r f (files_in f w.files) (b.child begun.command (view_in b index u))) (sym (order.folders index u there))
        (subst (λ (y : Reply). Backs judge r (out_of Folder u.key) (files_in (out_of Folder u.key) w.files) y) (ap (b.child begun.command) sees)
        (reuse reading judge b.child Folder u.key begun.command w r holds.sound same (all_grounded holds))),
  )
  replay_backs NoRecords holds same sees = absurd same

  -- what makes the migrated record true
  pub is_migrated : HoldsRecords b states next w → (r : Record) → IsSame reading Folder u.key begun.command w r → seen_by begun.command w ≡ view_in b index u
      → (number : ℕ) → next ≡ Some number → IsMigrated judge b.child Folder u.key begun.command (needed_keys b.project u) number w r
  is_migrated holds r same sees number given =
      let command = its_command b order index u there states done begun next w flying still can in
      let new = next_is_new (records_in b w) number (subst (IsAhead (records_in b w)) given holds.ahead) in
      record {
        same = same;
        honest = subst (λ (c : Command). IsHonest judge b.child c w) (sym command)
            (holds.honest index u w there can.keeps.sources_stay (subst (λ (c : Command). seen_by c w ≡ view_in b index u) command sees));
        reads_grounded = all_grounded holds;
        needs_stand = subst (λ (reads : List (List ℕ)). HasNeeds (records_in b w) Folder reads (needed_keys b.project u) number) (sym for.reads)
            (has_needs b order states next w holds index u number there can.reaches new.1);
        unnamed = new.0;
      }

  -- Once it is migrated.

  module _ (w' : World) (next' : Option ℕ) (only : ChangesOnly (is_at_or_below (record_path (records_folder b.project) u.key)) w w') where
    -- in the words of the call: sound, and ahead
    pub migrated_sound : (premise : Premise) → HoldsBy premise b states next w → NothingDiffers premise b u begun.command w → seen_by begun.command w ≡ view_in b index u
        → ((r : Record) → ((number : ℕ) → next ≡ Some number → IsMigrated judge b.child Folder u.key begun.command (needed_keys b.project u) number w r) → Sound reading judge b.child Folder w.files → Sound reading judge b.child Folder w'.files)
        → IfRecords premise (Sound reading judge b.child Folder w'.files)
    migrated_sound TrustedRecords holds (r, same) sees gives = gives r (is_migrated holds r same sees) holds.sound
    migrated_sound NoRecords holds same sees gives = tt

    pub migrated_ahead : (premise : Premise) → HoldsBy premise b states next w → NothingDiffers premise b u begun.command w → seen_by begun.command w ≡ view_in b index u
        → ((r : Record) → ((number : ℕ) → next ≡ Some number → IsMigrated judge b.child Folder u.key begun.command (needed_keys b.project u) number w r) → IsAhead (records_in b w) next → IsAhead (records_in b w') next')
        → IfRecords premise (IsAhead (records_in b w') next')
    migrated_ahead TrustedRecords holds (r, same) sees gives = gives r (is_migrated holds r same sees) holds.ahead
    migrated_ahead NoRecords holds same sees gives = tt

    others_stand : (l : List ℕ) → l ≢ u.key → records_in b w' l ≡ records_in b w l
    others_stand = others_at b order index u there w w' (only_record b order index u there w w' only)

    its_reads : (r : Record) → IsSame reading Folder u.key begun.command w r → r.asked.reads ≡ reads_of b.project u
    its_reads r same = ap (λ (c : Command). c.reads) same.asked ∙ for.reads

    -- the inputs have the values that they had
    inputs_now : (inputs : List Input) → Agrees begun.command.target inputs w → Agrees begun.command.target inputs w'
    inputs_now inputs agree = agrees_still begun.command.target inputs w w'
        (subst (λ t. from_nothing t w' ≡ from_nothing t w) (sym for.target) (sources_still b.project order index u there w w' (only_record b order index u there w w' only))) agree

    -- one with a number stays, with all others
    all_stand : (r : Record) → IsSame reading Folder u.key begun.command w r → records_in b w' u.key ≡ Some r → (l : List ℕ) → records_in b w' l ≡ records_in b w l
    all_stand r same stands l = elim (is_same l u.key) [
      | inl this ↦ ap (records_in b w') this ∙ stands ∙ sym same.stands ∙ ap (records_in b w) (sym this)
      | inr apart ↦ others_stand l apart
    ]

    same_kept : (r : Record) → IsSame reading Folder u.key begun.command w r → (n : ℕ) → number_of r ≡ Some n → records_in b w' u.key ≡ Some r → IsSame reading Folder u.key (command_in b index u) w' r
    same_kept r same n is stands = subst (λ (c : Command). IsSame reading Folder u.key c w' r) (its_command b order index u there states done begun next w flying still can) record {
      stands = stands;
      asked = same.asked;
      inputs = inputs_now r.inputs same.inputs;
      needed = needed_alike Folder (records_in b w) (records_in b w') w.files w'.files r.needed n is (all_stand r same stands) same.needed;
    }

    record_kept : HoldsRecords b states next w → (r : Record) → IsSame reading Folder u.key begun.command w r → (n : ℕ) → number_of r ≡ Some n → records_in b w' u.key ≡ Some r → HasRecord b w' index
    record_kept holds r same n is stands = record {
      unit = u;
      there = there;
      kept = r;
      here = stands;
      number = n;
      numbered = is;
      grounded = grounded_alike (records_in b w) (records_in b w') u.key n (all_stand r same stands) (grounds reading judge b.child Folder u.key begun.command w r n holds.sound same (all_grounded holds) is);
      reads = its_reads r same;
      same = same_kept r same n is stands;
    }

    new_names : HoldsRecords b states next w → (r : Record) → IsSame reading Folder u.key begun.command w r → (number : ℕ) → next ≡ Some number
        → NamesNeeds (records_in b w) Folder (numbered_record r number (numbered (records_in b w) (needed_keys b.project u))) number
    new_names holds r same number given =
        let new = next_is_new (records_in b w) number (subst (IsAhead (records_in b w)) given holds.ahead) in
        names_stand (records_in b w) Folder (needed_keys b.project u) (numbered_record r number (numbered (records_in b w) (needed_keys b.project u))) number
        (subst (λ (reads : List (List ℕ)). HasNeeds (records_in b w) Folder reads (needed_keys b.project u) number) (sym (its_reads r same))
        (has_needs b order states next w holds index u number there can.reaches new.1)) refl

    -- one without gets the next
    same_made : HoldsRecords b states next w → (r : Record) → IsSame reading Folder u.key begun.command w r → number_of r ≡ None → (number : ℕ) → next ≡ Some number
        → records_in b w' u.key ≡ Some (numbered_record r number (numbered (records_in b w) (needed_keys b.project u)))
        → IsSame reading Folder u.key (command_in b index u) w' (numbered_record r number (numbered (records_in b w) (needed_keys b.project u)))
    same_made holds r same is number given stands =
        let made = numbered_record r number (numbered (records_in b w) (needed_keys b.project u)) in
        subst (λ (c : Command). IsSame reading Folder u.key c w' made) (its_command b order index u there states done begun next w flying still can) record {
          stands = stands;
          asked = same.asked;
          inputs = inputs_now r.inputs same.inputs;
          needed = named_now Folder (records_in b w) (records_in b w') w'.files u.key number (numbered (records_in b w) (needed_keys b.project u)) others_stand
              (λ s n at numbered_s. none_some n (sym is ∙ ap number_of (one r s (sym same.stands ∙ at)) ∙ numbered_s)) (new_names holds r same number given).stand;
        }

    record_made : HoldsRecords b states next w → (r : Record) → IsSame reading Folder u.key begun.command w r → number_of r ≡ None → (number : ℕ) → next ≡ Some number
        → records_in b w' u.key ≡ Some (numbered_record r number (numbered (records_in b w) (needed_keys b.project u))) → HasRecord b w' index
    record_made holds r same is number given stands =
        let made = numbered_record r number (numbered (records_in b w) (needed_keys b.project u)) in
        record {
          unit = u;
          there = there;
          kept = made;
          here = stands;
          number = number;
          numbered = refl;
          grounded = put_over (records_in b w) (records_in b w') Folder u.key made number others_stand stands refl
              (λ n ground. none_some n (sym is ∙ grounded_number (records_in b w) u.key n r ground same.stands)) (new_names holds r same number given)
              (subst (λ (reads : List (List ℕ)). AreGrounded (records_in b w) Folder reads) (ap (λ (c : Command). c.reads) (sym same.asked)) (all_grounded holds));
          reads = its_reads r same;
          same = same_made holds r same is number given stands;
        }

    record_by : HoldsRecords b states next w → (r : Record) → IsSame reading Folder u.key begun.command w r → (has : Option ℕ) → number_of r ≡ has → (given : Option ℕ) → next ≡ given
        → records_in b w' u.key ≡ migrated_by has given (numbered (records_in b w) (needed_keys b.project u)) r
        → ((s : Record) → records_in b w' u.key ≡ Some s → is_some (number_of s) ≡ true) → HasRecord b w' index
    record_by holds r same (Some n) is given next_is stands numbered_now = record_kept holds r same n is stands
    record_by holds r same None is (Some number) next_is stands numbered_now = record_made holds r same is number next_is stands
    record_by holds r same None is None next_is stands numbered_now = absurd (false≢true (sym (ap is_some is) ∙ numbered_now r stands))

    -- the unit has its record
    pub migrated_record : (premise : Premise) → HoldsBy premise b states next w → NothingDiffers premise b u begun.command w
        → records_in b w' u.key ≡ migrated next (numbered (records_in b w) (needed_keys b.project u)) (records_in b w u.key)
        → ((s : Record) → records_in b w' u.key ≡ Some s → is_some (number_of s) ≡ true) → IfRecords premise (HasRecord b w' index)
    migrated_record TrustedRecords holds (r, same) stands numbered_now =
        record_by holds r same (number_of r) refl next refl (stands ∙ ap (migrated next (numbered (records_in b w) (needed_keys b.project u))) same.stands) numbered_now
    migrated_record NoRecords holds same stands numbered_now = tt

    -- what others find at its path
    left_by : HoldsRecords b states next w → (r : Record) → IsSame reading Folder u.key begun.command w r → (has : Option ℕ) → number_of r ≡ has → (given : Option ℕ) → next ≡ given
        → records_in b w' u.key ≡ migrated_by has given (numbered (records_in b w) (needed_keys b.project u)) r → Left (records_in b w) (records_in b w') u.key next
    left_by holds r same (Some n) is given next_is stands = as_before (stands ∙ sym same.stands)
    left_by holds r same None is None next_is stands = as_before (stands ∙ sym same.stands)
    left_by holds r same None is (Some number) next_is stands =
        put_anew (numbered_record r number (numbered (records_in b w) (needed_keys b.project u))) number stands refl next_is (new_names holds r same number next_is).stand

    pub left_migrated : (premise : Premise) → HoldsBy premise b states next w → NothingDiffers premise b u begun.command w
        → Leaves (migrated next (numbered (records_in b w) (needed_keys b.project u)) (records_in b w u.key)) (records_in b w u.key) (records_in b w' u.key)
        → IfRecords premise (Left (records_in b w) (records_in b w') u.key next)
    left_migrated TrustedRecords holds (r, same) left = elim left [
      | inl gone ↦ vanished gone
      | inr more ↦ elim more [
        | inl stays ↦ as_before stays
        | inr put ↦ left_by holds r same (number_of r) refl next refl (put ∙ ap (migrated next (numbered (records_in b w) (needed_keys b.project u))) same.stands)
      ]
    ]
    left_migrated NoRecords holds same left = tt

-- where a unit has no child, the number that its record may get is none that another has
pub numbers_apart : (b : BuildContext) (u : Planned) (c : Command) (states : List (State BadUnit)) (index : ℕ) (launched : Option SpawnedChild) (other : ℕ) (its : Begun) (next : Option ℕ) (w : World) (flying : List ChildInFlight) (still : ℕ → Type 0)
    → NothingDiffers b.premise b u c w → BeginsApart b states index launched other its next w flying still → (theirs : SpawnedChild) → child_of its ≡ Some theirs → next ≢ Some theirs.number
numbers_apart b u c states index launched other its next w flying still same apart theirs is =
    by_footing b.premise same (waits_child b apart.begun_so.unit its.command (view_in b other apart.begun_so.unit) its.awaited theirs next w flying still is apart.begun_so.waits).1
  where
    by_footing : (premise : Premise) → NothingDiffers premise b u c w → AwaitsBy premise b apart.begun_so.unit theirs.number next w → next ≢ Some theirs.number
    by_footing TrustedRecords same_now waits = next_apart next theirs.number waits.before
    by_footing NoRecords same_now waits = absurd same_now
