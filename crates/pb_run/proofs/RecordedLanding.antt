-- The record of a unit whose child has landed: what makes it true, and what stands once it is kept.
use Rattle.std.proofs.Common.{◌≡◌, ◌≢◌, ◌∙◌, ℕ, List, Option, Some, map, refl, sym, ap, subst, inl, inr}
use Rattle.pb_command.specs.Judge.{judge, ended_by, replied_files}
use Rattle.pb_directive.specs.declared.directive.Directive.{Directive}
use Rattle.pb_run_flight.specs.declared.flight.State.{State}
use Rattle.pb_place_types.specs.Folders.{files_in}
use Rattle.pb_place_types.specs.Paths.{is_at_or_below}
use Rattle.pb_place_types.specs.World.{World, ChangesOnly, from_nothing, seen_by}
use Rattle.pb_place_types.specs.declared.child.Reply.{Reply}
use Rattle.pb_place_types.specs.declared.child_in_flight.ChildInFlight.{ChildInFlight}
use Rattle.pb_place_types.specs.declared.command.Command.{Command}
use Rattle.pb_place_types.specs.declared.command.Ended.{Ended}
use Rattle.pb_command_types.specs.Targets.{unit_at}
use Rattle.pb_record.specs.declared.record.InputName.{InputName}
use Rattle.pb_build_result.specs.declared.bad_unit.BadUnit.{BadUnit}
use Rattle.pb_record.specs.declared.record.Input.{Input}
use Rattle.pb_record.specs.declared.record.Record.{Record}
use Rattle.pb_run.specs.UnitSteps.{Premise, TrustedRecords, NoRecords, BuildContext, HasRecord, HoldsRecords, HoldsBy, AwaitsRecord, AwaitsBy, CanAnswer, command_in, needed_keys, records_in, view_in}
use Rattle.pb_run.specs.Invariants.{IsInOrder, records_folder}
use Rattle.pb_run.specs.declared.begun.Begun.{Begun}
use Rattle.pb_run.proofs.Recorded.{sources_still}
use Rattle.pb_run.proofs.RecordedAnswer.{good_status, grounded_alike, ahead_alike, only_out, only_record, records_out, sound_out, its_command, its_for, begun_bad, own_indices}
use Rattle.pb_run.proofs.RecordedBegin.{own_seen}
use Rattle.pb_run.proofs.RecordedKeeps.{reads_grounded}
use Rattle.pb_run.proofs.RecordedOthers.{IfRecords, Left, agrees_still, vanished, as_before, put_anew, needs_still, others_at}
use Rattle.pb_run.proofs.RecordedSame.{command_back, named_now, present_agree}
use Rattle.pb_run.proofs.Views.{IsFor}
use Rattle.pb_store_soundness.specs.Grounded.{RecordMap, Grounded}
use Rattle.pb_store_soundness.specs.Inputs.{IsHonest, input_in, reply_in}
use Rattle.pb_store_soundness.specs.Numbers.{NoneNames, IsAhead, IsBefore}
use Rattle.pb_store_soundness.specs.Records.{number_of, out_of, record_path, reading}
use Rattle.pb_store_soundness.specs.Reuse.{AreGrounded, IsSame, NamesNeeds, own}
use Rattle.pb_store_soundness.specs.Sound.{Sound}
use Rattle.pb_store_soundness.proofs.Becoming.{one, none_some, grounded_number, grounded_stands}
use Rattle.pb_store_soundness.proofs.Renewing.{put_grounds}
use Rattle.pb_store.specs.Folder.{Leaves, HasNeeds, IsKept, kept_of, numbered}
use Rattle.pb_store.proofs.Earned.{names_stand}
use Rattle.pb_unit.specs.declared.plan.Planned.{Planned}

-- a record that is put over grounded units is grounded
pub put_over : (old new : RecordMap) (folder key : List ℕ) (r : Record) (number : ℕ) → ((l : List ℕ) → l ≢ key → new l ≡ old l) → new key ≡ Some r → number_of r ≡ Some number → ((n : ℕ) → Grounded old key n → ⊥)
    → NamesNeeds old folder r number → AreGrounded old folder r.asked.reads → Grounded new key number
put_over old new folder key r number others here numbered_r ungrounded names grounds =
    put_grounds old new key r number others here numbered_r ungrounded
    (λ need n has.
    let (m, ground) = grounds need ((names.reads (out_of folder need)).1 (own need n has refl)) in
    let (s, stands, numbered_s) = names.stand need n has in
    (names.less need n has, subst (Grounded old need) (one m n (sym (grounded_number old need m s ground stands) ∙ numbered_s)) ground))

module _ (b : BuildContext) (order : IsInOrder b.project) (index : ℕ) (u : Planned) (there : unit_at b.project index ≡ Some u)
    (states : List (State BadUnit)) (done : List (Option (List Directive))) (begun : Begun) (next : Option ℕ) (w : World) (flying : List ChildInFlight) (still : ℕ → Type 0)
    (can : CanAnswer b states done index u begun next w flying still) (w1 : World) (landed : ChangesOnly (is_at_or_below u.out) w w1) where
  abbrev Folder : List ℕ
  Folder = records_folder b.project

  alike : (l : List ℕ) → records_in b w1 l ≡ records_in b w l
  alike = records_out b order index u there w w1 landed

  for : IsFor b.project u begun.command
  for = its_for b order index u there states done begun next w flying still can

  -- what is kept where the child has landed
  pub landed_sound : (premise : Premise) (number : ℕ) → HoldsBy premise b states next w → AwaitsBy premise b u number next w → IfRecords premise (Sound reading judge b.child Folder w1.files)
  landed_sound TrustedRecords number holds waits = sound_out b order index u there w w1 landed waits.gone holds.sound
  landed_sound NoRecords number holds waits = tt

  pub landed_ahead : (premise : Premise) → HoldsBy premise b states next w → IfRecords premise (IsAhead (records_in b w1) next)
  landed_ahead TrustedRecords holds = ahead_alike (records_in b w) (records_in b w1) next alike holds.ahead
  landed_ahead NoRecords holds = tt

  -- the needed units have their records
  landed_needs : (number : ℕ) → AwaitsRecord b u number next w → HasNeeds (records_in b w1) Folder begun.command.reads (needed_keys b.project u) number
  landed_needs number waits =
      subst (λ (reads : List (List ℕ)). HasNeeds (records_in b w1) Folder reads (needed_keys b.project u) number) (sym for.reads)
      (needs_still b order index u there w w1 (only_out b order index u there w w1 landed) index u there (own_indices b order index u there states done begun next w flying still can) number waits.needs_stand)

  landed_unnamed : (number : ℕ) → AwaitsRecord b u number next w → NoneNames (records_in b w1) number
  landed_unnamed number waits other r at = waits.unnamed other r (sym (alike other) ∙ at)

  -- what makes the record true
  pub is_kept : (number : ℕ) (names : List InputName) (ended : Ended) → HoldsRecords b states next w → AwaitsRecord b u number next w
      → seen_by begun.command w ≡ view_in b index u → judge begun.command (b.child begun.command (view_in b index u)) ≡ Some names
      → ended ≡ ended_by (b.child begun.command (view_in b index u)) → files_in u.out w1.files ≡ replied_files u.out (b.child begun.command (view_in b index u))
      → IsKept judge b.child Folder u.key begun.command (needed_keys b.project u) names ended number w1
  is_kept number names ended holds waits sees good is_ended made =
      let command = its_command b order index u there states done begun next w flying still can in
      let only = only_out b order index u there w w1 landed in
      let sees_now : seen_by begun.command w1 ≡ view_in b index u =
      own_seen b order states done index u there next w w1 only begun.command (begun_bad b order index u there states done begun next w flying still can) can.reaches command ∙ sees in
      let replies : reply_in b.child begun.command w1 ≡ b.child begun.command (view_in b index u) = ap (b.child begun.command) sees_now in
      record {
        earned = record {
          honest = subst (λ (c : Command). IsHonest judge b.child c w1) (sym command)
              (holds.honest index u w1 there (sources_still b.project order index u there w w1 only ∙ can.keeps.sources_stay)
              (subst (λ (c : Command). seen_by c w1 ≡ view_in b index u) command sees_now));
          good = ap (judge begun.command) replies ∙ good;
          status = ap (λ (r : Reply). r.status) replies ∙ good_status begun.command (b.child begun.command (view_in b index u)) names good;
          stdout = ap (λ (r : Reply). r.stdout) replies ∙ sym (ap (λ (e : Ended). e.stdout) is_ended);
          stderr = ap (λ (r : Reply). r.stderr) replies ∙ sym (ap (λ (e : Ended). e.stderr) is_ended);
          files = subst (λ f. replied_files f (reply_in b.child begun.command w1) ≡ files_in f w1.files) (order.folders index u there)
              (ap (replied_files u.out) replies ∙ sym made);
        };
        needs_stand = landed_needs number waits;
        unnamed = landed_unnamed number waits;
      }

  -- Once it is kept.

  module _ (w2 : World) (kept : ChangesOnly (is_at_or_below (record_path (records_folder b.project) u.key)) w1 w2) where
    -- in the words of the call: sound, and ahead
    pub kept_sound : (premise : Premise) (number : ℕ) (names : List InputName) (ended : Ended) → HoldsBy premise b states next w → AwaitsBy premise b u number next w
        → seen_by begun.command w ≡ view_in b index u → judge begun.command (b.child begun.command (view_in b index u)) ≡ Some names
        → ended ≡ ended_by (b.child begun.command (view_in b index u)) → files_in u.out w1.files ≡ replied_files u.out (b.child begun.command (view_in b index u))
        → (IsKept judge b.child Folder u.key begun.command (needed_keys b.project u) names ended number w1 → Sound reading judge b.child Folder w1.files → Sound reading judge b.child Folder w2.files)
        → IfRecords premise (Sound reading judge b.child Folder w2.files)
    kept_sound TrustedRecords number names ended holds waits sees good is_ended made gives = gives (is_kept number names ended holds waits sees good is_ended made) (landed_sound TrustedRecords number holds waits)
    kept_sound NoRecords number names ended holds waits sees good is_ended made gives = tt

    pub kept_ahead : (premise : Premise) (number : ℕ) → HoldsBy premise b states next w → AwaitsBy premise b u number next w
        → (IsBefore next number → HasNeeds (records_in b w1) Folder begun.command.reads (needed_keys b.project u) number → IsAhead (records_in b w1) next → IsAhead (records_in b w2) next)
        → IfRecords premise (IsAhead (records_in b w2) next)
    kept_ahead TrustedRecords number holds waits gives = gives waits.before (landed_needs number waits) (landed_ahead TrustedRecords holds)
    kept_ahead NoRecords number holds waits gives = tt

    kept_names : (number : ℕ) (inputs : List Input) (ended : Ended) → AwaitsRecord b u number next w
        → NamesNeeds (records_in b w1) Folder (kept_of Folder u.key begun.command inputs number (numbered (records_in b w1) (needed_keys b.project u)) ended) number
    kept_names number inputs ended waits = names_stand (records_in b w1) Folder (needed_keys b.project u) (kept_of Folder u.key begun.command inputs number (numbered (records_in b w1) (needed_keys b.project u)) ended) number (landed_needs number waits) refl

    -- nothing differs from it
    kept_same : (number : ℕ) (names : List InputName) (ended : Ended) → AwaitsRecord b u number next w
        → records_in b w2 u.key ≡ Some (kept_of Folder u.key begun.command (map (input_in begun.command.target w1) names) number (numbered (records_in b w1) (needed_keys b.project u)) ended)
        → IsSame reading Folder u.key (command_in b index u) w2 (kept_of Folder u.key begun.command (map (input_in begun.command.target w1) names) number (numbered (records_in b w1) (needed_keys b.project u)) ended)
    kept_same number names ended waits stands =
        let inputs = map (input_in begun.command.target w1) names in
        let r = kept_of Folder u.key begun.command inputs number (numbered (records_in b w1) (needed_keys b.project u)) ended in
        let only = only_record b order index u there w1 w2 kept in
        subst (λ (c : Command). IsSame reading Folder u.key c w2 r) (its_command b order index u there states done begun next w flying still can) record {
          stands = stands;
          asked = command_back begun.command (out_of Folder u.key) (for.out ∙ ap Some (order.folders index u there));
          inputs = agrees_still begun.command.target inputs w1 w2 (subst (λ t. from_nothing t w2 ≡ from_nothing t w1) (sym for.target) (sources_still b.project order index u there w1 w2 only)) (present_agree begun.command.target w1 names);
          needed = named_now Folder (records_in b w1) (records_in b w2) w2.files u.key number (numbered (records_in b w1) (needed_keys b.project u)) (others_at b order index u there w1 w2 only)
              (λ s n at numbered_s. none_some s (sym (alike u.key ∙ waits.gone) ∙ at)) (kept_names number inputs ended waits).stand;
        }

    -- the unit has its record
    pub kept_record : (premise : Premise) (number : ℕ) (names : List InputName) (ended : Ended) → HoldsBy premise b states next w → AwaitsBy premise b u number next w
        → records_in b w2 u.key ≡ Some (kept_of Folder u.key begun.command (map (input_in begun.command.target w1) names) number (numbered (records_in b w1) (needed_keys b.project u)) ended) → IfRecords premise (HasRecord b w2 index)
    kept_record TrustedRecords number names ended holds waits stands =
        let inputs = map (input_in begun.command.target w1) names in
        let r = kept_of Folder u.key begun.command inputs number (numbered (records_in b w1) (needed_keys b.project u)) ended in
        let grounds = reads_grounded b order states next w holds u begun.command.reads for.reads can.reaches in
        record {
          unit = u;
          there = there;
          kept = r;
          here = stands;
          number = number;
          numbered = refl;
          grounded = put_over (records_in b w1) (records_in b w2) Folder u.key r number (others_at b order index u there w1 w2 (only_record b order index u there w1 w2 kept)) stands refl
              (λ n ground. grounded_stands (records_in b w1) u.key n ground (alike u.key ∙ waits.gone)) (kept_names number inputs ended waits)
              (λ key has. let (n, ground) = grounds key has in (n, grounded_alike (records_in b w) (records_in b w1) key n alike ground));
          reads = for.reads;
          same = kept_same number names ended waits stands;
        }
    kept_record NoRecords number names ended holds waits stands = tt

    -- what others find at its path
    pub left_kept : (premise : Premise) (number : ℕ) (inputs : List Input) (ended : Ended) → AwaitsBy premise b u number next w
        → Leaves (Some (kept_of Folder u.key begun.command inputs number (numbered (records_in b w1) (needed_keys b.project u)) ended)) (records_in b w1 u.key) (records_in b w2 u.key)
        → IfRecords premise (Left (records_in b w) (records_in b w2) u.key (Some number))
    left_kept TrustedRecords number inputs ended waits left = elim left [
      | inl gone ↦ vanished gone
      | inr more ↦ elim more [
        | inl same ↦ as_before (same ∙ alike u.key)
        | inr new ↦ put_anew (kept_of Folder u.key begun.command inputs number (numbered (records_in b w1) (needed_keys b.project u)) ended) number new refl refl
            (λ need m has. let (s, stands, numbered_s) = (kept_names number inputs ended waits).stand need m has in (s, sym (alike need) ∙ stands, numbered_s))
      ]
    ]
    left_kept NoRecords number inputs ended waits left = tt

  -- and where it was not to be kept
  pub left_landed : (number : Option ℕ) → Left (records_in b w) (records_in b w1) u.key number
  left_landed number = as_before (alike u.key)
