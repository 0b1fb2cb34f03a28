-- A unit answers: its child has landed, and its record is kept where the answer is good.
use Rattle.std.proofs.Common.{◌≡◌, ◌≢◌, ◌<◌, ◌∙◌, ◌||◌, zero, suc, ℕ, Bool, true, false, cond, pos, List, [], ◌∷◌, length, is_none, Option, Some, None, Result, Contains, refl, sym, ap, subst, inl, inr, arith, slice_get}
use Rattle.std.proofs.lemmas.Bool.{cases_Bool, false≢true}
use Rattle.std.proofs.lemmas.Bool.Decides.{Decides-int_eq}
use Rattle.std.proofs.lemmas.Option.{slice_get_within}
use Rattle.std.specs.Ordering.{int_eq}
use Rattle.std.specs.Prelude.{slice_set}
use Rattle.pb_command_reply.specs.Answers.{ended_fault, unless_fault, is_too_long}
use Rattle.pb_command.specs.Judge.{judge, judge_in, inputs_if, ended_by}
use Rattle.pb_directive.specs.declared.directive.Directive.{Directive}
use Rattle.pb_run_flight.specs.declared.flight.Answer.{Answer}
use Rattle.pb_run_flight.specs.declared.flight.State.{State}
use Rattle.pb_run_flight.specs.declared.flight.State.TheVariants.{Untouched, Begun as begun_state, Answered}
use Rattle.pb_run_flight.specs.Table.{is_good_at}
use Rattle.pb_run_flight.proofs.Lists.{get_set_same, get_set_other, length_set}
use Rattle.pb_place_types.specs.Folders.{files_in}
use Rattle.pb_place_types.specs.Paths.{is_at_or_below}
use Rattle.pb_place_types.specs.World.{World, ChangesOnly}
use Rattle.pb_place_types.specs.declared.child.Reply.{Reply}
use Rattle.pb_place_types.specs.declared.child_in_flight.ChildInFlight.{ChildInFlight}
use Rattle.pb_place_types.specs.declared.command.Command.{Command}
use Rattle.pb_place_types.specs.declared.command.Ended.{Ended}
use Rattle.pb_command_types.specs.Targets.{unit_at}
use Rattle.pb_command_types.specs.declared.checked_reply.CheckedReply.{CheckedReply as answer_type}
use Rattle.pb_record.specs.declared.record.InputName.{InputName}
use Rattle.pb_command_types.specs.declared.fault.UnitFault.{UnitFault}
use Rattle.pb_build_result.specs.declared.bad_unit.BadUnit.{BadUnit}
use Rattle.pb_command_types.specs.declared.fault.UnitFault.TheVariants as unit_fault
use Rattle.pb_run.specs.UnitSteps.{Premise, TrustedRecords, NoRecords, BuildContext, HasRecord, BuildInvariant, IsInFlight, AwaitsBy, NothingDiffers, WaitsBy, CanAnswer, outcomes_in, records_in, command_in, view_in, child_of}
use Rattle.pb_run.specs.Outcome.{outcome_by, outcome_from}
use Rattle.pb_run.specs.Invariants.{IsInOrder, records_folder}
use Rattle.pb_run.specs.declared.begun.Awaited.{Awaited}
use Rattle.pb_run.specs.declared.begun.Awaited.TheVariants as awaited
use Rattle.pb_run.specs.declared.begun.Begun.{Begun}
use Rattle.pb_run.specs.declared.begun.SpawnedChild.{SpawnedChild}
use Rattle.pb_run.specs.declared.ran.Ran.{Ran}
use Rattle.pb_run.proofs.Recorded.{command_for}
use Rattle.pb_run.proofs.RecordedBegin.{never_by, own_far}
use Rattle.pb_run.proofs.RecordedKeeps.{keeps_over}
use Rattle.pb_run.proofs.RecordedOthers.{IfRecords, waits_child}
use Rattle.pb_run.proofs.Views.{IsFor}
use Rattle.pb_store_soundness.specs.Apart.{is_of}
use Rattle.pb_store_soundness.specs.Grounded.{RecordMap, Grounded, grounded}
use Rattle.pb_store_soundness.specs.Numbers.{IsAhead}
use Rattle.pb_store_soundness.specs.Records.{is_key, record_path, reading}
use Rattle.pb_store_soundness.specs.Sound.{Sound}
use Rattle.pb_store_soundness.proofs.Becoming.{one, none_some}
use Rattle.pb_store_soundness.proofs.Four.{in_output}
use Rattle.pb_store_soundness.proofs.RecordPaths.{record_outside, no_key, record_same}
use Rattle.pb_store.specs.Differences.{IsReplayed}
use Rattle.pb_store.specs.declared.replaying.Replayed.{Replayed}
use Rattle.pb_unit.specs.declared.plan.Planned.{Planned}

-- A good reply has status 0.

no_fault : (fault : Option UnitFault) (answered : Result answer_type UnitFault) (names : List InputName) → inputs_if (unless_fault fault answered) ≡ Some names → fault ≡ None
no_fault None answered names is = refl
no_fault (Some fault) answered names is = absurd (none_some names is)

status_by : (long well : Bool) (f g : UnitFault) → cond long (Some f) (cond well None (Some g)) ≡ None → well ≡ true
status_by true well f g is = absurd (none_some f (sym is))
status_by false true f g is = refl
status_by false false f g is = absurd (none_some g (sym is))

fault_none : (e : Ended) → ended_fault e ≡ None → e.status ≡ pos 0
fault_none e is = (Decides-int_eq e.status (pos 0)).0 (status_by (is_too_long e.stdout || is_too_long e.stderr) (int_eq e.status (pos 0)) unit_fault.OutputTooLong (unit_fault.Status e.status) is)

good_by : (c : Command) (out : Option (List ℕ)) (r : Reply) (names : List InputName) → judge_in c out r ≡ Some names → r.status ≡ pos 0
good_by c None r names is = absurd (none_some names is)
good_by c (Some out) r names is = fault_none (ended_by r) (no_fault (ended_fault (ended_by r)) _ names is)

pub good_status : (c : Command) (r : Reply) (names : List InputName) → judge c r ≡ Some names → r.status ≡ pos 0
unfolding judge
good_status c r names is = good_by c c.out r names is

-- grounded in records that are the same
pub grounded_alike : (old new : RecordMap) (key : List ℕ) (n : ℕ) → ((l : List ℕ) → new l ≡ old l) → Grounded old key n → Grounded new key n
grounded_alike old new key n alike (grounded k r m here numbered_r less needs) =
    grounded key r n (alike key ∙ here) numbered_r less (λ need i names. grounded_alike old new need i alike (needs need i names))

pub ahead_alike : (old new : RecordMap) (next : Option ℕ) → ((l : List ℕ) → new l ≡ old l) → IsAhead old next → IsAhead new next
ahead_alike old new next alike ahead key r there = ahead key r (sym (alike key) ∙ there)

-- Where a unit's own work changes files.

module _ (b : BuildContext) (order : IsInOrder b.project) (index : ℕ) (u : Planned) (there : unit_at b.project index ≡ Some u) where
  abbrev Folder : List ℕ
  Folder = records_folder b.project

  left_false : (x y : Bool) → x || y ≡ false → x ≡ false
  left_false true y h = absurd (false≢true (sym h))
  left_false false y h = refl

  right_false : (x y : Bool) → x || y ≡ false → y ≡ false
  right_false true y h = absurd (false≢true (sym h))
  right_false false y h = h

  pub only_out : (old new : World) → ChangesOnly (is_at_or_below u.out) old new → ChangesOnly (is_of Folder u.key) old new
  only_out old new only = record {
    variables = only.variables;
    files = λ q outside. only.files q (subst (λ f. is_at_or_below f q ≡ false) (sym (order.folders index u there)) (left_false _ _ outside));
  }

  pub only_record : (old new : World) → ChangesOnly (is_at_or_below (record_path Folder u.key)) old new → ChangesOnly (is_of Folder u.key) old new
  only_record old new only = record { variables = only.variables; files = λ q outside. only.files q (right_false _ _ outside) }

  pub only_join : (old mid new : World) → ChangesOnly (is_of Folder u.key) old mid → ChangesOnly (is_of Folder u.key) mid new → ChangesOnly (is_of Folder u.key) old new
  only_join old mid new one_change other = record { variables = other.variables ∙ one_change.variables; files = λ q outside. other.files q outside ∙ one_change.files q outside }

  -- a change in its folder changes no record
  pub records_out : (old new : World) → ChangesOnly (is_at_or_below u.out) old new → (l : List ℕ) → records_in b new l ≡ records_in b old l
  records_out old new only l = elim (cases_Bool (is_key l)) [
    | inl is_l ↦ record_same reading Folder old.files new.files l
        (only.files (record_path Folder l) (subst (λ f. is_at_or_below f (record_path Folder l) ≡ false) (sym (order.folders index u there)) (record_outside Folder u.key l (order.keys index u there) is_l)))
    | inr wrong ↦ no_key reading Folder new.files l wrong ∙ sym (no_key reading Folder old.files l wrong)
  ]

  pub sound_out : (old new : World) → ChangesOnly (is_at_or_below u.out) old new → records_in b old u.key ≡ None → Sound reading judge b.child Folder old.files → Sound reading judge b.child Folder new.files
  sound_out old new only gone sound =
      in_output reading judge b.child Folder old.files new.files u.key order.folder (order.keys index u there) gone
      (λ q outside. only.files q (subst (λ f. is_at_or_below f q ≡ false) (sym (order.folders index u there)) outside)) sound

  -- What a unit that can answer waits for.

  module _ (states : List (State BadUnit)) (done : List (Option (List Directive))) (begun : Begun) (next : Option ℕ) (w : World) (flying : List ChildInFlight) (still : ℕ → Type 0)
      (can : CanAnswer b states done index u begun next w flying still) where
    its_unit : can.begun_so.unit ≡ u
    its_unit = one can.begun_so.unit u (sym can.begun_so.there ∙ there)

    pub its_command : begun.command ≡ command_in b index u
    its_command = subst (λ (x : Planned). begun.command ≡ command_in b index x) its_unit can.begun_so.command

    its_waits : WaitsBy b u begun.command (view_in b index u) begun.awaited next w flying still
    its_waits = subst (λ (x : Planned). WaitsBy b x begun.command (view_in b index x) begun.awaited next w flying still) its_unit can.begun_so.waits

    pub its_flight : (launched : SpawnedChild) → child_of begun ≡ Some launched → IsInFlight b.child begun.command (view_in b index u) launched.ticket flying still
    its_flight launched is = (waits_child b u begun.command (view_in b index u) begun.awaited launched next w flying still is its_waits).0

    pub its_record : (launched : SpawnedChild) → child_of begun ≡ Some launched → AwaitsBy b.premise b u launched.number next w
    its_record launched is = (waits_child b u begun.command (view_in b index u) begun.awaited launched next w flying still is its_waits).1

    record_waits : (again : Replayed) → begun.awaited ≡ awaited.Record again → WaitsBy b u begun.command (view_in b index u) (awaited.Record again) next w flying still
    record_waits again is = subst (λ (o : Awaited). WaitsBy b u begun.command (view_in b index u) o next w flying still) is its_waits

    pub its_same : (again : Replayed) → begun.awaited ≡ awaited.Record again → NothingDiffers b.premise b u begun.command w
    its_same again is = (record_waits again is).0

    pub its_again : (again : Replayed) → begun.awaited ≡ awaited.Record again → IsReplayed (records_in b w u.key) again
    its_again again is = (record_waits again is).1

    pub begun_bad : is_good_at (slice_get states index) ≡ false
    begun_bad = ap is_good_at can.state

    pub own_indices : (p : ℕ) → Contains u.reaches p → p ≢ index
    own_indices = own_far b order states done index u there next w w (record { variables = refl; files = λ q outside. refl }) begun_bad can.reaches

    pub its_for : IsFor b.project u begun.command
    its_for = command_for b.project order b index u begun.command refl there its_command

    -- What is kept after its answer.

    -- after a fault: no unit's state is changed
    pub keeps_fault : (w' : World) (next' : Option ℕ) → ChangesOnly (is_of Folder u.key) w w'
        → IfRecords b.premise (Sound reading judge b.child Folder w'.files) → IfRecords b.premise (IsAhead (records_in b w') next') → BuildInvariant b states done next' w'
    keeps_fault w' next' only sound ahead = keeps_over b order states done index u there begun_bad next w w' can.keeps only states done next' (λ p apart. refl) (λ p apart. refl) can.keeps.long
        record {
          stands = λ good. absurd (false≢true (sym begun_bad ∙ good));
          reaches = λ good. absurd (false≢true (sym begun_bad ∙ good));
          recorded = never_by b.premise (is_good_at (slice_get states index) ≡ true) (HasRecord b w' index) (λ good. false≢true (sym begun_bad ∙ good));
          begun = λ untouched. begun_untouched begun_state refl (sym can.state ∙ untouched);
        } sound ahead
      where
        begun_untouched : (s : State BadUnit) → s ≡ begun_state → Some s ≡ Some Untouched → ⊥
        begun_untouched s is e = cc

    -- after its answer, good or bad: a good one stands, and has its record
    pub keeps_answered : (w' : World) (next' : Option ℕ) (ran : Ran) (lines : List ℕ) → ChangesOnly (is_of Folder u.key) w w'
        → slice_get (outcomes_in b) index ≡ Some (outcome_by (files_in u.out w'.files) ran)
        → IfRecords b.premise (Sound reading judge b.child Folder w'.files) → IfRecords b.premise (IsAhead (records_in b w') next') → IfRecords b.premise (ran.bad ≡ None → HasRecord b w' index)
        → BuildInvariant b (slice_set states index (Answered record { fault = ran.bad; lines = lines })) (slice_set done index ran.directives) next' w'
    keeps_answered w' next' ran lines only outcome sound ahead recorded =
        keeps_over b order states done index u there begun_bad next w w' can.keeps only (slice_set states index (Answered answer)) (slice_set done index ran.directives) next'
        (λ p apart. get_set_other states index p (Answered answer) (λ e. apart (sym e))) (λ p apart. get_set_other done index p ran.directives (λ e. apart (sym e)))
        (length_set done index ran.directives ∙ can.keeps.long ∙ sym (length_set states index (Answered answer)))
        record {
          stands = λ good. record {
            unit = u;
            there = there;
            files = files_in u.out w'.files;
            directives = ran.directives;
            messages = ran.messages;
            good = outcome ∙ ap (λ o. Some (outcome_from o (files_in u.out w'.files) ran.directives ran.messages)) (well good);
            noted = noted_at done index ran.directives (long_enough (slice_get_within states index begun_state can.state));
            holds = refl;
          };
          reaches = λ good. can.reaches;
          recorded = recorded_by b.premise recorded;
          begun = λ untouched. answered_untouched (Answered answer) refl (sym now ∙ untouched);
        } sound ahead
      where
        answer : Answer BadUnit
        answer = record { fault = ran.bad; lines = lines }

        now : slice_get (slice_set states index (Answered answer)) index ≡ Some (Answered answer)
        now = get_set_same states index begun_state (Answered answer) can.state

        none_of : (o : Option BadUnit) → is_none o ≡ true → o ≡ None
        none_of None is = refl
        none_of (Some bad) is = absurd (false≢true is)

        well : is_good_at (slice_get (slice_set states index (Answered answer)) index) ≡ true → ran.bad ≡ None
        well good = none_of ran.bad (sym (ap is_good_at now) ∙ good)

        answered_untouched : (s : State BadUnit) → s ≡ Answered answer → Some s ≡ Some Untouched → ⊥
        answered_untouched s is e = cc

        long_enough : index < length states → index < length done
        long_enough less = subst (λ n. index < n) (sym can.keeps.long) less

        noted_at : (xs : List (Option (List Directive))) (i : ℕ) (x : Option (List Directive)) → i < length xs → slice_get (slice_set xs i x) i ≡ Some x
        noted_at [] i x less = absurd (omega (arith, less))
        noted_at (y ∷ xs) zero x less = refl
        noted_at (y ∷ xs) (suc i) x less = noted_at xs i x (omega (arith, less))

        recorded_by : (premise : Premise) → IfRecords premise (ran.bad ≡ None → HasRecord b w' index)
            → IfRecords premise (is_good_at (slice_get (slice_set states index (Answered answer)) index) ≡ true → HasRecord b w' index)
        recorded_by TrustedRecords has = λ good. has (well good)
        recorded_by NoRecords has = tt
