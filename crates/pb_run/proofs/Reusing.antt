-- A unit that answers by its record: what is kept of a build, and what another unit finds.
use Rattle.std.proofs.Common.{◌≡◌, ◌∙◌, ℕ, Bool, true, false, List, Option, Some, None, IsSome, refl, sym, ap, subst, inl, inr, slice_get, slice_set}
use Rattle.std.proofs.lemmas.Bool.{false≢true}
use Rattle.std.specs.Prelude.{not}
use Rattle.std.specs.Option.{is_some, option_map}
use Rattle.pb_command_reply.specs.Answers.{answered_of}
use Rattle.pb_command.specs.Judge.{ended_by, file_at, judge, replied_files}
use Rattle.pb_directive.specs.declared.directive.Directive.{Directive}
use Rattle.pb_run_flight.specs.declared.flight.State.{State}
use Rattle.pb_run_flight.specs.declared.flight.State.TheVariants.{Answered}
use Rattle.pb_place_types.specs.Children.{child_at, KeepsStill, KeepsStillOutside}
use Rattle.pb_place_types.specs.Counts.{Starts}
use Rattle.pb_place_types.specs.Folders.{files_in}
use Rattle.pb_place_types.specs.Paths.{is_at_or_below}
use Rattle.pb_place_types.specs.World.{World, Map, Answers, ChangesOnly, seen_by}
use Rattle.pb_place_types.specs.declared.child.Reply.{Reply}
use Rattle.pb_place_types.specs.declared.child_in_flight.ChildInFlight.{ChildInFlight}
use Rattle.pb_place_types.specs.declared.command.Command.{Command}
use Rattle.pb_place_types.specs.declared.command.Ended.{Ended}
use Rattle.pb_place_types.proofs.Folders.{only_same}
use Rattle.pb_command_types.specs.Targets.{dep_info_of, unit_at}
use Rattle.pb_build_result.specs.declared.bad_unit.BadUnit.{BadUnit}
use Rattle.pb_record.specs.declared.record.Record.{Record}
use Rattle.pb_unit.specs.declared.plan.Planned.{Planned}
use Rattle.pb_run.specs.UnitSteps.{Premise, TrustedRecords, NoRecords, BuildContext, BeginsApart, CanAnswer, HasRecord, HoldsBy, IsBegun, NothingDiffers, BuildInvariant, awaits_number, begun_with, child_in, child_of, command_in, needed_keys, outcomes_in, records_in, view_in}
use Rattle.pb_run.specs.Outcome.{judgement_by, outcome_by, unstarted}
use Rattle.pb_run.specs.Invariants.{IsInOrder, records_folder}
use Rattle.pb_run.specs.Steps.{MayAnswer}
use Rattle.pb_run.specs.declared.begun.Awaited.{Awaited}
use Rattle.pb_run.specs.declared.begun.Awaited.TheVariants as awaited
use Rattle.pb_run.specs.declared.begun.Begun.{Begun}
use Rattle.pb_run.specs.declared.begun.SpawnedChild.{SpawnedChild}
use Rattle.pb_run.specs.declared.faults.StepFault.{StepFault}
use Rattle.pb_run.specs.declared.faults.StepFault.TheVariants.{Store, Start}
use Rattle.pb_run.specs.declared.ran.Validated.{Validated}
use Rattle.pb_run.specs.declared.ran.Ran.{Ran}
use Rattle.pb_run.proofs.Answering.{files_kept, judged_gives, reached_stand}
use Rattle.pb_run.proofs.RecordedAnswer.{begun_bad, its_again, its_command, its_same, keeps_answered, keeps_fault, only_record}
use Rattle.pb_run.proofs.RecordedOthers.{IfRecords, Left, as_before, if_records, stays_begun}
use Rattle.pb_run.proofs.RecordedReplay.{left_migrated, migrated_ahead, migrated_record, migrated_sound, numbers_apart, replay_backs}
use Rattle.pb_run.proofs.Settling.{not_none, on_good}
use Rattle.pb_run.proofs.Shown.{AllStand, sees_view}
use Rattle.pb_store_soundness.specs.Apart.{is_of}
use Rattle.pb_store_soundness.specs.Numbers.{IsAhead}
use Rattle.pb_store_soundness.specs.Records.{number_of, record_path, reading, records}
use Rattle.pb_store_soundness.specs.Sound.{Backs, Sound}
use Rattle.pb_store_soundness.proofs.Becoming.{one}
use Rattle.pb_store.specs.Folder.{Leaves, numbered, IsMigrated, TakesNext, TakesNumber, lacks_number, migrated, migrated_by, numbered_record}
use Rattle.pb_store.specs.Differences.{IsReplayed, replayed}
use Rattle.pb_store.specs.declared.fault.StoreFault.TheVariants as store
use Rattle.pb_store.specs.declared.replaying.Replayed.{Replayed}

-- what the call that gives a record a number does
pub record Renewing (child : Answers) (folder key : List ℕ) (needs : List (List ℕ)) (c : Command) (next next' : Option ℕ) (w w' : World) : Type 0 where
  pub sound : (r : Record) → ((number : ℕ) → next ≡ Some number → IsMigrated judge child folder key c needs number w r) → Sound reading judge child folder w.files → Sound reading judge child folder w'.files
  pub ahead : (r : Record) → ((number : ℕ) → next ≡ Some number → IsMigrated judge child folder key c needs number w r) → IsAhead (records folder w) next → IsAhead (records folder w') next'
  pub only : ChangesOnly (is_at_or_below (record_path folder key)) w w'
  pub left : Leaves (migrated next (numbered (records folder w) needs) (records folder w key)) (records folder w key) (records folder w' key)
  pub same : lacks_number (records folder w key) ≡ false → w' ≡ w

-- and where it ended well
pub record Renewed (folder key : List ℕ) (needs : List (List ℕ)) (next next' : Option ℕ) (w w' : World) : Type 0 where
  pub stands : records folder w' key ≡ migrated next (numbered (records folder w) needs) (records folder w key)
  pub taken : lacks_number (records folder w key) ≡ true → TakesNext next next'

-- the same, by other names
module _ (folder root key k : List ℕ) (needs ns : List (List ℕ)) (next next' : Option ℕ) (v w w' : World) (is_folder : folder ≡ root) (its : key ≡ k) (are : needs ≡ ns) (same : v ≡ w) where
  pub renewing_moved : (child : Answers) (c : Command) → Renewing child folder key needs c next next' v w' → Renewing child root k ns c next next' w w'
  renewing_moved child c renewing =
      subst (λ f. Renewing child f k ns c next next' w w') is_folder
      (subst (λ x. Renewing child folder x ns c next next' w w') its
      (subst (λ xs. Renewing child folder key xs c next next' w w') are (subst (λ (x : World). Renewing child folder key needs c next next' x w') same renewing)))

  pub renewed_moved : Renewed folder key needs next next' v w' → Renewed root k ns next next' w w'
  renewed_moved renewed =
      subst (λ f. Renewed f k ns next next' w w') is_folder
      (subst (λ x. Renewed folder x ns next next' w w') its
      (subst (λ xs. Renewed folder key xs next next' w w') are (subst (λ (x : World). Renewed folder key needs next next' x w') same renewed)))

-- then it has a number
number_none : (next : Option ℕ) (number : ℕ) → next ≡ None → next ≡ Some number → ⊥
number_none next number none some = cc

numbered_if : (r : Record) (has next next' : Option ℕ) (pairs : List (List ℕ × ℕ)) → number_of r ≡ has → (not (is_some has) ≡ true → TakesNext next next') → (s : Record) → migrated_by has next pairs r ≡ Some s → is_some (number_of s) ≡ true
numbered_if r (Some own) next next' pairs is taken s there = ap is_some (ap number_of (one s r (sym there)) ∙ is)
numbered_if r None (Some number) next' pairs is taken s there = ap (λ (x : Record). is_some (number_of x)) (one s (numbered_record r number pairs) (sym there))
numbered_if r None None next' pairs is taken s there = let (number, some, then') = taken refl in absurd (number_none None number refl some)

numbered_by : (found : Option Record) (next next' : Option ℕ) (pairs : List (List ℕ × ℕ)) → (lacks_number found ≡ true → TakesNext next next') → (s : Record) → migrated next pairs found ≡ Some s → is_some (number_of s) ≡ true
numbered_by None next next' pairs taken s there = cc
numbered_by (Some r) next next' pairs taken s there = numbered_if r (number_of r) next next' pairs refl taken s there

pub numbered_now : (folder key : List ℕ) (needs : List (List ℕ)) (next next' : Option ℕ) (w w' : World) → Renewed folder key needs next next' w w' → (s : Record) → records folder w' key ≡ Some s → is_some (number_of s) ≡ true
numbered_now folder key needs next next' w w' renewed s there = numbered_by (records folder w key) next next' (numbered (records folder w) needs) renewed.taken s (sym renewed.stands ∙ there)

-- what flies after the faults of the calls
pub flying_alone : (next : Option ℕ) (e : StepFault) (old new : Starts) → MayAnswer next None e old new → new ≡ old
flying_alone next (Store (store.Place fault)) old new (kind, same) = same
flying_alone next (Store store.NumbersSpent) old new (spent, none, same) = same
flying_alone next (Store store.OutOfMemory) old new may = may
flying_alone next (Start fault) old new (has, kind, same) = absurd (false≢true has)

-- and it stays as it is
number_stays : (next : Option ℕ) (pairs : List (List ℕ × ℕ)) (r : Record) (has : Option ℕ) → is_some has ≡ true → Some r ≡ migrated_by has next pairs r
number_stays next pairs r None none = absurd (false≢true none)
number_stays next pairs r (Some own) has = refl

stays_numbered : (next : Option ℕ) (pairs : List (List ℕ × ℕ)) (found : Option Record) (again : Replayed) → IsReplayed found again → again.numbered ≡ true → found ≡ migrated next pairs found
stays_numbered next pairs None again is has = refl
stays_numbered next pairs (Some r) again is has = number_stays next pairs r (number_of r) (sym (ap (λ (x : Replayed). x.numbered) (one again (replayed r) (sym is))) ∙ has)

pub no_child : (l : SpawnedChild) (Fact : Type 0) → Some l ≡ None → Fact
no_child l Fact none = absurd (some_none none)
  where
    some_none : Some l ≡ None → ⊥
    some_none e = cc

-- a unit that has a child awaits no number
pub child_numbered : (begun : Begun) → IsSome (child_of begun) → awaits_number begun.awaited ≡ false
child_numbered begun some = by begun.awaited some
  where
    by : (o : Awaited) → IsSome (child_in o) → awaits_number o ≡ false
    by (awaited.Child launched) has = refl
    by (awaited.Record again) has = absurd (false≢true has)

-- nor does one whose record has a number
pub numbered_awaited : (flag : Bool) → not flag ≡ false → flag ≡ true
numbered_awaited true e = refl
numbered_awaited false e = absurd (false≢true (sym e))

pub unnumbered_awaited : (flag : Bool) → not flag ≡ true → flag ≡ false
unnumbered_awaited true e = absurd (false≢true e)
unnumbered_awaited false e = refl

module _ (b : BuildContext) (order : IsInOrder b.project) (i : ℕ) (u : Planned) (at : unit_at b.project i ≡ Some u) (key : List ℕ) (c : Command) (again : Replayed) (next : Option ℕ) (w : World)
    (flying : List ChildInFlight) (still : ℕ → Type 0) (states : List (State BadUnit)) (done : List (Option (List Directive))) (can : CanAnswer b states done i u (begun_with key c (awaited.Record again)) next w flying still) where
  abbrev begun : Begun
  begun = begun_with key c (awaited.Record again)

  same_now : NothingDiffers b.premise b u c w
  same_now = its_same b order i u at states done begun next w flying still can again refl

  gives : IsReplayed (records_in b w u.key) again
  gives = its_again b order i u at states done begun next w flying still can again refl

  is_command : c ≡ command_in b i u
  is_command = its_command b order i u at states done begun next w flying still can

  stand : AllStand b done w u.reaches
  stand = reached_stand b order i u at states done next w can.keeps can.reaches

  sees : seen_by c w ≡ view_in b i u
  sees = ap (λ (d : Command). seen_by d w) is_command ∙ sees_view b done w i u order at stand can.keeps.sources_stay

  ended_same : (r : Record) (reply : Reply) → Backs judge r u.out (files_in u.out w.files) reply → (replayed r).ended ≡ ended_by reply
  ended_same r reply backs =
      ap (λ s. let x : Ended = record { status = s; stdout = r.stdout; stderr = r.stderr } in x) (sym backs.status)
      ∙ ap (λ s. let x : Ended = record { status = reply.status; stdout = s; stderr = r.stderr } in x) (sym backs.stdout)
      ∙ ap (λ s. let x : Ended = record { status = reply.status; stdout = reply.stdout; stderr = s } in x) (sym backs.stderr)

  -- the outcome, by what the record gives again
  pub replay_gives : (j : Validated) → j ≡ judgement_by b.project u again.ended (answered_of b.project u c again.ended (file_at (dep_info_of b.project u) w.files)) → slice_get (outcomes_in b) i ≡ Some (outcome_by (files_in u.out w.files) j.ran)
  replay_gives j is_judged =
      let (r, stands, backs) = replay_backs b order i u at states done begun next w flying still can b.premise can.keeps.records same_now sees in
      let again_is : again ≡ replayed r = one again (replayed r) (sym gives ∙ ap (option_map replayed) stands) in
      let replies : b.child c (view_in b i u) ≡ b.child (command_in b i u) (view_in b i u) = ap (λ (d : Command). b.child d (view_in b i u)) is_command in
      judged_gives b order i u at done w c again.ended w.files j stand is_command
      (ap (λ (x : Replayed). x.ended) again_is ∙ ended_same r (b.child c (view_in b i u)) backs ∙ ap ended_by replies)
      (sym backs.files ∙ ap (replied_files u.out) replies) is_judged

  -- for which no child was started
  pub replay_outcome : (j : Validated) (w2 : World) (ran : Ran) → w2 ≡ w → j ≡ judgement_by b.project u again.ended (answered_of b.project u c again.ended (file_at (dep_info_of b.project u) w.files)) → ran ≡ unstarted j.ran
      → slice_get (outcomes_in b) i ≡ Some (outcome_by (files_in u.out w2.files) ran)
  replay_outcome j w2 ran same is_judged is_ran =
      replay_gives j is_judged
      ∙ sym (ap (λ (v : World). Some (outcome_by (files_in u.out v.files) j.ran)) same)
      ∙ sym (ap (λ (r : Ran). Some (outcome_by (files_in u.out w2.files) r)) is_ran)

  -- and whose record was renewed
  pub renewed_outcome : (j : Validated) (w' : World) (ran : Ran) → j ≡ judgement_by b.project u again.ended (answered_of b.project u c again.ended (file_at (dep_info_of b.project u) w.files)) → ran ≡ unstarted j.ran
      → ChangesOnly (is_at_or_below (record_path (records_folder b.project) u.key)) w w' → slice_get (outcomes_in b) i ≡ Some (outcome_by (files_in u.out w'.files) ran)
  renewed_outcome j w' ran is_judged is_ran only =
      replay_outcome j w ran refl is_judged is_ran
      ∙ sym (ap (λ (m : Map). Some (outcome_by m ran)) (files_kept (records_folder b.project) u.key u.out w w' order.folder (order.keys i u at) (order.folders i u at) only))

  -- nothing was changed
  pub keeps_unchanged : (w' : World) → w' ≡ w → BuildInvariant b states done next w'
  keeps_unchanged w' same = subst (BuildInvariant b states done next) (sym same) can.keeps

  sound_of : (premise : Premise) → HoldsBy premise b states next w → IfRecords premise (Sound reading judge b.child (records_folder b.project) w.files)
  sound_of TrustedRecords holds = holds.sound
  sound_of NoRecords holds = tt

  ahead_of : (premise : Premise) → HoldsBy premise b states next w → IfRecords premise (IsAhead (records_in b w) next)
  ahead_of TrustedRecords holds = holds.ahead
  ahead_of NoRecords holds = tt

  keeps_bad_here : (ran : Ran) (lines : List ℕ) → is_some ran.bad ≡ true → slice_get (outcomes_in b) i ≡ Some (outcome_by (files_in u.out w.files) ran)
      → BuildInvariant b (slice_set states i (Answered record { fault = ran.bad; lines = lines })) (slice_set done i ran.directives) next w
  keeps_bad_here ran lines bad outcome = keeps_answered b order i u at states done begun next w flying still can w next ran lines (only_same _ w) outcome
      (sound_of b.premise can.keeps.records) (ahead_of b.premise can.keeps.records)
      (if_records b.premise (ran.bad ≡ None → HasRecord b w i) (λ good. absurd (not_none ran.bad bad good)))

  pub keeps_bad_again : (w' : World) (ran : Ran) (lines : List ℕ) → w' ≡ w → is_some ran.bad ≡ true → slice_get (outcomes_in b) i ≡ Some (outcome_by (files_in u.out w'.files) ran)
      → BuildInvariant b (slice_set states i (Answered record { fault = ran.bad; lines = lines })) (slice_set done i ran.directives) next w'
  keeps_bad_again w' ran lines same bad outcome =
      subst (BuildInvariant b (slice_set states i (Answered record { fault = ran.bad; lines = lines })) (slice_set done i ran.directives) next) (sym same)
      (keeps_bad_here ran lines bad (subst (λ (v : World). slice_get (outcomes_in b) i ≡ Some (outcome_by (files_in u.out v.files) ran)) same outcome))

  -- nor was a record with a number
  renewing_none : Renewing b.child (records_folder b.project) u.key (needed_keys b.project u) c next next w w
  renewing_none = record { sound = λ r makes sound. sound; ahead = λ r makes ahead. ahead; only = only_same _ w; left = inr (inl refl); same = λ has. refl }

  module _ (w' : World) (next' : Option ℕ) (renews : Renewing b.child (records_folder b.project) u.key (needed_keys b.project u) c next next' w w') where
    sound_new : IfRecords b.premise (Sound reading judge b.child (records_folder b.project) w'.files)
    sound_new = migrated_sound b order i u at states done begun next w flying still can w' next' renews.only b.premise can.keeps.records same_now sees renews.sound

    ahead_new : IfRecords b.premise (IsAhead (records_in b w') next')
    ahead_new = migrated_ahead b order i u at states done begun next w flying still can w' next' renews.only b.premise can.keeps.records same_now sees renews.ahead

    only_new : ChangesOnly (is_of (records_folder b.project) u.key) w w'
    only_new = only_record b order i u at w w' renews.only

    pub keeps_unrenewed : BuildInvariant b states done next' w'
    keeps_unrenewed = keeps_fault b order i u at states done begun next w flying still can w' next' only_new sound_new ahead_new

    renewed_by : (ran : Ran) (lines : List ℕ) → records_in b w' u.key ≡ migrated next (numbered (records_in b w) (needed_keys b.project u)) (records_in b w u.key) → ((s : Record) → records_in b w' u.key ≡ Some s → is_some (number_of s) ≡ true)
        → slice_get (outcomes_in b) i ≡ Some (outcome_by (files_in u.out w'.files) ran) → BuildInvariant b (slice_set states i (Answered record { fault = ran.bad; lines = lines })) (slice_set done i ran.directives) next' w'
    renewed_by ran lines stands has outcome = keeps_answered b order i u at states done begun next w flying still can w' next' ran lines only_new outcome sound_new ahead_new
        (on_good b.premise (ran.bad ≡ None) (HasRecord b w' i)
        (migrated_record b order i u at states done begun next w flying still can w' next' renews.only b.premise can.keeps.records same_now stands has))

    pub keeps_renewed : (ran : Ran) (lines : List ℕ) → Renewed (records_folder b.project) u.key (needed_keys b.project u) next next' w w' → slice_get (outcomes_in b) i ≡ Some (outcome_by (files_in u.out w'.files) ran)
        → BuildInvariant b (slice_set states i (Answered record { fault = ran.bad; lines = lines })) (slice_set done i ran.directives) next' w'
    keeps_renewed ran lines renewed outcome = renewed_by ran lines renewed.stands (numbered_now (records_folder b.project) u.key (needed_keys b.project u) next next' w w' renewed) outcome

    -- another unit that has begun
    pub others_renewed : (other : ℕ) (its : Begun) (flying' : List ChildInFlight) (still' : ℕ → Type 0) → BeginsApart b states i None other its next w flying still → TakesNumber next next' → flying' ≡ flying
        → KeepsStillOutside (is_of (records_folder b.project) u.key) flying still still' → IsBegun b other its next' w' flying' still'
    others_renewed other its flying' still' apart taken flies keeps =
        stays_begun b order states done i u None other its next next' next w w' flying flying' still still' at (begun_bad b order i u at states done begun next w flying still can) can.keeps apart only_new taken
        (left_migrated b order i u at states done begun next w flying still can w' next' renews.only b.premise can.keeps.records same_now renews.left)
        (λ theirs is. numbers_apart b u c states i None other its next w flying still same_now apart theirs is)
        (λ theirs is f there. ap (child_at theirs.ticket) flies ∙ there) (λ theirs is stands stood. keeps theirs.ticket stands stood)

  keeps_numbered_here : (ran : Ran) (lines : List ℕ) → again.numbered ≡ true → slice_get (outcomes_in b) i ≡ Some (outcome_by (files_in u.out w.files) ran)
      → BuildInvariant b (slice_set states i (Answered record { fault = ran.bad; lines = lines })) (slice_set done i ran.directives) next w
  keeps_numbered_here ran lines has outcome = renewed_by w next renewing_none ran lines
      (stays_numbered next (numbered (records_in b w) (needed_keys b.project u)) (records_in b w u.key) again gives has)
      (λ s there. sym (ap (λ (x : Replayed). x.numbered) (one again (replayed s) (sym gives ∙ ap (option_map replayed) there))) ∙ has)
      outcome

  pub keeps_numbered : (w' : World) (ran : Ran) (lines : List ℕ) → w' ≡ w → again.numbered ≡ true → slice_get (outcomes_in b) i ≡ Some (outcome_by (files_in u.out w'.files) ran)
      → BuildInvariant b (slice_set states i (Answered record { fault = ran.bad; lines = lines })) (slice_set done i ran.directives) next w'
  keeps_numbered w' ran lines same has outcome =
      subst (BuildInvariant b (slice_set states i (Answered record { fault = ran.bad; lines = lines })) (slice_set done i ran.directives) next) (sym same)
      (keeps_numbered_here ran lines has (subst (λ (v : World). slice_get (outcomes_in b) i ≡ Some (outcome_by (files_in u.out v.files) ran)) same outcome))

  pub others_unchanged : (other : ℕ) (its : Begun) (w' : World) (flying' : List ChildInFlight) (still' : ℕ → Type 0) → BeginsApart b states i None other its next w flying still → w' ≡ w → flying' ≡ flying → KeepsStill still still'
      → IsBegun b other its next w' flying' still'
  others_unchanged other its w' flying' still' apart same flies keeps =
      stays_begun b order states done i u None other its next next next w w' flying flying' still still' at (begun_bad b order i u at states done begun next w flying still can) can.keeps apart
      (subst (ChangesOnly (is_of (records_folder b.project) u.key) w) (sym same) (only_same _ w)) (inl refl)
      (if_records b.premise (Left (records_in b w) (records_in b w') u.key next) (as_before (ap (λ (v : World). records (records_folder b.project) v u.key) same)))
      (λ theirs is. numbers_apart b u c states i None other its next w flying still same_now apart theirs is)
      (λ theirs is f there. ap (child_at theirs.ticket) flies ∙ there) (λ theirs is stands stood. keeps theirs.ticket stood)
