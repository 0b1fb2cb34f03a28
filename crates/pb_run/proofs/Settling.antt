-- A unit with a child that answers: what is kept of a build, and what another unit finds.
use Rattle.std.proofs.Common.{◌≡◌, ◌≢◌, ◌∙◌, ℕ, true, false, List, Option, Some, None, Result, Ok, Err, map, refl, sym, ap, subst, inl, slice_get, slice_set, take}
use Rattle.std.proofs.lemmas.Bool.{false≢true}
use Rattle.std.specs.Prelude.{IfSome}
use Rattle.std.specs.Option.{is_some}
use Rattle.pb_command_reply.specs.Answers.{answered_of}
use Rattle.pb_command.specs.Judge.{ended_by, file_at, inputs_if, judge, replied_files}
use Rattle.pb_command.proofs.Judged.{judges_as_answered}
use Rattle.pb_directive.specs.declared.directive.Directive.{Directive}
use Rattle.pb_run_flight.specs.declared.flight.State.{State}
use Rattle.pb_run_flight.specs.declared.flight.State.TheVariants.{Answered}
use Rattle.pb_place_types.specs.Children.{StandsStill, StaysStillBut, child_at, KeepsStill}
use Rattle.pb_place_types.specs.Counts.{Counts, counted_finish, without}
use Rattle.pb_place_types.specs.Folders.{files_in}
use Rattle.pb_place_types.specs.Paths.{is_at_or_below}
use Rattle.pb_place_types.specs.World.{World, Answers, ChangesOnly, ChangesOnlyInSome, seen_by}
use Rattle.pb_place_types.specs.declared.child.Reply.{Reply}
use Rattle.pb_place_types.specs.declared.child_in_flight.ChildInFlight.{ChildInFlight}
use Rattle.pb_place_types.specs.declared.command.Command.{Command}
use Rattle.pb_place_types.specs.declared.command.Ended.{Ended}
use Rattle.pb_place_types.specs.declared.place.StartFault.{StartFault}
use Rattle.pb_place_types.specs.declared.place.StartFault.TheVariants as start
use Rattle.pb_command_types.specs.Targets.{crate_name_of, dep_info_of, unit_at}
use Rattle.pb_command_types.specs.declared.checked_reply.CheckedReply as answers
use Rattle.pb_record.specs.declared.record.InputName.{InputName}
use Rattle.pb_command_types.specs.declared.fault.UnitFault.{UnitFault}
use Rattle.pb_build_result.specs.declared.bad_unit.BadUnit.{BadUnit}
use Rattle.pb_command_types.specs.declared.project.Project.{Project}
use Rattle.pb_unit.specs.declared.plan.Planned.{Planned}
use Rattle.pb_run.specs.UnitSteps.{Premise, TrustedRecords, NoRecords, BuildContext, AwaitsBy, BeginsApart, CanAnswer, HasRecord, IsBegun, BuildInvariant, begun_with, command_in, needed_keys, outcomes_in, records_in, view_in, child_in, child_of}
use Rattle.pb_run.specs.Outcome.{directives_of, judgement_by, names_in, outcome_by, ran_by}
use Rattle.pb_run.specs.Invariants.{IsInOrder, records_folder}
use Rattle.pb_run.specs.declared.begun.Awaited.{Awaited}
use Rattle.pb_run.specs.declared.begun.Awaited.TheVariants as awaited
use Rattle.pb_run.specs.declared.begun.Begun.{Begun}
use Rattle.pb_run.specs.declared.begun.SpawnedChild.{SpawnedChild}
use Rattle.pb_run.specs.declared.ran.Validated.{Validated}
use Rattle.pb_run.specs.declared.ran.Ran.{Ran}
use Rattle.pb_run.proofs.Answering.{landed_only, reached_stand}
use Rattle.pb_run.proofs.Parts.{answer_parts, begun_parts}
use Rattle.pb_run.proofs.RecordedAnswer.{begun_bad, its_command, its_record, keeps_answered, keeps_fault, only_join, only_out, only_record}
use Rattle.pb_run.proofs.RecordedLanding.{kept_ahead, kept_record, kept_sound, landed_ahead, landed_sound, left_landed}
use Rattle.pb_run.proofs.RecordedOthers.{IfRecords, Left, flies_without, if_records, stays_begun}
use Rattle.pb_run.proofs.Shown.{AllStand, sees_view}
use Rattle.pb_run.proofs.Units.{dep_info_inside, inside_file}
use Rattle.pb_store_soundness.specs.Apart.{is_of}
use Rattle.pb_store_soundness.specs.Inputs.{input_in}
use Rattle.pb_store_soundness.specs.Numbers.{IsAhead, IsBefore}
use Rattle.pb_store_soundness.specs.Records.{record_path, reading, records}
use Rattle.pb_store_soundness.specs.Sound.{Sound}
use Rattle.pb_store.specs.Folder.{HasNeeds, IsKept, Leaves, kept_of, numbered}

-- a good judgement has the names of its inputs
good_names : (project : Project) (u : Planned) (e : Ended) (a : Result answers.CheckedReply UnitFault) → (ran_by project u e a).bad ≡ None → inputs_if a ≡ Some (names_in a)
good_names project u e (Ok answered) good = refl
good_names project u e (Err fault) good = cc

pub not_none : {A : Type 0} (o : Option A) → is_some o ≡ true → o ≡ None → ⊥
not_none None bad good = false≢true bad
not_none (Some x) bad good = cc

pub no_some : {A : Type 0} (o : Option A) → is_some o ≡ false → o ≡ None
no_some None good = refl
no_some (Some x) good = absurd (false≢true (sym good))

pub on_good : (premise : Premise) (Given Fact : Type 0) → IfRecords premise Fact → IfRecords premise (Given → Fact)
on_good TrustedRecords Given Fact has = λ given. has
on_good NoRecords Given Fact has = tt

-- what the call that keeps a record does
pub record Keeping (child : Answers) (folder key : List ℕ) (needs : List (List ℕ)) (c : Command) (number : ℕ) (names : List InputName) (ended : Ended) (next : Option ℕ) (w1 w2 : World) : Type 0 where
  pub sound : IsKept judge child folder key c needs names ended number w1 → Sound reading judge child folder w1.files → Sound reading judge child folder w2.files
  pub ahead : IsBefore next number → HasNeeds (records folder w1) folder c.reads needs number → IsAhead (records folder w1) next → IsAhead (records folder w2) next
  pub left : Leaves (Some (kept_of folder key c (map (input_in c.target w1) names) number (numbered (records folder w1) needs) ended)) (records folder w1 key) (records folder w2 key)
  pub only : ChangesOnly (is_at_or_below (record_path folder key)) w1 w2

-- and where it ended well
abbrev pub Stands : List ℕ → List ℕ → List (List ℕ) → Command → ℕ → List InputName → Ended → World → World → Type 0
Stands folder key needs c number names ended w1 w2 = records folder w2 key ≡ Some (kept_of folder key c (map (input_in c.target w1) names) number (numbered (records folder w1) needs) ended)

-- the same, by other names
module _ (child : Answers) (folder root key k : List ℕ) (needs ns : List (List ℕ)) (c : Command) (number : ℕ) (names js : List InputName) (ended : Ended) (v w1 v2 : World)
    (is_folder : folder ≡ root) (its : key ≡ k) (are : needs ≡ ns) (named : names ≡ js) (same : v ≡ w1) where
  pub keeping_moved : (next : Option ℕ) → Keeping child folder key needs c number names ended next v v2 → Keeping child root k ns c number js ended next w1 v2
  keeping_moved next keeping =
      subst (λ f. Keeping child f k ns c number js ended next w1 v2) is_folder
      (subst (λ x. Keeping child folder x ns c number js ended next w1 v2) its
      (subst (λ xs. Keeping child folder key xs c number js ended next w1 v2) are
      (subst (λ xs. Keeping child folder key needs c number xs ended next w1 v2) named
      (subst (λ (x : World). Keeping child folder key needs c number names ended next x v2) same keeping))))

  pub stands_moved : Stands folder key needs c number names ended v v2 → Stands root k ns c number js ended w1 v2
  stands_moved stands =
      subst (λ f. Stands f k ns c number js ended w1 v2) is_folder
      (subst (λ x. Stands folder x ns c number js ended w1 v2) its
      (subst (λ xs. Stands folder key xs c number js ended w1 v2) are
      (subst (λ xs. Stands folder key needs c number xs ended w1 v2) named
      (subst (λ (x : World). Stands folder key needs c number names ended x v2) same stands))))

module _ (b : BuildContext) (order : IsInOrder b.project) (i : ℕ) (u : Planned) (at : unit_at b.project i ≡ Some u) (key : List ℕ) (c : Command) (l : SpawnedChild) (next : Option ℕ) (w : World)
    (flying : List ChildInFlight) (still : ℕ → Type 0) (states : List (State BadUnit)) (done : List (Option (List Directive))) (can : CanAnswer b states done i u (begun_with key c (awaited.Child l)) next w flying still)
    (w1 : World) (landed : ChangesOnly (is_at_or_below u.out) w w1) where
  abbrev begun : Begun
  begun = begun_with key c (awaited.Child l)

  waits : AwaitsBy b.premise b u l.number next w
  waits = its_record b order i u at states done begun next w flying still can l refl

  is_command : c ≡ command_in b i u
  is_command = its_command b order i u at states done begun next w flying still can

  sound_now : IfRecords b.premise (Sound reading judge b.child (records_folder b.project) w1.files)
  sound_now = landed_sound b order i u at states done begun next w flying still can w1 landed b.premise l.number can.keeps.records waits

  ahead_now : IfRecords b.premise (IsAhead (records_in b w1) next)
  ahead_now = landed_ahead b order i u at states done begun next w flying still can w1 landed b.premise can.keeps.records

  only_now : ChangesOnly (is_of (records_folder b.project) u.key) w w1
  only_now = only_out b order i u at w w1 landed

  -- a fault after it has landed, or on the way
  pub keeps_landed : (w' : World) → w' ≡ w1 → BuildInvariant b states done next w'
  keeps_landed w' same = subst (BuildInvariant b states done next) (sym same) (keeps_fault b order i u at states done begun next w flying still can w1 next only_now sound_now ahead_now)

  -- a bad answer
  keeps_bad_now : (ran : Ran) (lines : List ℕ) → is_some ran.bad ≡ true → slice_get (outcomes_in b) i ≡ Some (outcome_by (files_in u.out w1.files) ran)
      → BuildInvariant b (slice_set states i (Answered record { fault = ran.bad; lines = lines })) (slice_set done i ran.directives) next w1
  keeps_bad_now ran lines bad outcome = keeps_answered b order i u at states done begun next w flying still can w1 next ran lines only_now outcome sound_now ahead_now
      (if_records b.premise (ran.bad ≡ None → HasRecord b w1 i) (λ good. absurd (not_none ran.bad bad good)))

  pub keeps_bad : (w' : World) (ran : Ran) (lines : List ℕ) → w' ≡ w1 → is_some ran.bad ≡ true → slice_get (outcomes_in b) i ≡ Some (outcome_by (files_in u.out w'.files) ran)
      → BuildInvariant b (slice_set states i (Answered record { fault = ran.bad; lines = lines })) (slice_set done i ran.directives) next w'
  keeps_bad w' ran lines same bad outcome =
      subst (BuildInvariant b (slice_set states i (Answered record { fault = ran.bad; lines = lines })) (slice_set done i ran.directives) next) (sym same)
      (keeps_bad_now ran lines bad (subst (λ (v : World). slice_get (outcomes_in b) i ≡ Some (outcome_by (files_in u.out v.files) ran)) same outcome))

  -- its answer is that of the unit's view
  stand : AllStand b done w u.reaches
  stand = reached_stand b order i u at states done next w can.keeps can.reaches

  sees : seen_by c w ≡ view_in b i u
  sees = ap (λ (d : Command). seen_by d w) is_command ∙ sees_view b done w i u order at stand can.keeps.sources_stay

  abbrev reply : Reply
  reply = b.child (command_in b i u) (view_in b i u)

  module _ (ended : Ended) (j : Validated) (is_ended : ended ≡ ended_by reply) (made : files_in u.out w1.files ≡ replied_files u.out reply)
      (is_judged : j ≡ judgement_by b.project u ended (answered_of b.project u c ended (file_at (dep_info_of b.project u) w1.files))) (good : is_some j.ran.bad ≡ false) where
    answered_so : answered_of b.project u c ended (file_at (dep_info_of b.project u) w1.files) ≡ answered_of b.project u (command_in b i u) (ended_by reply) (file_at (dep_info_of b.project u) (replied_files u.out reply))
    answered_so =
        ap (λ (d : Command). answered_of b.project u d ended (file_at (dep_info_of b.project u) w1.files)) is_command
        ∙ ap (λ (e : Ended). answered_of b.project u (command_in b i u) e (file_at (dep_info_of b.project u) w1.files)) is_ended
        ∙ ap (answered_of b.project u (command_in b i u) (ended_by reply))
        (sym (inside_file u.out (dep_info_of b.project u) w1.files (λ q is. dep_info_inside b.project u u.unit.what (crate_name_of b.project u) q is)) ∙ ap (file_at (dep_info_of b.project u)) made)

    its_names : judge (command_in b i u) reply ≡ Some j.names
    its_names =
        judges_as_answered b.setup b.project u (directives_of (take i (outcomes_in b))) order.selection i reply order.settled order.planned at
        ∙ sym (ap inputs_if answered_so)
        ∙ good_names b.project u ended (answered_of b.project u c ended (file_at (dep_info_of b.project u) w1.files)) (sym (ap (λ (x : Validated). x.ran.bad) is_judged) ∙ no_some j.ran.bad good)
        ∙ sym (ap (λ (x : Validated). Some x.names) is_judged)

    replies : b.child c (view_in b i u) ≡ reply
    replies = ap (λ (d : Command). b.child d (view_in b i u)) is_command

    judged_so : judge c (b.child c (view_in b i u)) ≡ Some j.names
    judged_so = subst (λ (d : Command). judge d (b.child d (view_in b i u)) ≡ Some j.names) (sym is_command) its_names

    ended_so : ended ≡ ended_by (b.child c (view_in b i u))
    ended_so = is_ended ∙ sym (ap ended_by replies)

    made_so : files_in u.out w1.files ≡ replied_files u.out (b.child c (view_in b i u))
    made_so = made ∙ sym (ap (replied_files u.out) replies)

    module _ (w2 : World) (kept : Keeping b.child (records_folder b.project) u.key (needed_keys b.project u) c l.number j.names ended next w1 w2) where
      sound_kept : IfRecords b.premise (Sound reading judge b.child (records_folder b.project) w2.files)
      sound_kept = kept_sound b order i u at states done begun next w flying still can w1 landed w2 kept.only b.premise l.number j.names ended can.keeps.records waits sees judged_so ended_so made_so kept.sound

      ahead_kept : IfRecords b.premise (IsAhead (records_in b w2) next)
      ahead_kept = kept_ahead b order i u at states done begun next w flying still can w1 landed w2 kept.only b.premise l.number can.keeps.records waits kept.ahead

      only_kept : ChangesOnly (is_of (records_folder b.project) u.key) w w2
      only_kept = only_join b order i u at w w1 w2 only_now (only_record b order i u at w1 w2 kept.only)

      -- a fault while it is kept
      pub keeps_unkept : BuildInvariant b states done next w2
      keeps_unkept = keeps_fault b order i u at states done begun next w flying still can w2 next only_kept sound_kept ahead_kept

      -- a good answer
      pub keeps_good : (lines : List ℕ) → Stands (records_folder b.project) u.key (needed_keys b.project u) c l.number j.names ended w1 w2 → slice_get (outcomes_in b) i ≡ Some (outcome_by (files_in u.out w2.files) j.ran)
          → BuildInvariant b (slice_set states i (Answered record { fault = j.ran.bad; lines = lines })) (slice_set done i j.ran.directives) next w2
      keeps_good lines stands outcome = keeps_answered b order i u at states done begun next w flying still can w2 next j.ran lines only_kept outcome sound_kept ahead_kept
          (on_good b.premise (j.ran.bad ≡ None) (HasRecord b w2 i)
          (kept_record b order i u at states done begun next w flying still can w1 landed w2 kept.only b.premise l.number j.names ended can.keeps.records waits stands))

  -- Another unit that has begun.
  pub others_landed : (other : ℕ) (its : Begun) (w' : World) (flying' : List ChildInFlight) (still' : ℕ → Type 0) → BeginsApart b states i (Some l) other its next w flying still
      → ChangesOnly (is_of (records_folder b.project) u.key) w w' → IfRecords b.premise (Left (records_in b w) (records_in b w') u.key (Some l.number)) → flying' ≡ without l.ticket flying
      → ((t : ℕ) → t ≢ l.ticket → ((x y : World) → ChangesOnly (is_of (records_folder b.project) u.key) x y → StandsStill t flying x y) → still t → still' t)
      → IsBegun b other its next w' flying' still'
  others_landed other its w' flying' still' apart only left flies stands_on =
      stays_begun b order states done i u (Some l) other its next next (Some l.number) w w' flying flying' still still' at (begun_bad b order i u at states done begun next w flying still can) can.keeps apart only (inl refl) left
      (λ theirs is e. apart.numbers l theirs refl is (number_of_some theirs.number l.number e))
      (λ theirs is f there. ap (child_at theirs.ticket) flies ∙ flies_without theirs.ticket l.ticket flying (apart.tickets l theirs refl is) ∙ there)
      (λ theirs is. stands_on theirs.ticket (apart.tickets l theirs refl is))
    where
      number_of_some : (m n : ℕ) → Some n ≡ Some m → m ≡ n
      number_of_some m n e = cc

  -- nothing is kept
  pub others_unkept : (other : ℕ) (its : Begun) (w' : World) (flying' : List ChildInFlight) (still' : ℕ → Type 0) → BeginsApart b states i (Some l) other its next w flying still → w' ≡ w1 → flying' ≡ without l.ticket flying
      → ((t : ℕ) → t ≢ l.ticket → ((x y : World) → ChangesOnly (is_of (records_folder b.project) u.key) x y → StandsStill t flying x y) → still t → still' t)
      → IsBegun b other its next w' flying' still'
  others_unkept other its w' flying' still' apart same flies stands_on =
      others_landed other its w' flying' still' apart (subst (ChangesOnly (is_of (records_folder b.project) u.key) w) (sym same) only_now)
      (if_records b.premise (Left (records_in b w) (records_in b w') u.key (Some l.number))
      (subst (λ (v : World). Left (records_in b w) (records_in b v) u.key (Some l.number)) (sym same) (left_landed b order i u at states done begun next w flying still can w1 landed (Some l.number)))) flies stands_on

  -- what stood still over the end of the child
  pub stood_over : (t : ℕ) (mid later : ℕ → Type 0) → t ≢ l.ticket → StaysStillBut l.ticket flying w w1 still mid → KeepsStill mid later
      → ((x y : World) → ChangesOnly (is_of (records_folder b.project) u.key) x y → StandsStill t flying x y) → still t → later t
  stood_over t mid later apart ends keeps stands stood = keeps t (ends t apart (stands w w1 only_now) stood)

-- Its child's end is asked for, and the answer dropped.

pub finish_flying : (ticket : ℕ) (result : Result Ended StartFault) (old : Counts) → (counted_finish ticket result old).starts.flying ≡ without ticket old.starts.flying
finish_flying ticket (Ok x) old = refl
finish_flying ticket (Err start.CannotStart) old = refl
finish_flying ticket (Err start.Died) old = refl
finish_flying ticket (Err start.Capture) old = refl
finish_flying ticket (Err start.OutOfMemory) old = refl

module _ (b : BuildContext) (order : IsInOrder b.project) (i : ℕ) (u : Planned) (at : unit_at b.project i ≡ Some u) (w w1 : World) (next : Option ℕ) (flying : List ChildInFlight) (still : ℕ → Type 0)
    (begun : Begun) (l : SpawnedChild) (is : begun.awaited ≡ awaited.Child l) where
  dropped_only : IsBegun b i begun next w flying still → IfSome (child_at l.ticket flying) (λ s. ChangesOnlyInSome s.command.out w w1) → ChangesOnly (is_at_or_below u.out) w w1
  dropped_only is_begun only = landed_only b order i u at begun.unit begun.command l next flying still w w1 (subst (λ (by : Awaited). IsBegun b i (begun_with begun.unit begun.command by) next w flying still) is (begun_parts begun b i begun.unit next w flying still is_begun)) only

  module _ (states : List (State BadUnit)) (done : List (Option (List Directive))) (can : CanAnswer b states done i u begun next w flying still) (only : IfSome (child_at l.ticket flying) (λ s. ChangesOnlyInSome s.command.out w w1)) where
    can_parts : CanAnswer b states done i u (begun_with begun.unit begun.command (awaited.Child l)) next w flying still
    can_parts = subst (λ (by : Awaited). CanAnswer b states done i u (begun_with begun.unit begun.command by) next w flying still) is (answer_parts begun b i begun.unit next w flying still states done u can)

    pub dropped_keeps : BuildInvariant b states done next w1
    dropped_keeps = keeps_landed b order i u at begun.unit begun.command l next w flying still states done can_parts w1 (dropped_only can.begun_so only) w1 refl

    pub dropped_others : (other : ℕ) (its : Begun) (result : Result Ended StartFault) (still' : ℕ → Type 0) (old new : Counts) → old.starts.flying ≡ flying → new ≡ counted_finish l.ticket result old → w1 ≡ w1
        → StaysStillBut l.ticket flying w w1 still still' → BeginsApart b states i (child_of begun) other its next w flying still → IsBegun b other its next w1 new.starts.flying still'
    dropped_others other its result still' old new flies counts same ends apart =
        others_unkept b order i u at begun.unit begun.command l next w flying still states done can_parts w1 (dropped_only can.begun_so only) other its w1 new.starts.flying still'
        (subst (λ (o : Option SpawnedChild). BeginsApart b states i o other its next w flying still) (ap child_in is) apart) refl
        (ap (λ (c : Counts). c.starts.flying) counts ∙ finish_flying l.ticket result old ∙ ap (without l.ticket) flies)
        (λ t ne stands stood. stood_over b order i u at begun.unit begun.command l next w flying still states done can_parts w1 (dropped_only can.begun_so only) t still' still' ne ends (λ x y. y) stands stood)
