-- A build goes on as a unit begins and answers.
use Rattle.std.proofs.Common.{◌≡◌, ℕ, true, false, List, Option, Some, None, Result, Ok, Err, refl, sym, ap, subst, inl}
use Rattle.std.specs.Prelude.{IfSome}
use Rattle.std.specs.Option.{is_some}
use Rattle.pb_command.specs.Command.{command_of}
use Rattle.pb_command.specs.Judge.{file_at, judge}
use Rattle.pb_directive.specs.declared.directive.Directive.{Directive}
use Rattle.pb_command_reply.specs.Answers.{answered_of}
use Rattle.pb_place_types.specs.At.{At}
use Rattle.pb_place_types.specs.Children.{LandsAs, StaysStillBut, child_at, KeepsStill, KeepsStillOutside}
use Rattle.pb_place_types.specs.Counts.{Starts, without}
use Rattle.pb_place_types.specs.Paths.{is_at_or_below}
use Rattle.pb_place_types.specs.World.{ChangesOnlyInSome}
use Rattle.pb_place_types.specs.declared.command.Command.{Command}
use Rattle.pb_place_types.specs.declared.command.Ended.{Ended}
use Rattle.pb_command_types.specs.Targets.{dep_info_of, unit_at}
use Rattle.pb_record.specs.declared.record.Record.{Record}
use Rattle.pb_run.specs.Running.{AnswersBuild, BeginsBuild, ChangesUnit, DropsFor, IsSpawned}
use Rattle.pb_run.specs.UnitSteps.{BuildContext, begun_with, needed_keys}
use Rattle.pb_run.specs.Outcome.{judgement_by, unstarted}
use Rattle.pb_run.specs.Invariants.{IsInOrder, records_folder}
use Rattle.pb_run.specs.declared.begun.Awaited.TheVariants as awaited
use Rattle.pb_run.specs.declared.begun.SpawnedChild.{SpawnedChild}
use Rattle.pb_run.specs.declared.faults.StepFault.{StepFault}
use Rattle.pb_run.specs.declared.ran.Validated.{Validated}
use Rattle.pb_run.specs.declared.ran.Ran.{Ran}
use Rattle.pb_run.proofs.Halving.{begun_none, begun_some, keeps_launched, keeps_same, others_begun, others_same}
use Rattle.pb_run.proofs.Kept.{keeps_bad_ended, keeps_ended, keeps_kept, keeps_over, others_ended, others_kept, outcome_ended, outcome_kept}
use Rattle.pb_run.proofs.Parts.{begun_whole}
use Rattle.pb_run.proofs.Reusing.{Renewed, Renewing, keeps_bad_again, keeps_numbered, keeps_renewed, keeps_unchanged, keeps_unrenewed, others_renewed, others_unchanged, renewed_outcome, replay_outcome}
use Rattle.pb_run.proofs.Settling.{Keeping, Stands}
use Rattle.pb_store_soundness.specs.Apart.{is_of}
use Rattle.pb_store_soundness.specs.Numbers.{after}
use Rattle.pb_store_soundness.specs.Records.{record_path, reading, records}
use Rattle.pb_store_soundness.specs.Reuse.{IsSame}
use Rattle.pb_store.specs.Folder.{TakesNumber}
use Rattle.pb_store.specs.Differences.{IsReplayed}
use Rattle.pb_store.specs.declared.replaying.Replayed.{Replayed}
use Rattle.pb_unit.specs.declared.plan.Planned.{Planned}

-- A unit begins.
module _ (b : BuildContext) (order : IsInOrder b.project) (i : ℕ) (u : Planned) (at : unit_at b.project i ≡ Some u) (done : List (Option (List Directive))) (next : Option ℕ) (old new : At) where
  -- nothing was changed
  module _ (same : new.world ≡ old.world) (starts : new.counts.starts ≡ old.counts.starts) (keeps : KeepsStill old.still new.still) where
    pub begin_failed : (e : StepFault) → BeginsBuild b done i u (Err e) next next old new
    begin_failed e = record {
      begun = λ states can. tt;
      keeps = λ states can. keeps_same b order i u at states done next old.world can new.world same;
      others = λ states other its can apart. others_same b order i u at states done next old.world can other its old.counts.starts.flying old.still apart new.world new.counts.starts.flying new.still same
          (ap (λ (s : Starts). s.flying) starts) keeps;
    }

    pub begin_same : (key : List ℕ) (c : Command) (again : Replayed) → c ≡ command_of b.setup b.project u done → (r : Record) × IsSame reading (records_folder b.project) u.key c old.world r → IsReplayed (records (records_folder b.project) old.world u.key) again
        → BeginsBuild b done i u (Ok (begun_with key c (awaited.Record again))) next next old new
    begin_same key c again asks found gives = record {
      begun = λ states can. begun_none b order i u at states done next old.world can key c again new.world (records_folder b.project) new.counts.starts.flying new.still same refl asks found gives;
      keeps = λ states can. keeps_same b order i u at states done next old.world can new.world same;
      others = λ states other its can apart. others_same b order i u at states done next old.world can other its old.counts.starts.flying old.still apart new.world new.counts.starts.flying new.still same
          (ap (λ (s : Starts). s.flying) starts) keeps;
    }

  -- its child was launched, or was to be
  module _ {T : Type 0} (Goes : T → Starts → Starts → Type 0) (May : StepFault → Starts → Starts → Type 0) (result : Result T StepFault) (next' : Option ℕ) (changes : ChangesUnit (records_folder b.project) u.key None Goes May result old new)
      (taken : TakesNumber next next') where
    pub begin_stopped : (e : StepFault) → DropsFor {T = SpawnedChild} b.child (records_folder b.project) u.key (Err e) next next' old.world new.world → BeginsBuild b done i u (Err e) next next' old new
    begin_stopped e drops = record {
      begun = λ states can. tt;
      keeps = λ states can. keeps_launched b order i u at states done next old.world can (records_folder b.project) refl new.world next' changes.only (drops.sound judge) drops.ahead;
      others = λ states other its can apart. others_begun b order i u at states done next old.world can other its old.counts.starts.flying old.still apart (records_folder b.project) new.world next' new.counts.starts.flying new.still refl
          changes.only taken drops.stands (λ t f there. changes.stay t f tt there) (λ t stands stood. changes.still t tt stands stood);
    }

    pub begin_launched : (key : List ℕ) (c : Command) (l : SpawnedChild) (difference : _) → c ≡ command_of b.setup b.project u done → IsSpawned (is_of (records_folder b.project) u.key) b.child c old.world l.ticket new.counts.starts.flying new.still
        → next ≡ Some l.number → next' ≡ after l.number → DropsFor {T = SpawnedChild} b.child (records_folder b.project) u.key (Ok l) next next' old.world new.world
        → BeginsBuild b done i u (Ok record { unit = key; command = c; difference = difference; awaited = awaited.Child l }) next next' old new
    begin_launched key c l difference asks spawned given then' drops = record {
      begun = λ states can. begun_whole record { unit = key; command = c; difference = difference; awaited = awaited.Child l } b i key next' new.world new.counts.starts.flying new.still
          (begun_some b order i u at states done next old.world can (records_folder b.project) refl new.world next' changes.only key c l new.counts.starts.flying new.still asks spawned drops.stands given then');
      keeps = λ states can. keeps_launched b order i u at states done next old.world can (records_folder b.project) refl new.world next' changes.only (drops.sound judge) drops.ahead;
      others = λ states other its can apart. others_begun b order i u at states done next old.world can other its old.counts.starts.flying old.still apart (records_folder b.project) new.world next' new.counts.starts.flying new.still refl
          changes.only taken (inl drops.stands) (λ t f there. changes.stay t f tt there) (λ t stands stood. changes.still t tt stands stood);
    }

-- A unit with a child answers.
module _ (b : BuildContext) (order : IsInOrder b.project) (i : ℕ) (u : Planned) (at : unit_at b.project i ≡ Some u) (c : Command) (l : SpawnedChild) (next : Option ℕ) (old mid : At)
    (only : IfSome (child_at l.ticket old.counts.starts.flying) (λ s. ChangesOnlyInSome s.command.out old.world mid.world)) (stays : StaysStillBut l.ticket old.counts.starts.flying old.world mid.world old.still mid.still) where
  -- nothing is kept
  pub land_failed : (new : At) → new.world ≡ mid.world → KeepsStill mid.still new.still → new.counts.starts.flying ≡ without l.ticket old.counts.starts.flying → (e : StepFault) → AnswersBuild b i u (begun_with u.key c (awaited.Child l)) (Err e) next next old new
  land_failed new same keeps gone e = record {
    outcome = λ states done can. tt;
    keeps = λ states done can. keeps_ended b order i u at c l next old.world old.counts.starts.flying old.still states done can mid.world only new.world same;
    others = λ states done other its can apart. others_ended b order i u at c l next old.world old.counts.starts.flying old.still states done can mid.world only other its new.world new.counts.starts.flying mid.still new.still same gone stays keeps apart;
  }

  -- the answer was judged
  module _ (ended : Ended) (j : Validated) (lands : old.still l.ticket → IfSome (child_at l.ticket old.counts.starts.flying) (λ s. LandsAs s old.world ended mid.world))
      (judged : j ≡ judgement_by b.project u ended (answered_of b.project u c ended (file_at (dep_info_of b.project u) mid.world.files))) where
    pub land_bad : (new : At) → new.world ≡ mid.world → KeepsStill mid.still new.still → new.counts.starts.flying ≡ without l.ticket old.counts.starts.flying → is_some j.ran.bad ≡ true → AnswersBuild b i u (begun_with u.key c (awaited.Child l)) (Ok j.ran) next next old new
    land_bad new same keeps gone bad = record {
      outcome = λ states done can. outcome_ended b order i u at c l next old.world old.counts.starts.flying old.still states done can mid.world only ended j lands judged new.world same;
      keeps = λ states done can lines. keeps_bad_ended b order i u at c l next old.world old.counts.starts.flying old.still states done can mid.world only ended j lands judged new.world lines same bad;
      others = λ states done other its can apart. others_ended b order i u at c l next old.world old.counts.starts.flying old.still states done can mid.world only other its new.world new.counts.starts.flying mid.still new.still same gone stays keeps apart;
    }

    module _ (good : is_some j.ran.bad ≡ false) (new : At) (keeping : Keeping b.child (records_folder b.project) u.key (needed_keys b.project u) c l.number j.names ended next mid.world new.world) (gone : new.counts.starts.flying ≡ without l.ticket old.counts.starts.flying)
        (holds : KeepsStillOutside (is_at_or_below (record_path (records_folder b.project) u.key)) (without l.ticket old.counts.starts.flying) mid.still new.still) (next' : Option ℕ) (taken : next' ≡ next) where
      unkept : (e : StepFault) → AnswersBuild b i u (begun_with u.key c (awaited.Child l)) (Err e) next next old new
      unkept e = record {
        outcome = λ states done can. tt;
        keeps = λ states done can. keeps_over b order i u at c l next old.world old.counts.starts.flying old.still states done can mid.world only ended j lands judged good new.world keeping;
        others = λ states done other its can apart. others_kept b order i u at c l next old.world old.counts.starts.flying old.still states done can mid.world only ended j lands judged good new.world keeping other its new.counts.starts.flying mid.still new.still gone stays holds apart;
      }

      pub land_unkept : (e : StepFault) → AnswersBuild b i u (begun_with u.key c (awaited.Child l)) (Err e) next next' old new
      land_unkept e = subst (λ (n : Option ℕ). AnswersBuild b i u (begun_with u.key c (awaited.Child l)) (Err e) next n old new) (sym taken) (unkept e)

      kept : Stands (records_folder b.project) u.key (needed_keys b.project u) c l.number j.names ended mid.world new.world → AnswersBuild b i u (begun_with u.key c (awaited.Child l)) (Ok j.ran) next next old new
      kept stands = record {
        outcome = λ states done can. outcome_kept b order i u at c l next old.world old.counts.starts.flying old.still states done can mid.world only ended j lands judged good new.world keeping;
        keeps = λ states done can lines. keeps_kept b order i u at c l next old.world old.counts.starts.flying old.still states done can mid.world only ended j lands judged good new.world keeping lines stands;
        others = λ states done other its can apart. others_kept b order i u at c l next old.world old.counts.starts.flying old.still states done can mid.world only ended j lands judged good new.world keeping other its new.counts.starts.flying mid.still new.still gone stays holds apart;
      }

      pub land_kept : Stands (records_folder b.project) u.key (needed_keys b.project u) c l.number j.names ended mid.world new.world → AnswersBuild b i u (begun_with u.key c (awaited.Child l)) (Ok j.ran) next next' old new
      land_kept stands = subst (λ (n : Option ℕ). AnswersBuild b i u (begun_with u.key c (awaited.Child l)) (Ok j.ran) next n old new) (sym taken) (kept stands)

-- A unit without a child answers.
module _ (b : BuildContext) (order : IsInOrder b.project) (i : ℕ) (u : Planned) (at : unit_at b.project i ≡ Some u) (c : Command) (again : Replayed) (next : Option ℕ) (old new : At) where
  -- nothing was changed
  module _ (same : new.world ≡ old.world) (starts : new.counts.starts ≡ old.counts.starts) (keeps : KeepsStill old.still new.still) where
    pub reuse_failed : (e : StepFault) → AnswersBuild b i u (begun_with u.key c (awaited.Record again)) (Err e) next next old new
    reuse_failed e = record {
      outcome = λ states done can. tt;
      keeps = λ states done can. keeps_unchanged b order i u at u.key c again next old.world old.counts.starts.flying old.still states done can new.world same;
      others = λ states done other its can apart. others_unchanged b order i u at u.key c again next old.world old.counts.starts.flying old.still states done can other its new.world new.counts.starts.flying new.still apart same
          (ap (λ (s : Starts). s.flying) starts) keeps;
    }

    module _ (j : Validated) (judged : j ≡ judgement_by b.project u again.ended (answered_of b.project u c again.ended (file_at (dep_info_of b.project u) old.world.files))) (ran : Ran) (is : ran ≡ unstarted j.ran) where
      pub reuse_bad : is_some ran.bad ≡ true → AnswersBuild b i u (begun_with u.key c (awaited.Record again)) (Ok ran) next next old new
      reuse_bad bad = record {
        outcome = λ states done can. replay_outcome b order i u at u.key c again next old.world old.counts.starts.flying old.still states done can j new.world ran same judged is;
        keeps = λ states done can lines. keeps_bad_again b order i u at u.key c again next old.world old.counts.starts.flying old.still states done can new.world ran lines same bad
            (replay_outcome b order i u at u.key c again next old.world old.counts.starts.flying old.still states done can j new.world ran same judged is);
        others = λ states done other its can apart. others_unchanged b order i u at u.key c again next old.world old.counts.starts.flying old.still states done can other its new.world new.counts.starts.flying new.still apart same
            (ap (λ (s : Starts). s.flying) starts) keeps;
      }

      pub reuse_numbered : again.numbered ≡ true → AnswersBuild b i u (begun_with u.key c (awaited.Record again)) (Ok ran) next next old new
      reuse_numbered has = record {
        outcome = λ states done can. replay_outcome b order i u at u.key c again next old.world old.counts.starts.flying old.still states done can j new.world ran same judged is;
        keeps = λ states done can lines. keeps_numbered b order i u at u.key c again next old.world old.counts.starts.flying old.still states done can new.world ran lines same has
            (replay_outcome b order i u at u.key c again next old.world old.counts.starts.flying old.still states done can j new.world ran same judged is);
        others = λ states done other its can apart. others_unchanged b order i u at u.key c again next old.world old.counts.starts.flying old.still states done can other its new.world new.counts.starts.flying new.still apart same
            (ap (λ (s : Starts). s.flying) starts) keeps;
      }

  -- its record was given a number, or was to be
  module _ {T : Type 0} (Goes : T → Starts → Starts → Type 0) (May : StepFault → Starts → Starts → Type 0) (result : Result T StepFault) (next' : Option ℕ) (renews : Renewing b.child (records_folder b.project) u.key (needed_keys b.project u) c next next' old.world new.world)
      (changes : ChangesUnit (records_folder b.project) u.key None Goes May result old new) (starts : new.counts.starts ≡ old.counts.starts) (taken : TakesNumber next next') where
    pub reuse_unrenewed : (e : StepFault) → AnswersBuild b i u (begun_with u.key c (awaited.Record again)) (Err e) next next' old new
    reuse_unrenewed e = record {
      outcome = λ states done can. tt;
      keeps = λ states done can. keeps_unrenewed b order i u at u.key c again next old.world old.counts.starts.flying old.still states done can new.world next' renews;
      others = λ states done other its can apart. others_renewed b order i u at u.key c again next old.world old.counts.starts.flying old.still states done can new.world next' renews other its new.counts.starts.flying new.still apart taken
          (ap (λ (s : Starts). s.flying) starts) (λ t stands stood. changes.still t tt stands stood);
    }

    pub reuse_renewed : (j : Validated) → j ≡ judgement_by b.project u again.ended (answered_of b.project u c again.ended (file_at (dep_info_of b.project u) old.world.files)) → (ran : Ran) → ran ≡ unstarted j.ran
        → Renewed (records_folder b.project) u.key (needed_keys b.project u) next next' old.world new.world → AnswersBuild b i u (begun_with u.key c (awaited.Record again)) (Ok ran) next next' old new
    reuse_renewed j judged ran is renewed = record {
      outcome = λ states done can. renewed_outcome b order i u at u.key c again next old.world old.counts.starts.flying old.still states done can j new.world ran judged is renews.only;
      keeps = λ states done can lines. keeps_renewed b order i u at u.key c again next old.world old.counts.starts.flying old.still states done can new.world next' renews ran lines renewed
          (renewed_outcome b order i u at u.key c again next old.world old.counts.starts.flying old.still states done can j new.world ran judged is renews.only);
      others = λ states done other its can apart. others_renewed b order i u at u.key c again next old.world old.counts.starts.flying old.still states done can new.world next' renews other its new.counts.starts.flying new.still apart taken
          (ap (λ (s : Starts). s.flying) starts) (λ t stands stood. changes.still t tt stands stood);
    }
