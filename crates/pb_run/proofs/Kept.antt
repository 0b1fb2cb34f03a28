-- A unit with a child that answers: the record is kept after the judgement, or not.
use Rattle.std.proofs.Common.{◌≡◌, ◌∙◌, ◌&&◌, ℕ, Bool, true, false, List, [], ◌∷◌, Option, Some, None, map, refl, sym, ap, subst, slice_get, slice_set}
use Rattle.std.proofs.lemmas.Bool.{false≢true}
use Rattle.std.specs.Prelude.{IfSome}
use Rattle.std.specs.Cmp.Lexicographic.{slice_cmp}
use Rattle.std.specs.List.{AllByRecursion}
use Rattle.std.specs.List.Sorted.{IsStrictlySortedBy}
use Rattle.std.specs.Option.{is_some}
use Rattle.std.specs.Ordering.{nat_cmp, is_lt}
use Rattle.std.specs.declared.cmp.Ordering.TheVariants.{Less}
use Rattle.pb_command_reply.specs.Answers.{answered_of}
use Rattle.pb_command.specs.Judge.{ended_by, file_at, replied_files}
use Rattle.pb_command.proofs.Rising.{commands_rise}
use Rattle.pb_data.specs.Table.{names_of}
use Rattle.pb_directive.specs.declared.directive.Directive.{Directive}
use Rattle.pb_run_flight.specs.declared.flight.State.{State}
use Rattle.pb_run_flight.specs.declared.flight.State.TheVariants.{Answered}
use Rattle.pb_place_types.specs.Children.{LandsAs, StaysStillBut, child_at, child_spawned, inside_out, landing, KeepsStill, KeepsStillOutside}
use Rattle.pb_place_types.specs.Counts.{Starts, without}
use Rattle.pb_place_types.specs.Folders.{files_in}
use Rattle.pb_place_types.specs.Paths.{is_at_or_below}
use Rattle.pb_place_types.specs.World.{World, Map, ChangesOnly, ChangesOnlyInSome, seen_by}
use Rattle.pb_place_types.specs.declared.child_in_flight.ChildInFlight.{ChildInFlight}
use Rattle.pb_place_types.specs.declared.command.Command.{Command}
use Rattle.pb_place_types.specs.declared.command.Ended.{Ended}
use Rattle.pb_command_types.specs.Targets.{dep_info_of, unit_at}
use Rattle.pb_build_result.specs.declared.bad_unit.BadUnit.{BadUnit}
use Rattle.pb_command_types.specs.declared.project.Project.{Project}
use Rattle.pb_record.specs.Sorted.{are_sorted, leads}
use Rattle.pb_unit.specs.declared.plan.Planned.{Planned}
use Rattle.pb_run.specs.UnitSteps.{BuildContext, BeginsApart, CanAnswer, IsBegun, BuildInvariant, begun_with, command_in, needed_keys, outcomes_in, view_in}
use Rattle.pb_run.specs.Outcome.{judgement_by, outcome_by}
use Rattle.pb_run.specs.Invariants.{IsCommandOf, IsInOrder, records_folder}
use Rattle.pb_run.specs.Steps.{MayAnswer, MayFollow}
use Rattle.pb_run.specs.declared.begun.Awaited.TheVariants as awaited
use Rattle.pb_run.specs.declared.begun.Begun.{Begun}
use Rattle.pb_run.specs.declared.begun.SpawnedChild.{SpawnedChild}
use Rattle.pb_run.specs.declared.faults.StepFault.{StepFault}
use Rattle.pb_run.specs.declared.faults.StepFault.TheVariants.{Store, Start}
use Rattle.pb_run.specs.declared.ran.Validated.{Validated}
use Rattle.pb_run.proofs.Answering.{command_out, files_kept, its_flight, its_landing, kept_only, landed_files, landed_gives, landed_only}
use Rattle.pb_run.proofs.RecordedAnswer.{its_record, only_out}
use Rattle.pb_run.proofs.RecordedLanding.{left_kept}
use Rattle.pb_run.proofs.RecordedOthers.{still_over}
use Rattle.pb_run.proofs.Settling.{Keeping, Stands, keeps_bad, keeps_good, keeps_landed, keeps_unkept, others_landed, others_unkept, stood_over}
use Rattle.pb_run.proofs.Spawning.{record_within, still_widen}
use Rattle.pb_store_soundness.specs.Apart.{is_of}
use Rattle.pb_store_soundness.specs.Inputs.{input_in}
use Rattle.pb_store_soundness.specs.Records.{record_path}
use Rattle.pb_store.specs.declared.fault.StoreFault.TheVariants as store

-- What the call that keeps a record asks.

-- the variables of a command are sorted
both : (p q : Bool) → p ≡ true → q ≡ true → p && q ≡ true
both true q is h = h
both false q is h = absurd (false≢true is)

leads_so : (name : List ℕ) (pairs : List (List ℕ × List ℕ)) → AllByRecursion (λ y. slice_cmp nat_cmp name y ≡ Less) (names_of pairs) → leads name pairs ≡ true
leads_so name [] h = refl
leads_so name (q ∷ pairs) h = ap is_lt h.0

sorted_so : (pairs : List (List ℕ × List ℕ)) → IsStrictlySortedBy (slice_cmp nat_cmp) (names_of pairs) → are_sorted pairs ≡ true
unfolding IsStrictlySortedBy
sorted_so [] h = refl
sorted_so (p ∷ pairs) h = both (leads p.0 pairs) (are_sorted pairs) (leads_so p.0 pairs h.0) (sorted_so pairs h.1)

pub pairs_sorted : (project : Project) (u : Planned) (c : Command) → IsCommandOf project u c → are_sorted c.pairs ≡ true
pairs_sorted project u c (setup, done, asks) = ap (λ (d : Command). are_sorted d.pairs) asks ∙ sorted_so _ (commands_rise setup project u done)

-- The children in flight.

pub flying_answer : (next : Option ℕ) (l : SpawnedChild) (e : StepFault) (old new : Starts) → MayAnswer next (Some l) e old new → new.flying ≡ without l.ticket old.flying
flying_answer next l (Store (store.Place fault)) old new (kind, lands) = ap (λ (s : Starts). s.flying) lands
flying_answer next l (Store store.NumbersSpent) old new (spent, none, same) = absurd (no_child none)
  where
    no_child : Some l ≡ None → ⊥
    no_child e = cc
flying_answer next l (Store store.OutOfMemory) old new may = ap (λ (s : Starts). s.flying) may
flying_answer next l (Start fault) old new (some, kind, lands) = ap (λ (s : Starts). s.flying) lands

pub flying_follow : (e : StepFault) (old new : Starts) → MayFollow e old new → new.flying ≡ old.flying
flying_follow (Store (store.Place fault)) old new (kind, same) = ap (λ (s : Starts). s.flying) same
flying_follow (Store store.NumbersSpent) old new may = absurd may
flying_follow (Store store.OutOfMemory) old new may = ap (λ (s : Starts). s.flying) may
flying_follow (Start fault) old new may = absurd may

-- The child has landed.

module _ (b : BuildContext) (order : IsInOrder b.project) (i : ℕ) (u : Planned) (at : unit_at b.project i ≡ Some u) (c : Command) (l : SpawnedChild) (next : Option ℕ) (w : World)
    (flying : List ChildInFlight) (still : ℕ → Type 0) (states : List (State BadUnit)) (done : List (Option (List Directive))) (can : CanAnswer b states done i u (begun_with u.key c (awaited.Child l)) next w flying still)
    (w1 : World) (ends : IfSome (child_at l.ticket flying) (λ s. ChangesOnlyInSome s.command.out w w1)) where
  landed_so : ChangesOnly (is_at_or_below u.out) w w1
  landed_so = landed_only b order i u at u.key c l next flying still w w1 can.begun_so ends

  -- nothing is kept
  pub keeps_ended : (v : World) → v ≡ w1 → BuildInvariant b states done next v
  keeps_ended v same = keeps_landed b order i u at u.key c l next w flying still states done can w1 landed_so v same

  pub others_ended : (other : ℕ) (its : Begun) (v : World) (flying' : List ChildInFlight) (mid later : ℕ → Type 0) → v ≡ w1 → flying' ≡ without l.ticket flying → StaysStillBut l.ticket flying w w1 still mid → KeepsStill mid later
      → BeginsApart b states i (Some l) other its next w flying still → IsBegun b other its next v flying' later
  others_ended other its v flying' mid later same flies stays keeps apart =
      others_unkept b order i u at u.key c l next w flying still states done can w1 landed_so other its v flying' later apart same flies
      (λ t ne stands stood. stood_over b order i u at u.key c l next w flying still states done can w1 landed_so t mid later ne stays keeps stands stood)

  -- the answer was judged
  module _ (ended : Ended) (j : Validated) (lands : still l.ticket → IfSome (child_at l.ticket flying) (λ s. LandsAs s w ended w1))
      (is_judged : j ≡ judgement_by b.project u ended (answered_of b.project u c ended (file_at (dep_info_of b.project u) w1.files))) where
    outcome_so : slice_get (outcomes_in b) i ≡ Some (outcome_by (files_in u.out w1.files) j.ran)
    outcome_so = landed_gives b order i u at u.key c l next flying still states done w w1 ended j can lands is_judged

    -- it is bad, and nothing is kept
    pub outcome_ended : (v : World) → v ≡ w1 → slice_get (outcomes_in b) i ≡ Some (outcome_by (files_in u.out v.files) j.ran)
    outcome_ended v same = subst (λ (x : World). slice_get (outcomes_in b) i ≡ Some (outcome_by (files_in u.out x.files) j.ran)) (sym same) outcome_so

    pub keeps_bad_ended : (v : World) (lines : List ℕ) → v ≡ w1 → is_some j.ran.bad ≡ true → BuildInvariant b (slice_set states i (Answered record { fault = j.ran.bad; lines = lines })) (slice_set done i j.ran.directives) next v
    keeps_bad_ended v lines same bad = keeps_bad b order i u at u.key c l next w flying still states done can w1 landed_so v j.ran lines same bad (outcome_ended v same)

    reply_so : (ended ≡ ended_by (b.child (command_in b i u) (view_in b i u))) × (files_in u.out w1.files ≡ replied_files u.out (b.child (command_in b i u) (view_in b i u)))
    reply_so =
        let (command, flight) = its_flight b order i u at u.key c l next flying still w can.begun_so in
        let landed : LandsAs (child_spawned (b.child c) c flight.spawned l.ticket) w ended w1 = its_landing b order i u at u.key c l next flying still w w1 ended flight.spawned flight.flies (lands flight.stands) in
        let replies : b.child c (seen_by c flight.spawned) ≡ b.child (command_in b i u) (view_in b i u) = ap (b.child c) flight.sees ∙ ap (λ (d : Command). b.child d (view_in b i u)) command in
        let out : c.out ≡ Some u.out = ap (λ (d : Command). d.out) command ∙ command_out b order i u at in (
          landed.answer ∙ ap ended_by replies,
          landed_files u.out (b.child c (seen_by c flight.spawned)).files (inside_out c.out flight.spawned.files) w w1 flight.emptied
              (landed.world ∙ ap (λ (o : Option (List ℕ)). landing o (b.child c (seen_by c flight.spawned)).files (inside_out c.out flight.spawned.files) w) out)
              ∙ ap (replied_files u.out) replies,
        )

    -- it is good, and the record is kept, or was to be
    module _ (good : is_some j.ran.bad ≡ false) (v2 : World) (keeping : Keeping b.child (records_folder b.project) u.key (needed_keys b.project u) c l.number j.names ended next w1 v2) where
      pub keeps_over : BuildInvariant b states done next v2
      keeps_over = keeps_unkept b order i u at u.key c l next w flying still states done can w1 landed_so ended j reply_so.0 reply_so.1 is_judged good v2 keeping

      pub outcome_kept : slice_get (outcomes_in b) i ≡ Some (outcome_by (files_in u.out v2.files) j.ran)
      outcome_kept = subst (λ (m : Map). slice_get (outcomes_in b) i ≡ Some (outcome_by m j.ran))
          (sym (files_kept (records_folder b.project) u.key u.out w1 v2 order.folder (order.keys i u at) (order.folders i u at) keeping.only)) outcome_so

      pub keeps_kept : (lines : List ℕ) → Stands (records_folder b.project) u.key (needed_keys b.project u) c l.number j.names ended w1 v2
          → BuildInvariant b (slice_set states i (Answered record { fault = j.ran.bad; lines = lines })) (slice_set done i j.ran.directives) next v2
      keeps_kept lines stands = keeps_good b order i u at u.key c l next w flying still states done can w1 landed_so ended j reply_so.0 reply_so.1 is_judged good v2 keeping lines stands outcome_kept

      pub others_kept : (other : ℕ) (its : Begun) (flying' : List ChildInFlight) (mid later : ℕ → Type 0) → flying' ≡ without l.ticket flying → StaysStillBut l.ticket flying w w1 still mid
          → KeepsStillOutside (is_at_or_below (record_path (records_folder b.project) u.key)) (without l.ticket flying) mid later → BeginsApart b states i (Some l) other its next w flying still → IsBegun b other its next v2 flying' later
      others_kept other its flying' mid later flies stays holds apart =
          others_landed b order i u at u.key c l next w flying still states done can w1 landed_so other its v2 flying' later apart
          (kept_only (records_folder b.project) u.key u.out w w1 v2 (order.folders i u at) landed_so keeping.only)
          (left_kept b order i u at states done (begun_with u.key c (awaited.Child l)) next w flying still can w1 landed_so v2 keeping.only b.premise l.number (map (input_in c.target w1) j.names) ended
          (its_record b order i u at states done (begun_with u.key c (awaited.Child l)) next w flying still can l refl) keeping.left)
          flies
          (λ t ne stands stood. still_over (is_of (records_folder b.project) u.key) t l.ticket flying w w1 still mid later ne (only_out b order i u at w w1 landed_so) stays
          (still_widen (is_at_or_below (record_path (records_folder b.project) u.key)) (is_of (records_folder b.project) u.key) (without l.ticket flying) mid later (record_within (records_folder b.project) u.key) holds)
          stands stood)
