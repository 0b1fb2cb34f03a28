-- The records of a folder stay true over a session's steps.
use Rattle.std.proofs.Common.{◌≡◌, ◌∙◌, ◌⊎◌, ℕ, Bool, true, false, not, cond, if◌then◌else◌, List, [], ◌∷◌, Option, Some, None, Result, Ok, Err, inl, inr, refl, sym, ap, subst}
use Rattle.std.proofs.lemmas.Bool.{cases_Bool, false≢true}
use Rattle.std.proofs.lemmas.Slice.Eq.{bytes_eq-Decides}
use Rattle.std.specs.FinMap.{get, get-insert}
use Rattle.std.specs.Cmp.Lexicographic.{nat_list_cmp_total}
use Rattle.pb_build_result.specs.declared.fault.BuildFault.{BuildFault}
use Rattle.pb_build_result.specs.declared.summary.Summary.{Summary}
use Rattle.pb_command.specs.Judge.{judge}
use Rattle.pb_run_flight.specs.Events.{Event}
use Rattle.pb_run_flight.specs.declared.turn.Step.{Step}
use Rattle.pb_workspace_types.specs.declared.options.Options.{Options}
use Rattle.pb_place_types.specs.Paths.{is_at_or_below}
use Rattle.pb_place_types.specs.World.{World, Answers, AgreeBut, written, removed, is_same_path}
use Rattle.pb_place_types.proofs.MapLemmas.{get-kept, same_bytes}
use Rattle.pb_place_types.proofs.Within.{at_below, at_itself, at_then_below}
use Rattle.pb_build_result.specs.declared.bad_unit.BadUnit.{BadUnit}
use Rattle.pb_command_types.specs.declared.project.Project.{Project}
use Rattle.pb_command_types.specs.declared.project.Setup.{Setup}
use Rattle.pb_run.specs.UnitSteps.{TrustedRecords}
use Rattle.pb_run.specs.Invariants.{IsInOrder, records_folder}
use Rattle.pb_build_session.specs.declared.pick.PickBy.{PickBy}
use Rattle.pb_build_session.specs.declared.pick.PickBy.TheVariants.{First, Last}
use Rattle.pb_build_session.specs.declared.step.SessionStep.{SessionStep}
use Rattle.pb_build_session.specs.declared.step.SessionStep.TheVariants.{Write, Remove, Set, Unset, Build, Die, Fuse}
use Rattle.pb_store_soundness.specs.Records.{if_of_key, is_key, record_path, read_text, record_at, reading, records}
use Rattle.pb_store_soundness.specs.Sound.{Sound}
use Rattle.pb_store_soundness.proofs.Four.{outside}
use Rattle.pb_store_soundness.proofs.RecordPaths.{record_below}
use Rattle.pb_build_turns.specs.Ends.{TurnsEnd}
use Rattle.pb_build_turns.specs.Executor.{BuildState}
use Rattle.pb_build_turns.specs.History.{OnlyOf}
use Rattle.pb_build.specs.Ending.{Works, Builds}
use Rattle.pb_build.specs.Headline.{records_of, IsHonestBuild, RestsOn, UnitsOf}
use Rattle.pb_build.specs.Lasting.{ShareNoPath, Spares, SparingCourse, NothingIsSound, RecordsStayTrue, AnyBuildGives}
use Rattle.pb_build.specs.Session.{Point, Carries, Picked}
use Rattle.pb_build.proofs.Headline.{same_folder}
use Rattle.pb_build.proofs.Staying.{none_of}

-- A build changes files in the folder of its records alone.

only_within : (project : Project) (es : List (Event BadUnit)) (old new : World) → IsInOrder project → OnlyOf project es old new → AgreeBut (is_at_or_below (records_folder project)) old.files new.files
only_within project es old new order only q outside_it =
    only.files q (λ index u begun there. none_of (records_folder project) (records_folder project) u.key q (at_itself (records_folder project) (records_folder project) refl) (order.keys index u there) outside_it)

module _ {S : Type 0} (child : Answers) (Turns : S → List ℕ → List ℕ → Step → S → Type 0) (options : Options) (from last : S) where
  turns_within : (setup : Setup) (project : Project) (next : Option ℕ) (result : Result Summary BuildFault) (old new : BuildState) → IsInOrder project → TurnsEnd true child Turns setup project next from last result old new
      → AgreeBut (is_at_or_below (records_folder project)) old.world.files new.world.files
  turns_within setup project next (Ok summary) old new order ends = only_within project ends.es old.world new.world order (ends.only refl)
  turns_within setup project next (Err fault) old new order ends = only_within project ends.es old.world new.world order (ends.only refl)

  works_within : (result : Result Summary BuildFault) (old new : BuildState) → Works true child Turns options from last result old new → AgreeBut (is_at_or_below (records_of options old.world.variables)) old.world.files new.world.files
  works_within result old new (inl early) q outside_it = ap (λ (w : World). get w.files q) (early.none_began.stays refl)
  works_within result old new (inr units) q outside_it =
      let project = units.prepared.project in
      let is = units.prepares.is refl in
      let same : records_folder project ≡ records_of options old.world.variables = same_folder options old.world project is.project in
      turns_within units.prepared.setup project units.prepared.store.next result units.mid new units.prepares.order units.ends q (subst (λ (f : List ℕ). is_at_or_below f q ≡ false) (sym same) outside_it)
      ∙ ap (λ (w : World). get w.files q) (units.prepares.stays refl)

  pub builds_within : (result : Result Summary BuildFault) (old new : BuildState) → Builds true child Turns options from last result old new → AgreeBut (is_at_or_below (records_of options old.world.variables)) old.world.files new.world.files
  builds_within result old new builds = works_within builds.inner old record new { heard = builds.heard } builds.works

picked_within : (child : Answers) (options : Options) (pick : PickBy) (result : Result Summary BuildFault) (old new : BuildState) → Picked true child options pick result old new
    → AgreeBut (is_at_or_below (records_of options old.world.variables)) old.world.files new.world.files
picked_within child options First result old new builds = builds_within child _ options _ _ result old new builds
picked_within child options Last result old new builds = builds_within child _ options _ _ result old new builds

-- A build found units, or it changed nothing.

works_units : {S : Type 0} (child : Answers) (Turns : S → List ℕ → List ℕ → Step → S → Type 0) (options : Options) (from last : S) (result : Result Summary BuildFault) (old new : BuildState) → Works true child Turns options from last result old new
    → (new.world ≡ old.world) ⊎ UnitsOf child options old.world
works_units child Turns options from last result old new (inl early) = inl (early.none_began.stays refl)
works_units child Turns options from last result old new (inr units) =
    let is = units.prepares.is refl in inr record { project = units.prepared.project; toolchain = is.toolchain; is = is.project; says = is.says }

picked_units : (child : Answers) (options : Options) (pick : PickBy) (result : Result Summary BuildFault) (old new : BuildState) → Picked true child options pick result old new → (new.world ≡ old.world) ⊎ UnitsOf child options old.world
picked_units child options First result old new builds = works_units child _ options _ _ builds.inner old record new { heard = builds.heard } builds.works
picked_units child options Last result old new builds = works_units child _ options _ _ builds.inner old record new { heard = builds.heard } builds.works

-- A step.

pub nothing_is_sound : NothingIsSound
nothing_is_sound child folder files none = record { each = λ key r at. absurd (clash (sym (none key) ∙ at)) }
  where
    clash : {A : Type 0} {x : A} → None ≡ Some x → ⊥
    clash e = cc

module _ (child : Answers) (folder : List ℕ) where
  abbrev IsSound : World → Type 0
  IsSound w = Sound reading judge child folder w.files

  other_path : (path q : List ℕ) → is_at_or_below folder path ≡ false → is_at_or_below folder q ≡ true → is_same_path path q ≡ false
  other_path path q out within = elim (cases_Bool (is_same_path path q)) [
    | inl same ↦ absurd (false≢true (sym out ∙ ap (is_at_or_below folder) (sym ((bytes_eq-Decides q path).0 (same_bytes q path ∙ same))) ∙ within))
    | inr other ↦ other
  ]

  written_sound : (path text : List ℕ) (w : World) → is_at_or_below folder path ≡ false → IsSound w → IsSound (written path text w)
  written_sound path text w out = outside reading judge child folder w.files (written path text w).files
      (λ q within. get-insert nat_list_cmp_total w.files path text q ∙ ap (λ (b : Bool). cond b (Some text) (get w.files q)) (other_path path q out within))

  removed_sound : (path : List ℕ) (w : World) → ShareNoPath folder path → IsSound w → IsSound (removed path w)
  removed_sound path w apart = outside reading judge child folder w.files (removed path w).files
      (λ q within. get-kept w.files (λ p. not (is_at_or_below path p)) q ∙ ap (λ (b : Bool). cond (not b) (get w.files q) None) (apart q within))

  -- a folder that was removed whole has no record
  none_left : (path : List ℕ) (w : World) → is_at_or_below path folder ≡ true → (key : List ℕ) → records folder (removed path w) key ≡ None
  unfolding record_at
  none_left path w above key = by (is_key key) refl
    where
      by : (b : Bool) → is_key key ≡ b → (if b then if_of_key key (read_text reading (get (removed path w).files (record_path folder key))) else None) ≡ None
      by true is =
          ap (λ (o : Option (List ℕ)). if_of_key key (read_text reading o))
          (get-kept w.files (λ p. not (is_at_or_below path p)) (record_path folder key)
          ∙ ap (λ (b : Bool). cond (not b) (get w.files (record_path folder key)) None) (at_below path (record_path folder key) (at_then_below path folder (record_path folder key) above (record_below folder key is))))
      by false is = refl

  build_sound : (options : Options) (pick : PickBy) (before after : Point) → ((records_of options before.moment.world.variables ≡ folder) × IsHonestBuild child options before.moment.world) ⊎ ShareNoPath folder (records_of options before.moment.world.variables)
      → Carries child (Build options pick) before after → IsSound before.moment.world → IsSound after.moment.world
  build_sound options pick before after (inl (same, honest)) built sound =
      let there : RestsOn TrustedRecords child options before.moment.world = (subst (λ (f : List ℕ). Sound reading judge child f before.moment.world.files) (sym same) sound, honest) in
      subst IsSound (sym (ap (λ (m : BuildState). m.world) built.behind)) (subst (λ (f : List ℕ). Sound reading judge child f built.ended.world.files) same (built.headline refl TrustedRecords there).records)
  build_sound options pick before after (inr apart) built sound =
      subst IsSound (sym (ap (λ (m : BuildState). m.world) built.behind))
      (outside reading judge child folder before.moment.world.files built.ended.world.files (λ q within. picked_within child options pick built.answer before.moment built.ended built.picked q (apart q within)) sound)

  step_sound : (step : SessionStep) (before after : Point) → Spares child folder step before.moment.world → Carries child step before after → IsSound before.moment.world → IsSound after.moment.world
  step_sound (Write path text) before after out e sound = subst (λ (p : Point). IsSound p.moment.world) (sym e) (written_sound path text before.moment.world out sound)
  step_sound (Remove path) before after (inl above) e sound =
      subst (λ (p : Point). IsSound p.moment.world) (sym e) (nothing_is_sound child folder (removed path before.moment.world).files (none_left path before.moment.world above))
  step_sound (Remove path) before after (inr apart) e sound = subst (λ (p : Point). IsSound p.moment.world) (sym e) (removed_sound path before.moment.world apart sound)
  step_sound (Set name value) before after out e sound = subst (λ (p : Point). IsSound p.moment.world) (sym e) sound
  step_sound (Unset name) before after out e sound = subst (λ (p : Point). IsSound p.moment.world) (sym e) sound
  step_sound (Die key death) before after out same sound = subst (λ (p : Point). IsSound p.moment.world) (sym same) sound
  step_sound (Fuse number) before after out same sound = subst (λ (p : Point). IsSound p.moment.world) (sym same) sound
  step_sound (Build options pick) before after spares built sound = elim (picked_units child options pick built.answer before.moment built.ended built.picked) [
    | inl same ↦ subst IsSound (sym (ap (λ (m : BuildState). m.world) built.behind)) (subst IsSound (sym same) sound)
    | inr units ↦ build_sound options pick before after (spares units) built sound
  ]

  course_sound : (steps : List SessionStep) (before after : Point) → SparingCourse child folder steps before after → IsSound before.moment.world → IsSound after.moment.world
  course_sound [] before after same sound = subst (λ (p : Point). IsSound p.moment.world) (sym same) sound
  course_sound (step ∷ steps) before after (spares, (mid, taken, rest)) sound = course_sound steps mid after rest (step_sound step before mid spares taken sound)

-- The laws.

pub records_stay_true : RecordsStayTrue
records_stay_true child folder steps before after course sound = course_sound child folder steps before after course sound

pub any_build_gives : AnyBuildGives
any_build_gives child options pick steps before mid after course sound honest built =
    built.headline refl TrustedRecords (course_sound child (records_of options mid.moment.world.variables) steps before mid course sound, honest)
