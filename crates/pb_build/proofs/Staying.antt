-- A build leaves its sources as they were, and no child in flight.
use Rattle.std.proofs.Common.{◌≡◌, ◌∙◌, ◌||◌, Bool, true, false, List, [], ℕ, Option, Result, Ok, Err, inl, inr, ap, subst}
use Rattle.std.specs.Prelude.{IsTrue, MatchResult}
use Rattle.pb_build_result.specs.declared.fault.BuildFault.{BuildFault}
use Rattle.pb_build_result.specs.declared.summary.Summary.{Summary}
use Rattle.pb_run_flight.specs.Events.{Event}
use Rattle.pb_run_flight.specs.declared.turn.Step.{Step}
use Rattle.pb_workspace_types.specs.declared.options.Options.{Options}
use Rattle.pb_place_types.specs.Paths.{is_at_or_below}
use Rattle.pb_place_types.specs.World.{World, Answers, from_nothing}
use Rattle.pb_place_types.proofs.Folders.{sources_alike}
use Rattle.pb_place_types.proofs.Within.{at_below, at_then_below, outside_within}
use Rattle.pb_build_result.specs.declared.bad_unit.BadUnit.{BadUnit}
use Rattle.pb_command_types.specs.declared.project.Project.{Project}
use Rattle.pb_command_types.specs.declared.project.Setup.{Setup}
use Rattle.pb_run.specs.Invariants.{IsInOrder, records_folder}
use Rattle.pb_store_soundness.specs.Apart.{is_of}
use Rattle.pb_store_soundness.specs.Records.{is_key, out_of, record_path, records}
use Rattle.pb_store_soundness.proofs.RecordPaths.{out_in, record_below}
use Rattle.pb_build_turns.specs.Ends.{TurnsEnd}
use Rattle.pb_build_turns.specs.Executor.{BuildState}
use Rattle.pb_build_turns.specs.History.{OnlyOf}
use Rattle.pb_workspace.proofs.Accepted.{target_kept}
use Rattle.pb_build.specs.AnyPlan as plan
use Rattle.pb_build.specs.AnyPlan.{BuildsOn, Readies, WorksOn}
use Rattle.pb_build.specs.Ending.{Works, Builds}
use Rattle.pb_build.specs.Environment.{environment_of}
use Rattle.pb_build.specs.Kept.{SourcesStay}
use Rattle.pb_build.specs.declared.builder.BuildPlan.{BuildPlan}
use Rattle.pb_build.specs.declared.builder.Prepared.{Prepared}
use Rattle.pb_build.proofs.Preparing.{may_ready_landed}

-- what lies outside the target folder is no path of a unit
pub none_of : (target folder key q : List ℕ) → is_at_or_below target folder ≡ true → is_key key ≡ true → is_at_or_below target q ≡ false → is_of folder key q ≡ false
none_of target folder key q above is outside =
    ap (λ b. b || is_at_or_below (record_path folder key) q) (outside_within target (out_of folder key) q (at_below target (out_of folder key) (at_then_below target folder (out_of folder key) above (out_in folder key is))) outside)
    ∙ outside_within target (record_path folder key) q (at_below target (record_path folder key) (at_then_below target folder (record_path folder key) above (record_below folder key is))) outside

-- the folders and records of units are none of the sources
only_stay : (project : Project) (es : List (Event BadUnit)) (old new : World) → IsInOrder project → OnlyOf project es old new → SourcesStay project.workspace.target old new
only_stay project es old new order only =
    sources_alike project.workspace.target old new
    (λ q outside. only.files q (λ index u begun there. none_of project.workspace.target (records_folder project) u.key q order.target (order.keys index u there) outside)) only.variables

module _ {S : Type 0} (is_modelled : Bool) (child : Answers) (Turns : S → List ℕ → List ℕ → Step → S → Type 0) (options : Options) (from last : S) where
  turns_stay : (setup : Setup) (project : Project) (next : Option ℕ) (result : Result Summary BuildFault) (old new : BuildState) → IsTrue is_modelled → IsInOrder project → TurnsEnd is_modelled child Turns setup project next from last result old new
      → SourcesStay project.workspace.target old.world new.world
  turns_stay setup project next (Ok summary) old new told order ends = only_stay project ends.es old.world new.world order (ends.only told)
  turns_stay setup project next (Err fault) old new told order ends = only_stay project ends.es old.world new.world order (ends.only told)

  works_stay : (result : Result Summary BuildFault) (old new : BuildState) → IsTrue is_modelled → Works is_modelled child Turns options from last result old new → SourcesStay (environment_of options old.world.variables).target old.world new.world
  works_stay result old new told (inl early) = ap (from_nothing (environment_of options old.world.variables).target) (early.none_began.stays told)
  works_stay result old new told (inr units) =
      let project = units.prepared.project in
      let at = environment_of options old.world.variables in
      let is = units.prepares.is told in
      let same : project.workspace.target ≡ at.target = target_kept options.manifest at.target old.world project.workspace is.project.selected.read in
      let after = turns_stay units.prepared.setup project units.prepared.store.next result units.mid new told units.prepares.order units.ends in
      let before = ap (from_nothing project.workspace.target) (units.prepares.stays told) in
      subst (λ (t : List ℕ). SourcesStay t old.world new.world) same (after ∙ before)

  pub builds_stay : (result : Result Summary BuildFault) (old new : BuildState) → IsTrue is_modelled → Builds is_modelled child Turns options from last result old new → SourcesStay (environment_of options old.world.variables).target old.world new.world
  builds_stay result old new told builds = works_stay builds.inner old record new { heard = builds.heard } told builds.works

  turns_landed : (setup : Setup) (project : Project) (next : Option ℕ) (result : Result Summary BuildFault) (old new : BuildState) → TurnsEnd is_modelled child Turns setup project next from last result old new → new.counts.starts.flying ≡ []
  turns_landed setup project next (Ok summary) old new ends = ends.landed
  turns_landed setup project next (Err fault) old new ends = ends.landed

  works_landed : (result : Result Summary BuildFault) (old new : BuildState) → Works is_modelled child Turns options from last result old new → new.counts.starts.flying ≡ []
  works_landed result old new (inl early) = early.none_began.landed
  works_landed result old new (inr units) = turns_landed units.prepared.setup units.prepared.project units.prepared.store.next result units.mid new units.ends

  pub builds_landed : (result : Result Summary BuildFault) (old new : BuildState) → Builds is_modelled child Turns options from last result old new → new.counts.starts.flying ≡ []
  builds_landed result old new builds = works_landed builds.inner old record new { heard = builds.heard } builds.works

-- A build of a plan of any moment.

unready_landed : (is_modelled : Bool) (child : Answers) (options : Options) (p : Result BuildPlan BuildFault) (fault : BuildFault) (old new : BuildState) → Readies is_modelled child options p (Err fault) old new → old.counts.starts.flying ≡ [] → new.counts.starts.flying ≡ []
unready_landed is_modelled child options (Err e) fault old new unready none = ap (λ (m : BuildState). m.counts.starts.flying) unready.1 ∙ none
unready_landed is_modelled child options (Ok p) fault old new unready none = may_ready_landed fault old.counts.starts new.counts.starts unready.may none

module _ {S : Type 0} (is_modelled : Bool) (child : Answers) (Turns : S → List ℕ → List ℕ → Step → S → Type 0) (options : Options) (from last : S) where
  on_landed : (p : Result BuildPlan BuildFault) (last : S) (result : Result Summary BuildFault) (old new : BuildState) → old.counts.starts.flying ≡ [] → WorksOn is_modelled child Turns options p from last result old new → new.counts.starts.flying ≡ []
  on_landed p _ _ _ _ none (plan.stopped fault old new unready) = unready_landed is_modelled child options p fault old new unready none
  on_landed p _ _ _ _ none (plan.worked prepared last result old mid new ready ends) = turns_landed is_modelled child Turns options from last prepared.setup prepared.project prepared.store.next result mid new ends

  stopped_kept : (p : Result BuildPlan BuildFault) (fault : BuildFault) (old new : BuildState) → IsTrue is_modelled → Readies is_modelled child options p (Err fault) old new → MatchResult p (λ x. SourcesStay x.project.workspace.target old.world new.world) (λ e. new.world ≡ old.world)
  stopped_kept (Err e) fault old new told unready = ap (λ (m : BuildState). m.world) unready.1
  stopped_kept (Ok x) fault old new told unready = ap (from_nothing x.project.workspace.target) (unready.stays told)

  worked_kept : (p : Result BuildPlan BuildFault) (prepared : Prepared) (last : S) (result : Result Summary BuildFault) (old mid new : BuildState) → IsTrue is_modelled → Readies is_modelled child options p (Ok prepared) old mid
      → TurnsEnd is_modelled child Turns prepared.setup prepared.project prepared.store.next from last result mid new → MatchResult p (λ x. SourcesStay x.project.workspace.target old.world new.world) (λ e. new.world ≡ old.world)
  worked_kept (Err e) prepared last result old mid new told ready ends = let (failed, same) = ready in absurd (no_plan prepared e failed)
    where
      no_plan : (prepared : Prepared) (e : BuildFault) → Ok prepared ≡ Err e → ⊥
      no_plan prepared e is = cc
  worked_kept (Ok x) prepared last result old mid new told ready ends =
      subst (λ (p : Project). SourcesStay p.workspace.target old.world new.world) ready.project
      (turns_stay is_modelled child Turns options from last prepared.setup prepared.project prepared.store.next result mid new told ready.order ends ∙ ap (from_nothing prepared.project.workspace.target) (ready.stays told))

  on_kept : (p : Result BuildPlan BuildFault) (last : S) (result : Result Summary BuildFault) (old new : BuildState) → IsTrue is_modelled → WorksOn is_modelled child Turns options p from last result old new
      → MatchResult p (λ x. SourcesStay x.project.workspace.target old.world new.world) (λ e. new.world ≡ old.world)
  on_kept p _ _ _ _ told (plan.stopped fault old new unready) = stopped_kept p fault old new told unready
  on_kept p _ _ _ _ told (plan.worked prepared last result old mid new ready ends) = worked_kept p prepared last result old mid new told ready ends

  pub built_landed : (p : Result BuildPlan BuildFault) (result : Result Summary BuildFault) (old new : BuildState) → old.counts.starts.flying ≡ [] → BuildsOn is_modelled child Turns options p from last result old new → new.counts.starts.flying ≡ []
  built_landed p result old new none builds = on_landed p last builds.inner old record new { heard = builds.heard } none builds.works

  pub built_kept : (p : Result BuildPlan BuildFault) (result : Result Summary BuildFault) (old new : BuildState) → IsTrue is_modelled → BuildsOn is_modelled child Turns options p from last result old new
      → MatchResult p (λ x. SourcesStay x.project.workspace.target old.world new.world) (λ e. new.world ≡ old.world)
  built_kept p result old new told builds = on_kept p last builds.inner old record new { heard = builds.heard } told builds.works
