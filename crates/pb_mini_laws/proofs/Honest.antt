-- The small compiler is an honest child of a build with these words; so the headline has no premise on the child.
use Rattle.std.proofs.Common.{◌⊎◌, ◌≡◌, inl, inr, ℕ, true, List, [], ◌∷◌, Some, take, Result, refl, sym, subst}
use Rattle.pb_build_result.specs.declared.bad_unit.BadUnit.{BadUnit}
use Rattle.pb_build_result.specs.declared.fault.BuildFault.{BuildFault}
use Rattle.pb_build_result.specs.declared.summary.Summary.{Summary}
use Rattle.pb_command.specs.Judge.{judge}
use Rattle.pb_run_flight.specs.Events.{Event}
use Rattle.pb_run_flight.specs.declared.turn.Step.{Step}
use Rattle.pb_mini_laws.specs.Honest.{CanTell, IsOfProject, small_compiler}
use Rattle.pb_mini_laws.proofs.Viewing.{small_compiler_is_honest}
use Rattle.pb_workspace_types.specs.declared.options.Options.{Options}
use Rattle.pb_place_types.specs.World.{World, from_nothing}
use Rattle.pb_command_types.specs.declared.project.Project.{Project}
use Rattle.pb_command_types.specs.Targets.{unit_at}
use Rattle.pb_run.specs.UnitSteps.{TrustedRecords, command_in, build_context}
use Rattle.pb_run.specs.Outcome.{directives_of, outcomes}
use Rattle.pb_build_session.specs.declared.step.SessionStep.{SessionStep}
use Rattle.pb_build_session.specs.declared.step.SessionStep.TheVariants.{Write, Remove, Set, Unset, Build, Die, Fuse}
use Rattle.pb_store_soundness.specs.Records.{reading}
use Rattle.pb_store_soundness.specs.Sound.{Sound}
use Rattle.pb_build_turns.specs.Executor.{BuildState}
use Rattle.pb_unit.specs.Plan.{IsPlan}
use Rattle.pb_unit.specs.declared.plan.Planned.{Planned}
use Rattle.pb_workspace.proofs.Accepted.{target_kept}
use Rattle.pb_build.specs.Environment.{environment_of}
use Rattle.pb_build.specs.Headline.{records_of, IsHonestBuild, ByTurns, GivesCleanResult, Headline}
use Rattle.pb_build.specs.Lasting.{AnyBuildGives, ShareNoPath, SparingCourse, Spares}
use Rattle.pb_build.specs.Planning.{IsProject}
use Rattle.pb_build.specs.Result.{setup_of}
use Rattle.pb_build.specs.Session.{Point}
use Rattle.pb_mini_laws.specs.Laws.{SmallBuildsAreHonest, SmallBuildsGive, SmallSessionsGive}
use Rattle.pb_mini_laws.specs.Small.{IsSmallBuild, SmallCourse, SparesBySmall}
use Rattle.pb_mini_laws.proofs.Loading.{IsLaid, workspace_laid}
use Rattle.pb_mini_laws.proofs.Placing.{project_paths, target_at}
use Rattle.pb_mini_laws.proofs.SourcesFound.{At}
use Rattle.pb_mini_laws.proofs.Sourcing.{unit_source}

-- the project of such a build is as the law of honesty wants it
module _ (options : Options) (w : World) (small : IsSmallBuild options w) (project : Project) (is : IsProject options (environment_of options w.variables).target w project) where
  laid : IsLaid project.workspace
  laid = workspace_laid options.manifest (environment_of options w.variables).target w project.workspace small.manifest small.files is.selected.read

  target : At project.workspace.target
  target = subst At (sym (target_kept options.manifest (environment_of options w.variables).target w project.workspace is.selected.read)) (target_at options w.variables small.manifest)

  planned : IsPlan project.workspace project.features is.selection project.profile project.plan
  planned = subst (λ profile. IsPlan project.workspace project.features is.selection profile project.plan) (sym is.profile) is.planned

  of_project : (index : ℕ) (u : Planned) → unit_at project index ≡ Some u → IsOfProject project u
  of_project index u at = record {
    settled = laid.settled;
    paths = project_paths project is.selection laid target planned;
    source = unit_source project is.selection planned laid.packages index u at;
    selection = is.selection;
    planned = planned;
    index = index;
    there = at;
  }

pub small_builds_are_honest : SmallBuildsAreHonest
small_builds_are_honest options w small units index u v at alike seen =
    small_compiler_is_honest (setup_of options (environment_of options w.variables) units.toolchain) units.project u
    (directives_of (take index (outcomes small_compiler (setup_of options (environment_of options w.variables) units.toolchain) units.project (from_nothing (environment_of options w.variables).target w)))) v
    (small.setup units.toolchain) (of_project options w small units.project units.is index u at)
    (subst (CanTell (command_in (build_context TrustedRecords small_compiler (setup_of options (environment_of options w.variables) units.toolchain) units.project (from_nothing (environment_of options w.variables).target w)) index u)) (sym seen)
    (small.can_tell units.project units.toolchain units.is units.says index u at))

-- whatever the schedule
pub small_gives : (Schedule : Project → List (Event BadUnit) → Type 0) (options : Options) (result : Result Summary BuildFault) (old new : BuildState) → Headline true small_compiler Schedule options result old new
    → IsSmallBuild options old.world → Sound reading judge small_compiler (records_of options old.world.variables) old.world.files → GivesCleanResult TrustedRecords small_compiler Schedule options result old new
small_gives Schedule options result old new headline small sound = headline refl TrustedRecords (sound, small_builds_are_honest options old.world small)

pub small_builds_give : {S : Type 0} (Turns : S → List ℕ → List ℕ → Step → S → Type 0) → SmallBuildsGive Turns
small_builds_give Turns from options result old new = small_gives (ByTurns Turns from) options result old new

-- sessions
spares : (folder : List ℕ) (step : SessionStep) (w : World) → SparesBySmall folder step w → Spares small_compiler folder step w
spares folder (Write path text) w is = is
spares folder (Remove path) w is = is
spares folder (Set name value) w is = is
spares folder (Unset name) w is = is
spares folder (Die key death) w is = is
spares folder (Fuse number) w is = is
spares folder (Build options pick) w is = λ units. by (is units)
  where
    by : (IsSmallBuild options w × (records_of options w.variables ≡ folder)) ⊎ ShareNoPath folder (records_of options w.variables) → ((records_of options w.variables ≡ folder) × IsHonestBuild small_compiler options w) ⊎ ShareNoPath folder (records_of options w.variables)
    by (inl (small, own)) = inl (own, small_builds_are_honest options w small)
    by (inr apart) = inr apart

course : (folder : List ℕ) (steps : List SessionStep) (before after : Point) → SmallCourse folder steps before after → SparingCourse small_compiler folder steps before after
course folder [] before after is = is
course folder (step ∷ steps) before after (spared, (mid, takes, rest)) = (spares folder step before.moment.world spared, (mid, takes, course folder steps mid after rest))

-- over the law of sessions with any child
module _ (any_build_gives : AnyBuildGives) where
  pub small_sessions_give : SmallSessionsGive
  small_sessions_give options pick steps before mid after sound taken small takes =
      any_build_gives small_compiler options pick steps before mid after (course (records_of options mid.moment.world.variables) steps before mid taken) sound (small_builds_are_honest options mid.moment.world small) takes
