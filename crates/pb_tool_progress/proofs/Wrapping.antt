-- A turn with another one inside: if it decides as that one does, a build of a plan by it is one by the other.
use Rattle.std.proofs.Common.{ℕ, Bool, List, Result}
use Rattle.pb_build_result.specs.declared.fault.BuildFault.{BuildFault}
use Rattle.pb_build_result.specs.declared.summary.Summary.{Summary}
use Rattle.pb_build.specs.AnyPlan.{BuildsOn, WorksOn, stopped, worked}
use Rattle.pb_build.specs.declared.builder.BuildPlan.{BuildPlan}
use Rattle.pb_build.proofs.Lending.{ends_as}
use Rattle.pb_build_turns.specs.Executor.{BuildState}
use Rattle.pb_place_types.specs.World.{Answers}
use Rattle.pb_run_flight.specs.declared.turn.Step.{Step}
use Rattle.pb_workspace_types.specs.declared.options.Options.{Options}

module _ {S R : Type 0} (Turns : S → List ℕ → List ℕ → Step → S → Type 0) (Others : R → List ℕ → List ℕ → Step → R → Type 0) (image : S → R)
    (turns_as : (now : S) (ready flying : List ℕ) (step : Step) (next : S) → Turns now ready flying step next → Others (image now) ready flying step (image next))
    (is_modelled : Bool) (child : Answers) (options : Options) (plan : Result BuildPlan BuildFault) where
  works_on_as : (from last : S) (result : Result Summary BuildFault) (old new : BuildState) → WorksOn is_modelled child Turns options plan from last result old new → WorksOn is_modelled child Others options plan (image from) (image last) result old new
  works_on_as from _ _ _ _ (stopped fault old new unready) = stopped fault old new unready
  works_on_as from _ _ _ _ (worked prepared last result old mid new ready ends) =
      worked prepared (image last) result old mid new ready (ends_as Turns Others image turns_as is_modelled child options from last prepared.setup prepared.project prepared.store.next result mid new ends)

  pub builds_on_as : (from last : S) (result : Result Summary BuildFault) (old new : BuildState) → BuildsOn is_modelled child Turns options plan from last result old new → BuildsOn is_modelled child Others options plan (image from) (image last) result old new
  builds_on_as from last result old new builds = record { inner = builds.inner; heard = builds.heard; works = works_on_as from last builds.inner old _ builds.works; closes = builds.closes }
