-- What a build is about: the workspace that the build reads, the selected packages, their features,
-- and the plan. If there is no plan, these definitions say why the build is refused.
use Rattle.std.specs.Prelude.{◌≡◌, ℕ, List, Ok, Err}
use Rattle.pb_place_types.specs.World.{World}
use Rattle.pb_workspace.specs.Loaded.{workspace_of}
use Rattle.pb_workspace.specs.Selected.{selected}
use Rattle.pb_workspace_types.specs.declared.fault.LoadFault.{LoadFault}
use Rattle.pb_workspace_types.specs.declared.options.Options.{Options}
use Rattle.pb_workspace_types.specs.declared.options.Selection.{Selection}
use Rattle.pb_workspace_types.specs.declared.workspace.Workspace.{Workspace}
use Rattle.pb_feature.specs.Faults as feature
use Rattle.pb_feature.specs.Resolved.{IsResolved}
use Rattle.pb_feature.specs.declared.fault.FeatureFault.{FeatureFault}
use Rattle.pb_feature_types.specs.declared.features.Features.{Features}
use Rattle.pb_unit.specs.Plan as plan
use Rattle.pb_unit.specs.declared.fault.PlanFault.{PlanFault}
use Rattle.pb_command_types.specs.declared.project.Project.{Project}
use Rattle.pb_build_result.specs.declared.fault.BuildFault.{BuildFault}
use Rattle.pb_build_result.specs.declared.fault.BuildFault.TheVariants as told
use Rattle.pb_build_result.specs.declared.fault.Refusal.{Refusal}
use Rattle.pb_build_result.specs.declared.fault.Refusal.TheVariants.{Load, Feature, Plan}

-- the build reads this workspace, and the build's options select these packages in the workspace
pub record IsSelected (options : Options) (target : List ℕ) (w : World) (ws : Workspace) (selection : Selection) : Type 0 where
  pub read : workspace_of options.manifest target w ≡ Ok ws
  pub chosen : selected ws options ≡ Ok selection

-- no feature is refused, and the selection turns on these features
pub record IsFeatured (ws : Workspace) (selection : Selection) (features : Features) : Type 0 where
  pub right : (fault : FeatureFault) → feature.Refuses ws selection fault → ⊥
  pub resolved : IsResolved ws selection features

-- the build has this project: the workspace, the features, the profile and the plan are those of
-- the build
pub record IsProject (options : Options) (target : List ℕ) (w : World) (project : Project) : Type 0 where
  pub selection : Selection
  pub selected : IsSelected options target w project.workspace selection
  pub featured : IsFeatured project.workspace selection project.features
  pub profile : project.profile ≡ options.profile
  pub planned : plan.IsPlan project.workspace project.features selection options.profile project.plan

-- Why a build is refused. The reasons are checked in this order: the workspace cannot be read,
-- nothing can be selected, the features are refused, the plan is refused.
pub data IsRefused (options : Options) (target : List ℕ) (w : World) : Refusal → Type 0 where
  by_load : (fault : LoadFault) (told : workspace_of options.manifest target w ≡ Err fault) → IsRefused options target w (Load fault)
  by_selection : (fault : LoadFault) (ws : Workspace) (read : workspace_of options.manifest target w ≡ Ok ws) (told : selected ws options ≡ Err fault) → IsRefused options target w (Load fault)
  by_feature : (fault : FeatureFault) (ws : Workspace) (selection : Selection) (is : IsSelected options target w ws selection) (told : feature.Refuses ws selection fault) → IsRefused options target w (Feature fault)
  by_plan : (fault : PlanFault) (ws : Workspace) (selection : Selection) (features : Features) (is : IsSelected options target w ws selection) (featured : IsFeatured ws selection features)
      (told : plan.Refuses ws features selection options.profile fault) → IsRefused options target w (Plan fault)

-- if the fault is a refusal, the build is refused in this world for this reason
abbrev pub IsToldRefusal : Options → List ℕ → World → BuildFault → Type 0
IsToldRefusal options target w (told.Plan why) = IsRefused options target w why
IsToldRefusal options target w _ = Unit {0}
