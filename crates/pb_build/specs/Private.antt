-- What private functions of the build promise to each other. Nobody needs this file to know what a
-- build produces.
use Rattle.std.specs.Prelude.{◌≡◌, Ok, Err}
use Rattle.pb_build_result.specs.declared.fault.BuildFault.{BuildFault}
use Rattle.pb_build_result.specs.declared.fault.BuildFault.TheVariants.{Plan, Device, OutOfMemory}
use Rattle.pb_build_result.specs.declared.fault.DeviceFault.TheVariants as device
use Rattle.pb_build_result.specs.declared.fault.Refusal.{Refusal}
use Rattle.pb_build_result.specs.declared.fault.Refusal.TheVariants as refusal
use Rattle.pb_feature.specs.Faults as feature
use Rattle.pb_feature.specs.declared.fault.FeatureFault.{FeatureFault}
use Rattle.pb_feature_types.specs.declared.features.Features.{Features}
use Rattle.pb_workspace_types.specs.declared.fault.LoadFault.{LoadFault}
use Rattle.pb_workspace_types.specs.declared.fault.LoadFault.TheVariants as load
use Rattle.pb_workspace_types.specs.declared.options.Options.{Options}
use Rattle.pb_workspace_types.specs.declared.options.Selection.{Selection}
use Rattle.pb_workspace_types.specs.declared.workspace.Workspace.{Workspace}
use Rattle.pb_run.specs.Steps.{device_fault}
use Rattle.pb_store.specs.declared.fault.OpenFault.{OpenFault}
use Rattle.pb_store.specs.declared.fault.OpenFault.TheVariants as open_fault
use Rattle.pb_unit.specs.Plan as plan
use Rattle.pb_unit.specs.declared.fault.PlanFault.{PlanFault}
use Rattle.pb_workspace.specs.Selected.{selected}
use Rattle.pb_build.specs.Planning.{IsFeatured}

-- the fault is not a refusal
abbrev pub IsUnrefused : BuildFault → Type 0
IsUnrefused (Plan why) = ⊥
IsUnrefused _ = Unit {0}

-- the fault with which a build ends if its workspace cannot be read
abbrev pub fault_of_load : LoadFault → BuildFault
fault_of_load (load.Place path fault) = Device path (device.Place fault)
fault_of_load load.OutOfMemory = OutOfMemory
fault_of_load refused = Plan (refusal.Load refused)

-- why a workspace that was read yields no project
pub data HasNoProject (options : Options) (ws : Workspace) : Refusal → Type 0 where
  by_selection : (fault : LoadFault) (told : selected ws options ≡ Err fault) → HasNoProject options ws (refusal.Load fault)
  by_feature : (fault : FeatureFault) (selection : Selection) (chosen : selected ws options ≡ Ok selection) (told : feature.Refuses ws selection fault) → HasNoProject options ws (refusal.Feature fault)
  by_plan : (fault : PlanFault) (selection : Selection) (features : Features) (chosen : selected ws options ≡ Ok selection) (featured : IsFeatured ws selection features)
      (told : plan.Refuses ws features selection options.profile fault) → HasNoProject options ws (refusal.Plan fault)

abbrev pub IsRefusedOf : Options → Workspace → BuildFault → Type 0
IsRefusedOf options ws (Plan why) = HasNoProject options ws why
IsRefusedOf options ws OutOfMemory = Unit {0}
IsRefusedOf options ws _ = ⊥

-- the fault with which a build ends if its store cannot be opened
abbrev pub fault_of_opening : OpenFault → BuildFault
fault_of_opening (open_fault.Place path fault) = device_fault path fault
fault_of_opening open_fault.OutOfMemory = OutOfMemory
