-- Refusals, told as faults of a build.
use Rattle.std.proofs.Common.{◌≡◌, ◌⊎◌, ℕ, List, false, Ok, Err, refl, sym, subst, inl, inr}
use Rattle.pb_feature.specs.Faults as feature
use Rattle.pb_feature.specs.declared.fault.FeatureFault.{FeatureFault}
use Rattle.pb_feature_types.specs.declared.features.Features.{Features}
use Rattle.pb_place_types.specs.World.{World}
use Rattle.pb_build_result.specs.declared.fault.BuildFault.{BuildFault}
use Rattle.pb_build_result.specs.declared.fault.BuildFault.TheVariants.{Plan, OutOfMemory}
use Rattle.pb_build_result.specs.declared.fault.Refusal.{Refusal}
use Rattle.pb_build_result.specs.declared.fault.Refusal.TheVariants as refusal
use Rattle.pb_unit.specs.Plan as plan
use Rattle.pb_unit.specs.declared.fault.PlanFault.{PlanFault}
use Rattle.pb_workspace_package.specs.Causes.{is_outside}
use Rattle.pb_workspace.specs.Loaded.{workspace_of}
use Rattle.pb_workspace.specs.Selected.{selected}
use Rattle.pb_workspace_types.specs.declared.fault.LoadFault.{LoadFault}
use Rattle.pb_workspace_types.specs.declared.fault.LoadFault.TheVariants as load
use Rattle.pb_workspace_types.specs.declared.options.Options.{Options}
use Rattle.pb_workspace_types.specs.declared.options.Selection.{Selection}
use Rattle.pb_workspace_types.specs.declared.workspace.Workspace.{Workspace}
use Rattle.pb_build.specs.Planning.{IsFeatured, IsToldRefusal, IsRefused, by_load, by_selection, by_feature, by_plan}
use Rattle.pb_build.specs.Private.{fault_of_load, IsUnrefused, IsRefusedOf, HasNoProject}
use Rattle.pb_build.specs.Private as private

-- a workspace that cannot be read
pub load_fault_told : (options : Options) (target : List ℕ) (w : World) (fault : LoadFault) → (is_outside fault ≡ false → workspace_of options.manifest target w ≡ Err fault) → IsToldRefusal options target w (fault_of_load fault)
load_fault_told options target w (load.Place path fault) told = tt
load_fault_told options target w load.OutOfMemory told = tt
load_fault_told options target w refused told = by_load refused (told refl)

-- a workspace that was read and has no project
pub unselected : (options : Options) (ws : Workspace) (e : BuildFault) → (e ≡ OutOfMemory) ⊎ ((fault : LoadFault) × (e ≡ Plan (refusal.Load fault)) × (selected ws options ≡ Err fault)) → IsRefusedOf options ws e
unselected options ws e (inl none) = subst (IsRefusedOf options ws) (sym none) tt
unselected options ws e (inr (fault, is, told)) = subst (IsRefusedOf options ws) (sym is) (private.by_selection fault told)

pub unresolved : (options : Options) (ws : Workspace) (selection : Selection) (e : BuildFault) → selected ws options ≡ Ok selection
    → (e ≡ OutOfMemory) ⊎ ((fault : FeatureFault) × (e ≡ Plan (refusal.Feature fault)) × feature.Refuses ws selection fault) → IsRefusedOf options ws e
unresolved options ws selection e chosen (inl none) = subst (IsRefusedOf options ws) (sym none) tt
unresolved options ws selection e chosen (inr (fault, is, told)) = subst (IsRefusedOf options ws) (sym is) (private.by_feature fault selection chosen told)

-- why a plan was not made under a profile, as a fault of a build
abbrev pub Stops : Workspace → Selection → Features → List ℕ → BuildFault → Type 0
Stops ws selection features profile e = (e ≡ OutOfMemory) ⊎ ((fault : PlanFault) × (e ≡ Plan (refusal.Plan fault)) × plan.Refuses ws features selection profile fault)

pub unplanned : (options : Options) (ws : Workspace) (selection : Selection) (features : Features) (e : BuildFault) → selected ws options ≡ Ok selection → IsFeatured ws selection features
    → Stops ws selection features options.profile e → IsRefusedOf options ws e
unplanned options ws selection features e chosen featured (inl none) = subst (IsRefusedOf options ws) (sym none) tt
unplanned options ws selection features e chosen featured (inr (fault, is, told)) = subst (IsRefusedOf options ws) (sym is) (private.by_plan fault selection features chosen featured told)

-- the refusals of a workspace are refusals of the world in which it was read
no_project : (options : Options) (target : List ℕ) (w : World) (ws : Workspace) (why : Refusal) → workspace_of options.manifest target w ≡ Ok ws → HasNoProject options ws why → IsRefused options target w why
no_project options target w ws _ read (private.by_selection fault told) = by_selection fault ws read told
no_project options target w ws _ read (private.by_feature fault selection chosen told) = by_feature fault ws selection record { read = read; chosen = chosen } told
no_project options target w ws _ read (private.by_plan fault selection features chosen featured told) = by_plan fault ws selection features record { read = read; chosen = chosen } featured told

pub refused_there : (options : Options) (target : List ℕ) (w : World) (ws : Workspace) (e : BuildFault) → workspace_of options.manifest target w ≡ Ok ws → IsRefusedOf options ws e → IsToldRefusal options target w e
refused_there options target w ws (Plan why) read told = no_project options target w ws why read told
refused_there options target w ws OutOfMemory read told = tt
refused_there options target w ws _ read told = absurd told

-- a fault that is no refusal
pub unrefused_told : (options : Options) (target : List ℕ) (w : World) (e : BuildFault) → IsUnrefused e → IsToldRefusal options target w e
unrefused_told options target w (Plan why) none = absurd none
unrefused_told options target w _ none = tt
