-- What `pb_tool clean` does.
use Rattle.std.specs.Prelude.{◌≡◌, ◌⊎◌, ℕ, Bool, true, false, codes, List, [], ◌++◌, Option, Some, None, Result, Ok, Err}
use Rattle.pb_build_result.specs.declared.fault.BuildFault.{BuildFault}
use Rattle.pb_build_result.specs.declared.fault.BuildFault.TheVariants as build_fault
use Rattle.pb_build_result.specs.declared.fault.DeviceFault.TheVariants as device
use Rattle.pb_build_result.specs.declared.fault.Refusal.TheVariants as refusal
use Rattle.pb_build_turns.specs.Executor.{BuildState}
use Rattle.pb_place_types.specs.Counts.{Counts}
use Rattle.pb_place_types.specs.Sinks.{SinkState}
use Rattle.pb_profile.specs.declared.fault.ProfileFault.TheVariants as profile
use Rattle.pb_tool_clean.specs.Calls.{Moment}
use Rattle.pb_tool_clean.specs.Cleaning.{CleansNow, Finds}
use Rattle.pb_tool_clean.specs.declared.choice.Choice.{Choice}
use Rattle.pb_tool_clean.specs.declared.fault.CleanFault.{CleanFault}
use Rattle.pb_tool_clean.specs.declared.fault.CleanFault.TheVariants.{Nothing, NoSuchProfile, Call, OutOfMemory}
use Rattle.pb_tool_clean.specs.declared.fault.Wanted.{Wanted}
use Rattle.pb_tool_clean.specs.declared.fault.Wanted.TheVariants as wanted
use Rattle.pb_tool_program.specs.Building.{Concludes, Reported, error_of, why_lost}
use Rattle.pb_tool_program.specs.Writing.{Tells}
use Rattle.pb_unit.specs.declared.fault.PlanFault.TheVariants as plan
use Rattle.pb_workspace_types.specs.declared.options.Options.{Options}

-- the words in a note that say what a removal wanted to remove
abbrev pub of_what : Wanted → List ℕ
of_what wanted.All = []
of_what wanted.OfProfile = codes " under the profile"
of_what wanted.OfPackages = codes " of the packages"

-- the name with which a removal is refused if it finds nothing to remove
abbrev pub refusal_of : Wanted → List ℕ
refusal_of wanted.All = codes "NoTargetFolder"
refusal_of wanted.OfProfile = codes "NoSuchProfile"
refusal_of wanted.OfPackages = codes "NoSuchPackage"

-- what is written if a removal finds nothing to remove in this folder
abbrev pub nothing_told : Wanted → List ℕ → List ℕ
nothing_told some folder = codes "note: " ++ folder ++ codes " contains nothing that a build made" ++ of_what some ++ codes "\nerror: refused " ++ refusal_of some ++ codes "\n"

-- A removal's fault as a fault of a build, so that a result line can be written. The result line is
-- `error: refused NoSuchProfile`, `error: fault PATH Device` or `error: fault memory OutOfMemory`.
abbrev pub build_fault_of : CleanFault → BuildFault
build_fault_of (Call name fault) = build_fault.Device name (device.Place fault)
build_fault_of NoSuchProfile = build_fault.Plan (refusal.Plan (plan.Profile profile.NoSuchProfile))
build_fault_of fault = build_fault.OutOfMemory

-- what is written about a fault: the same as after a build that ended with this fault, and what the
-- place reports about the fault
pub record TellsFault (fault : BuildFault) (status : ℕ) (old new : SinkState) : Type 0 where
  pub report : List (List ℕ)
  pub reports : Reported (Err fault) report
  pub concluded : Concludes None true (Err fault) report [] status old new

-- What is written after a removal. If everything that was chosen is removed, nothing is written,
-- and the status is 0. Otherwise the reason is written, and the status is 101.
abbrev pub TellsEnd : Result (Unit {0}) CleanFault → ℕ → SinkState → SinkState → Type 0
TellsEnd (Ok done) status old new = (status ≡ 0) × (new ≡ old)
TellsEnd (Err (Nothing some folder)) status old new = (status ≡ 101) × (Tells (nothing_told some folder) old new ⊎ Tells why_lost old new)
TellsEnd (Err fault) status old new = TellsFault (build_fault_of fault) status old new

-- the target folder of the choice, if there is a choice
abbrev pub target_in : Result Choice CleanFault → Option (List ℕ)
target_in (Ok choice) = Some choice.target
target_in (Err fault) = None

-- What was chosen is removed. If there is no choice, nothing is done, and the answer is the fault
-- that left no choice.
abbrev pub CleansFound : Bool → Result Choice CleanFault → Result (Unit {0}) CleanFault → Moment → Moment → Type 0
CleansFound is_modelled (Ok choice) answer old new = CleansNow is_modelled choice answer old new
CleansFound is_modelled (Err fault) answer old new = (answer ≡ Err fault) × (new ≡ old)

-- a build's moment without the sink, as definitions of removals use it
abbrev pub seen : BuildState → Moment
seen s = record { world = s.world; counts = s.counts; most = s.most }

-- The program searched for what the options choose, and changed nothing. If there was something to
-- remove, the target folder was guarded, and then the chosen paths were removed. Otherwise nothing
-- was done. No further call was made, and nothing was written as output.
pub record CleansTold (is_modelled : Bool) (Guards : Option (List ℕ) → Counts → SinkState → SinkState → Type 0) (options : Options) (one_profile : Bool) (status : ℕ) (old new : BuildState) (said_before said_after : SinkState) : Type 0 where
  pub heard : new.heard ≡ old.heard
  pub found : Result Choice CleanFault
  pub looked : Moment
  pub finds : Finds is_modelled options one_profile found (seen old) looked
  pub held : SinkState
  pub guards : Guards (target_in found) looked.counts said_before held
  pub answer : Result (Unit {0}) CleanFault
  pub cleans : CleansFound is_modelled found answer looked (seen new)
  pub tells : TellsEnd answer status held said_after
