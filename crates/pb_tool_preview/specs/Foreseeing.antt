-- What a build would do with each unit, as far as the records in one world say.
use Rattle.std.specs.Prelude.{◌≡◌, ℕ, Bool, true, false, not, if◌then◌else◌, List, [], ◌∷◌, ◌++◌, Option, Some, None, is_some, Result, MatchOption, MatchResult, slice_get}
use Rattle.std.specs.List.{find}
use Rattle.pb_build_result.specs.declared.fault.BuildFault.{BuildFault}
use Rattle.pb_build_result.specs.declared.fault.BuildFault.TheVariants.{Plan, Toolchain, Child, Device, Sink, OutOfMemory}
use Rattle.pb_build_result.specs.declared.fault.DeviceFault.{DeviceFault}
use Rattle.pb_build_result.specs.declared.fault.DeviceFault.TheVariants as device
use Rattle.pb_command.specs.Command.{command_of}
use Rattle.pb_command_types.specs.Targets.{unit_at}
use Rattle.pb_command_types.specs.declared.project.Project.{Project}
use Rattle.pb_command_types.specs.declared.project.Setup.{Setup}
use Rattle.pb_directive.specs.declared.directive.Directive.{Directive}
use Rattle.pb_place_types.specs.At.{At}
use Rattle.pb_place_types.specs.World.{World}
use Rattle.pb_place_types.specs.declared.command.Command.{Command}
use Rattle.pb_run.specs.Invariants.{records_folder}
use Rattle.pb_run.specs.Outcome.{ran_of}
use Rattle.pb_run.specs.Steps.{HasCause}
use Rattle.pb_run.specs.declared.ran.Ran.{Ran}
use Rattle.pb_store.specs.Differences.{FirstDifference, IsReplayed}
use Rattle.pb_store.specs.declared.replaying.Replayed.{Replayed}
use Rattle.pb_store_soundness.specs.Records.{records}
use Rattle.pb_tool_preview.specs.declared.fate.Fate.{Fate}
use Rattle.pb_tool_preview.specs.declared.fate.Fate.TheVariants.{Starts, Kept, Bad, Waits, Unreached}
use Rattle.pb_unit.specs.declared.plan.Planned.{Planned}

-- Units that cannot be compared yet.

abbrev pub is_kept : Fate → Bool
is_kept (Starts difference) = false
is_kept Kept = true
is_kept Bad = false
is_kept (Waits index) = false
is_kept (Unreached index) = false

abbrev pub is_kept_if : Option Fate → Bool
is_kept_if None = false
is_kept_if (Some fate) = is_kept fate

abbrev pub is_kept_at : List Fate → ℕ → Bool
is_kept_at fates index = is_kept_if (slice_get fates index)

-- the index of the first of these units that is not kept, if there is such a unit
abbrev pub first_unkept : List Fate → List ℕ → Option ℕ
first_unkept fates reached = find (λ index. not (is_kept_at fates index)) reached

-- a unit that reaches a unit with this fate does not begin
abbrev pub ends_badly : Option Fate → Bool
ends_badly None = false
ends_badly (Some (Starts difference)) = false
ends_badly (Some Kept) = false
ends_badly (Some Bad) = true
ends_badly (Some (Waits index)) = false
ends_badly (Some (Unreached index)) = true

-- The fate of a unit, given the index of the first reached unit that is not kept. If a build would
-- not get past the reached unit, as `ends_badly` says, the unit is `Unreached`. Otherwise the unit
-- waits for the reached unit.
abbrev pub waits_for : List Fate → ℕ → Fate
waits_for fates index = if ends_badly (slice_get fates index) then Unreached index else Waits index

-- Units that can be compared.

-- a unit that was judged with this result has these directives, and its fate is `Bad` or `Kept`
abbrev pub Judges : Ran → Fate → Option (List Directive) → Type 0
Judges ran fate said = (fate ≡ (if is_some ran.bad then Bad else Kept)) × (said ≡ ran.directives)

-- nothing differs from the unit's record for this command, and the replayed result determines the
-- fate and the directives
pub record IsReplay (project : Project) (w : World) (u : Planned) (c : Command) (fate : Fate) (said : Option (List Directive)) : Type 0 where
  pub same : FirstDifference (records_folder project) u.key c w None
  pub again : Replayed
  pub replays : IsReplayed (records (records_folder project) w u.key) again
  pub judged : Judges (ran_of project u c again.ended w.files) fate said

-- How a unit compares with its record, for this command. If a build would start a child for the
-- unit, the fate has the first difference. Otherwise nothing differs, and the record determines the
-- fate, as `IsReplay` says.
abbrev pub IsCompared : Project → World → Planned → Command → Fate → Option (List Directive) → Type 0
IsCompared project w u c (Starts difference) said = FirstDifference (records_folder project) u.key c w (Some difference) × (said ≡ None)
IsCompared project w u c Kept said = IsReplay project w u c Kept said
IsCompared project w u c Bad said = IsReplay project w u c Bad said
IsCompared project w u c (Waits index) said = ⊥
IsCompared project w u c (Unreached index) said = ⊥

-- The units of a plan.

-- The fate of a unit, given the fates and the directives of the units before it. If the unit
-- reaches only kept units, the unit is compared with its record. The unit has the same command as
-- in a build.
abbrev pub IsFate : Setup → Project → World → List Fate → List (Option (List Directive)) → Planned → Fate → Option (List Directive) → Type 0
IsFate setup project w fates done u fate said =
    MatchOption (first_unkept fates u.reaches) (IsCompared project w u (command_of setup project u done) fate said) (λ index. (fate ≡ waits_for fates index) × (said ≡ None))

-- the fates of these units, each of which follows from the fates before it
pub data Foresees (setup : Setup) (project : Project) (w : World) : List Planned → List Fate → List (Option (List Directive)) → Type 0 where
  nothing : Foresees setup project w [] [] []
  more : (units : List Planned) (fates : List Fate) (done : List (Option (List Directive))) (u : Planned) (fate : Fate) (said : Option (List Directive))
      (before : Foresees setup project w units fates done) (is : IsFate setup project w fates done u fate said)
      → Foresees setup project w (units ++ u ∷ []) (fates ++ fate ∷ []) (done ++ said ∷ [])

-- How a look changes the place.

-- Nothing has changed but counters, and no child was started. If a call failed, no call came after
-- it.
pub record Looks {T : Type 0} (result : Result T BuildFault) (old new : At) : Type 0 where
  pub world : new.world ≡ old.world
  pub most : new.most ≡ old.most
  pub starts : new.counts.starts ≡ old.counts.starts
  pub cause : MatchResult result (λ x. new.counts.failures ≡ old.counts.failures) (λ e. HasCause e old.counts new.counts)

-- The fault came from the comparison of the unit with this key. A file, a folder or a variable
-- could not be read, or memory ran out.
abbrev pub LookFails : List ℕ → BuildFault → Type 0
LookFails key (Device unit (device.Place fault)) = unit ≡ key
LookFails key OutOfMemory = Unit {0}
LookFails key fault = ⊥

-- the fault came from the comparison of one of the units of a project
abbrev pub LooksAtSome : Project → BuildFault → Type 0
LooksAtSome project fault = (index : ℕ) × (u : Planned) × (unit_at project index ≡ Some u) × LookFails u.key fault
