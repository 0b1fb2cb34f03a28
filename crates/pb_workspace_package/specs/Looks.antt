-- Which calls of the place a step makes, in order, up to the first refusal. Each call has its path.
-- The calls for a package's folder are our own choice, since The Cargo Book does not define them.
use Rattle.std.specs.Prelude.{◌≡◌, ℕ, false, true, if◌then◌else◌, List, [], ◌∷◌, ◌++◌, Result, Ok, Err, MatchResult}
use Rattle.std.specs.List.{flat_map}
use Rattle.pb_place_types.specs.CallsInTurn.{FailsAt, MakesSome, past_calls}
use Rattle.pb_place_types.specs.declared.call.Call.{Call}
use Rattle.pb_place_types.specs.declared.call.Call.TheVariants as call
use Rattle.pb_place_types.specs.Counts.{Counts, name_given}
use Rattle.pb_place_types.specs.Paths.{below, is_at_or_below}
use Rattle.pb_workspace_types.specs.declared.fault.LoadFault.{LoadFault}
use Rattle.pb_workspace_types.specs.declared.fault.LoadFault.TheVariants.{Place}
use Rattle.pb_workspace_package.specs.declared.own_file.OwnFile.{OwnFile}
use Rattle.pb_workspace_package.specs.Causes.{is_failure, is_outside}
use Rattle.pb_workspace_package.specs.FoundBinaries.{bin_folder}
use Rattle.pb_workspace_package.specs.OwnFile.{name_of, own_files}

-- One of these calls failed. All calls before the failed call succeeded, and no call came after the
-- failed call.
abbrev pub FailsOn : LoadFault → List Call → Counts → Counts → Type 0
FailsOn (Place path fault) calls old new = FailsAt fault calls old new
FailsOn e calls old new = ⊥

-- How a step ended, given the error. A refusal came after all of these calls. Memory may run out
-- after the first n of these calls, for some n. A failed call is one of these calls, and the last
-- call that was made.
abbrev pub LooksUntil : LoadFault → List Call → Counts → Counts → Type 0
LooksUntil e calls old new = (is_outside e ≡ false → new ≡ past_calls calls old) × (is_failure e ≡ false → MakesSome calls old new) × (is_failure e ≡ true → FailsOn e calls old new)

-- After a success, exactly these calls were made. After an error, the first n of these calls were
-- made, for some n. The counters of a place also record the failed call.
abbrev pub Looks : {T : Type 0} → Result T LoadFault → List Call → Counts → Counts → Type 0
Looks result calls old new = MatchResult result (λ _. new ≡ past_calls calls old) (λ e. LooksUntil e calls old new)

-- the call, unless its path is at or below the target folder
abbrev pub looked : List ℕ → Call → List Call
looked target call = if is_at_or_below target (name_given call) then [] else call ∷ []

-- the calls that follow a success, and no calls after a fault
abbrev pub after : {A : Type 0} → Result A LoadFault → (A → List Call) → List Call
after (Ok x) next = next x
after (Err e) next = []

-- the call that asks whether a package's folder has a certain file at a fixed path
abbrev pub own_asked : List ℕ → List ℕ → OwnFile → List Call
own_asked target folder file = looked target (call.IsFile (below folder (name_of file)))

-- The calls for a package's folder. For each file at a fixed path, one call asks whether the file
-- is there. Then the files below `src/bin` are listed.
abbrev pub listings_at : List ℕ → List ℕ → List Call
listings_at target folder = flat_map (own_asked target folder) own_files ++ looked target (call.ListOutside (bin_folder folder) target)
