-- The result line of a build, which says how the build ended. The form of the line is our own
-- choice. Keys are written as they are.
use Rattle.std.specs.Prelude.{ℕ, codes, List, [], ◌∷◌, ◌++◌, Option, Some, None, Result, Ok, Err}
use Rattle.std.specs.List.{concat}
use Rattle.pb_command_types.specs.declared.fault.UnitFault.{UnitFault}
use Rattle.pb_build_result.specs.declared.fault.BuildFault.{BuildFault}
use Rattle.pb_build_result.specs.declared.fault.BuildFault.TheVariants as build
use Rattle.pb_build_result.specs.declared.summary.Summary.{Summary}
use Rattle.pb_build_result.specs.Failures.{device_fault_name, start_fault_name, unit_fault_text}
use Rattle.pb_build_result.specs.Refusals.{refusal_name}

-- the keys, with a comma before each key
abbrev pub keys_rest : List (List ℕ) → List ℕ
keys_rest [] = []
keys_rest (key ∷ keys) = codes "," ++ key ++ keys_rest keys

-- the keys with commas between them, or a dash if there are none
abbrev pub keys_text : List (List ℕ) → List ℕ
keys_text [] = codes "-"
keys_text (key ∷ keys) = key ++ keys_rest keys

-- the line of a build whose units ended, given the first bad unit and the keys of the started units
abbrev pub ended_line : Option (List ℕ × UnitFault) → List ℕ → List ℕ
ended_line None keys = concat (codes "ok started=" ∷ keys ∷ [])
ended_line (Some bad) keys = concat (codes "bad " ∷ bad.0 ∷ codes " " ∷ unit_fault_text bad.1 ∷ codes " started=" ∷ keys ∷ [])

abbrev pub summary_line : Summary → List ℕ
summary_line s = ended_line s.bad (keys_text s.started)

-- the line of a fault; `place` is a unit or another part of the build
abbrev pub fault_at : List ℕ → List ℕ → List ℕ
fault_at unit name = concat (codes "fault " ∷ unit ∷ codes " " ∷ name ∷ [])

abbrev pub fault_line : BuildFault → List ℕ
fault_line (build.Plan why) = concat (codes "refused " ∷ refusal_name why ∷ [])
fault_line build.Toolchain = codes "fault -vV Toolchain"
fault_line (build.Child unit fault) = fault_at unit (start_fault_name fault)
fault_line (build.Device unit fault) = fault_at unit (device_fault_name fault)
fault_line build.Sink = codes "fault sink Sink"
fault_line build.OutOfMemory = codes "fault memory OutOfMemory"

-- the line that says how a build ended
abbrev pub result_line : Result Summary BuildFault → List ℕ
result_line (Ok s) = summary_line s
result_line (Err fault) = fault_line fault
