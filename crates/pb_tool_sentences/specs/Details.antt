-- What is written about a failed build before its result line. The sentence of the fault comes
-- first.
use Rattle.std.specs.Prelude.{ℕ, nat_eq, Bool, false, ◌&&◌, not, if◌then◌else◌, codes, List, [], ◌∷◌, ◌++◌, Option, Some, None, Result, Ok, Err}
use Rattle.std.specs.List.{ends_with}
use Rattle.pb_build_result.specs.declared.fault.BuildFault.{BuildFault}
use Rattle.pb_build_result.specs.declared.fault.BuildFault.TheVariants as build
use Rattle.pb_build_result.specs.declared.fault.Refusal.TheVariants as refusal
use Rattle.pb_build_result.specs.declared.summary.Summary.{Summary}
use Rattle.pb_command_types.specs.declared.fault.UnitFault.{UnitFault}
use Rattle.pb_command_types.specs.declared.fault.UnitFault.TheVariants as unit
use Rattle.pb_build_result.specs.Failures.{unit_sentence}
use Rattle.pb_build_result.specs.Sentence.{build_sentence}
use Rattle.pb_unit.specs.declared.fault.PlanFault.TheVariants as plan

-- a note with this sentence
abbrev pub told_of : List ℕ → List ℕ
told_of sentence = codes "note: " ++ sentence ++ codes "\n"

-- these names, each after a space
abbrev pub spaced : List (List ℕ) → List ℕ
spaced [] = []
spaced (name ∷ names) = codes " " ++ name ++ spaced names

-- What follows the sentence of a fault. If packages depend on one another, the names of these
-- packages follow.
abbrev pub with_names : BuildFault → List ℕ
with_names (build.Plan (refusal.Plan (plan.Cycle names))) = codes ":" ++ spaced names
with_names fault = []

-- The unit is bad because of the compiler's status. The unit is not a run: its key does not end in
-- `.run`.
abbrev pub is_by_compiler : List ℕ → UnitFault → Bool
is_by_compiler key (unit.Status status) = not (ends_with nat_eq key (codes ".run"))
is_by_compiler key fault = false

-- the note that says where the messages of a compiler are
abbrev pub where_messages_are : List ℕ
where_messages_are = codes "note: the compiler's messages, if there are any, are in the lines on standard output; --render shows them as text\n"

-- What is written about a bad unit: the sentence of its fault. If the unit's compiler failed, and
-- message lines were not shown as text, the note on the compiler's messages follows.
abbrev pub bad_detail : Bool → List ℕ → UnitFault → List ℕ
bad_detail rendered key fault = told_of (unit_sentence fault) ++ (if not rendered && is_by_compiler key fault then where_messages_are else [])

-- what is written about the first bad unit, if there is one
abbrev pub ended_detail : Bool → Option (List ℕ × UnitFault) → List ℕ
ended_detail rendered None = []
ended_detail rendered (Some bad) = bad_detail rendered bad.0 bad.1

-- what is written about a build that failed; nothing is written about any other build
abbrev pub detail : Bool → Result Summary BuildFault → List ℕ
detail rendered (Ok summary) = ended_detail rendered summary.bad
detail rendered (Err fault) = told_of (build_sentence fault ++ with_names fault)
