-- Notes on packages that dependencies name although the packages have no library.
use Rattle.std.specs.Prelude.{◌≡◌, ℕ, codes, List, Result, Ok, Err}
use Rattle.pb_build.specs.declared.builder.BuildPlan.{BuildPlan}
use Rattle.pb_build_result.specs.declared.fault.BuildFault.{BuildFault}
use Rattle.pb_place_types.specs.Sinks.{SinkState}
use Rattle.pb_tool_program.specs.Writing.{TellsOr}
use Rattle.pb_tool_sentences.specs.Libraries.{notes_of}

abbrev pub notes_lost : List ℕ
notes_lost = codes "note: there is no memory to show the packages without a library\n"

-- What is written before a build: a note on each package in `without_library` of the build's plan.
-- If memory runs out for these notes, one line says so. If there are no such packages, or no plan,
-- nothing is written.
abbrev pub NotesOf : Result BuildPlan BuildFault → SinkState → SinkState → Type 0
NotesOf (Ok plan) old new = TellsOr notes_lost (notes_of plan.project.workspace.packages plan.project.plan.without_library) old new
NotesOf (Err fault) old new = new ≡ old
