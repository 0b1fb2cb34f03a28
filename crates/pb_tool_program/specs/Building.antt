-- What `pb_tool build` does.
use Rattle.std.specs.Prelude.{◌≡◌, ◌⊎◌, ℕ, zero, suc, Bool, true, false, IsTrue, codes, length, List, [], ◌∷◌, ◌++◌, Option, Some, None, Result, Ok, Err}
use Rattle.pb_place_types.specs.Counts.{Counts}
use Rattle.pb_place_types.specs.Paths.{last_part}
use Rattle.pb_place_types.specs.World.{Answers}
use Rattle.pb_place_types.specs.declared.moved.Moved.{Moved}
use Rattle.pb_build_result.specs.Said.{said_by_bad}
use Rattle.pb_build_result.specs.ResultLine.{result_line}
use Rattle.pb_build_result.specs.declared.fault.BuildFault.{BuildFault}
use Rattle.pb_build_result.specs.declared.fault.BuildFault.TheVariants as build
use Rattle.pb_build_result.specs.declared.summary.Summary.{Summary}
use Rattle.pb_workspace_types.specs.declared.options.Options.{Options}
use Rattle.pb_build.specs.AnyPlan.{BuildsOnFirst}
use Rattle.pb_build.specs.Ending.{BuildsFirst, PlansFrom}
use Rattle.pb_build.specs.declared.builder.BuildPlan.{BuildPlan}
use Rattle.pb_place_host.specs.Reports.{AreReported}
use Rattle.pb_place_types.specs.Sinks.{SinkState}
use Rattle.pb_build_turns.specs.Executor.{BuildState}
use Rattle.pb_tool_notes_pages.specs.Notes.{AreNotes, lines_of}
use Rattle.pb_tool_sentences.specs.Details.{detail}
use Rattle.pb_tool_program.specs.Libraries.{NotesOf}
use Rattle.pb_tool_reasons.specs.Started.{explanation}
use Rattle.pb_tool_reasons.specs.declared.detail.Detail.{Detail}
use Rattle.pb_tool_reasons.specs.declared.noted.Noted.{Noted}
use Rattle.pb_store.specs.declared.difference.Difference.{Difference}
use Rattle.pb_tool_program.specs.Writing.{Tells, TellsOr}

abbrev pub success_status : Bool → ℕ
success_status true = 0
success_status false = 101

-- the status: 0 if all units are good, and otherwise 101
abbrev pub status_of : Result Summary BuildFault → ℕ
status_of (Ok summary) = success_status summary.success
status_of (Err fault) = 101

-- The line for a unit that will be built again. The unit's child read a path that was changed while
-- the child was at work.
abbrev pub moved_note : List ℕ → List ℕ → List ℕ
moved_note path key = codes "note: " ++ path ++ codes " was changed while " ++ key ++ codes " was built: that unit will be built again\n"

-- A line for each changed path, with the key of the unit whose child read the path. The key is the
-- last part of the path of the unit's output folder.
abbrev pub moved_notes : List Moved → List ℕ
moved_notes [] = []
moved_notes (one ∷ others) = moved_note one.path (last_part one.out) ++ moved_notes others

-- the line that says why a build failed
abbrev pub error_of : Result Summary BuildFault → List ℕ
error_of answer = codes "error: " ++ result_line answer ++ codes "\n"

-- What is written if there is no memory to show why a build failed. The next definitions are lines
-- of this kind for changed files, reasons of starts, a child's output, a fault's detail, a fault's
-- report, and notes.
abbrev pub why_lost : List ℕ
why_lost = codes "error: the build failed; there is no memory to show the reason\n"

abbrev pub moved_lost : List ℕ
moved_lost = codes "note: there is no memory to show what was changed during the build\n"

abbrev pub reasons_lost : List ℕ
reasons_lost = codes "note: there is no memory to show the reasons\n"

abbrev pub said_lost : List ℕ
said_lost = codes "note: there is no memory to show the output of a child process\n"

abbrev pub detail_lost : List ℕ
detail_lost = codes "note: there is no memory to describe the fault\n"

abbrev pub report_lost : List ℕ
report_lost = codes "note: there is no memory to show the details of the fault\n"

abbrev pub look_lost : List ℕ
look_lost = codes "note: there is no memory to show the notes\n"

-- What is written at the end of a build. If all units of the build are good, nothing is written. If
-- the build failed, the reason is written, or one line says that memory ran out.
abbrev pub TellsWhy : ℕ → Result Summary BuildFault → SinkState → SinkState → Type 0
TellsWhy zero answer old new = new ≡ old
TellsWhy (suc status) answer old new = Tells (error_of answer) old new ⊎ Tells why_lost old new

-- the number of units of a plan, if reasons are requested and there is a plan
abbrev pub units_if : Bool → Result BuildPlan BuildFault → Option ℕ
units_if false (Ok plan) = None
units_if true (Ok plan) = Some (length plan.project.plan.planned)
units_if explain (Err fault) = None

-- the lines that say why the children of these units were started, or one line which says that
-- memory ran out
abbrev pub TellsStarted : ℕ → List (List ℕ) → List Difference → List Detail → ℕ → SinkState → SinkState → Type 0
TellsStarted units keys differences details kept old new = Tells (explanation units keys differences details kept) old new ⊎ Tells reasons_lost old new

-- A build of `units` units ended without a fault. This is what is written about the reasons of
-- starts. The summary has the started units and what differed. The place has noted the details of
-- each difference. Nothing is promised about these details.
abbrev pub TellsSummary : ℕ → Summary → SinkState → SinkState → Type 0
TellsSummary units summary old new = (details : List Detail) × TellsStarted units summary.started summary.differences details (length summary.kept) old new

-- A fault ended a build of `units` units. This is what is written about the reasons of starts. The
-- place has noted the reasons. If memory ran out for a note, only a line that says so is written.
abbrev pub TellsNotedUnless : Bool → ℕ → Noted → SinkState → SinkState → Type 0
TellsNotedUnless true units noted old new = Tells reasons_lost old new
TellsNotedUnless false units noted old new = TellsStarted units noted.started noted.differences noted.details noted.kept old new

abbrev pub TellsNoted : ℕ → Noted → SinkState → SinkState → Type 0
TellsNoted units noted old new = TellsNotedUnless noted.lost units noted old new

-- What is written about the reasons of a build. If the number of units is given, lines say why
-- children were started, or one line says that memory ran out. If the number is not given, nothing
-- is written.
abbrev pub TellsReasons : Option ℕ → Result Summary BuildFault → Noted → SinkState → SinkState → Type 0
TellsReasons None answer noted old new = new ≡ old
TellsReasons (Some units) (Err fault) noted old new = TellsNoted units noted old new
TellsReasons (Some units) (Ok summary) noted old new = TellsSummary units summary old new

-- What a build without a fault writes about the first bad unit: the part of the child's output that
-- no message line contains. If memory ran out, one line says so instead. Without such output
-- nothing is written.
abbrev pub TellsSaid : Result Summary BuildFault → SinkState → SinkState → Type 0
TellsSaid (Err fault) old new = new ≡ old
TellsSaid (Ok summary) old new = TellsOr said_lost (said_by_bad summary.bad summary.said) old new

-- What is written about the fault of a build: the fault's detail, or one line which says that
-- memory ran out. If all units are good, nothing is written.
abbrev pub TellsDetail : Bool → Result Summary BuildFault → SinkState → SinkState → Type 0
TellsDetail rendered answer old new = TellsOr detail_lost (detail rendered answer) old new

-- What a place reports about a fault from outside: at most ten texts without line feeds. Nothing
-- more is promised about these texts. Without a fault from outside there are no texts.
abbrev pub Reported : Result Summary BuildFault → List (List ℕ) → Type 0
Reported (Err (build.Child unit fault)) texts = AreReported texts
Reported (Err (build.Device unit fault)) texts = AreReported texts
Reported (Err build.Toolchain) texts = AreReported texts
Reported answer texts = texts ≡ []

-- What is written about a report: a line `note: TEXT` for each text, or one line which says that
-- memory ran out. If there are no texts, nothing is written.
abbrev pub TellsReport : List (List ℕ) → SinkState → SinkState → Type 0
TellsReport texts old new = TellsOr report_lost (lines_of texts) old new

-- How a build with this answer ends. The build has a status. If reasons are requested, the build
-- writes beside the output why children were started. Then the build writes what a failing child
-- printed, the fault's detail, the place's report, the notes, and the reason of a failure.
pub record Concludes (explain : Option ℕ) (rendered : Bool) (answer : Result Summary BuildFault) (report notes : List (List ℕ)) (status : ℕ) (old new : SinkState) : Type 0 where
  pub told : status ≡ status_of answer
  pub noted : Noted
  pub explained : SinkState
  pub reasons : TellsReasons explain answer noted old explained
  pub repeated : SinkState
  pub said : TellsSaid answer explained repeated
  pub detailed : SinkState
  pub detail : TellsDetail rendered answer repeated detailed
  pub reported : SinkState
  pub reports : TellsReport report detailed reported
  pub told_again : SinkState
  pub again : TellsOr look_lost (lines_of notes) reported told_again
  pub reason : TellsWhy status answer told_again new

-- Only the counters of calls and of failures have changed. So no child was started.
pub record Looked (old new : BuildState) : Type 0 where
  pub world : new.world ≡ old.world
  pub starts : new.counts.starts ≡ old.counts.starts
  pub most : new.most ≡ old.most
  pub heard : new.heard ≡ old.heard

-- A second look, for notes about a build that was refused or ended without a fault. After a fault
-- other than a refusal, there is no second look.
abbrev pub LooksTwice : Result Summary BuildFault → List (List ℕ) → BuildState → BuildState → Type 0
LooksTwice (Ok summary) notes old new = Looked old new
LooksTwice (Err (build.Plan refusal)) notes old new = Looked old new
LooksTwice (Err fault) notes old new = (new ≡ old) × (notes ≡ [])

-- the target folder of a plan, if there is a plan
abbrev pub folder_of : Result BuildPlan BuildFault → Option (List ℕ)
folder_of (Ok plan) = Some plan.environment.target
folder_of (Err fault) = None

-- A build was planned, and this plan was carried out. No further call was made except those of a
-- second look. `moved` is the place's list of changed paths after the build.
pub record BuildsTold (is_modelled : Bool) (child : Answers) (Guards : Option (List ℕ) → Counts → SinkState → SinkState → Type 0) (moved : List Moved) (options : Options) (explain rendered : Bool) (status : ℕ) (old new : BuildState) (said_before said_after : SinkState) : Type 0 where
  -- the plan of the build
  pub plan : Result BuildPlan BuildFault
  pub planned : BuildState
  pub plans : PlansFrom is_modelled options plan old planned
  -- notes about the plan's packages without a library were written first, beside the output
  pub noted : SinkState
  pub notes : NotesOf plan said_before noted
  -- Then the target folder was guarded. The place's counters were as the planning had left them, so
  -- no child had been started yet.
  pub held : SinkState
  pub guards : Guards (folder_of plan) planned.counts noted held
  -- the plan was carried out
  pub answer : Result Summary BuildFault
  pub built : BuildState
  pub on : BuildsOnFirst is_modelled child options plan answer planned built
  pub builds : BuildsFirst is_modelled child options answer old built
  -- a second look was made for at most nine notes
  pub notes_again : List (List ℕ)
  pub are_notes : AreNotes notes_again
  pub looked : LooksTwice answer notes_again built new
  -- Each path that has changed while a child was at work is reported. Over a modelled place there
  -- is no such path.
  pub stood : IsTrue is_modelled → moved ≡ []
  pub marked : SinkState
  pub marks : TellsOr moved_lost (moved_notes moved) held marked
  -- what the place reports about a fault, without a further call
  pub report : List (List ℕ)
  pub reports : Reported answer report
  -- what is written after the build
  pub concluded : Concludes (units_if explain plan) rendered answer report notes_again status marked said_after
