-- What the whole program does: exactly what its arguments request.
use Rattle.std.specs.Prelude.{◌≡◌, ◌⊎◌, ℕ, Bool, true, false, List, Option, Some, None, IsTrue, IfOk, Result, Ok, Err}
use Rattle.std.specs.FinMap as map
use Rattle.pb_place_types.specs.Counts.{Counts, counted}
use Rattle.pb_place_types.specs.declared.call.Call.TheVariants as call
use Rattle.pb_place_types.specs.World.{Answers}
use Rattle.pb_place_types.specs.declared.moved.Moved.{Moved}
use Rattle.pb_place_types.specs.declared.place.PlaceFault.{PlaceFault}
use Rattle.pb_build_result.specs.declared.fault.BuildFault.TheVariants as build_fault
use Rattle.pb_tool_arguments.specs.Asking.{Requests, Unasks}
use Rattle.pb_tool_arguments.specs.declared.invocation.Invocation.{Invocation}
use Rattle.pb_tool_arguments.specs.declared.invocation.Invocation.TheVariants.{Build, Session, Explain, Plan, Clean, Preview}
use Rattle.pb_tool_arguments.specs.declared.invocation.Shown.{Shown}
use Rattle.pb_tool_arguments.specs.declared.invocation.ArgumentsError.{ArgumentsError}
use Rattle.pb_tool_arguments.specs.declared.invocation.ArgumentsError.TheVariants.{Help, Wrong, OutOfMemory}
use Rattle.pb_tool_arguments.specs.declared.here.Here.{Here}
use Rattle.pb_tool_explain.specs.declared.entry.Page.{Page}
use Rattle.pb_build_session.specs.Sessions.{session_of}
use Rattle.pb_build_session.specs.declared.fault.BadSession.TheVariants.{BadForm}
use Rattle.pb_place_types.specs.Sinks.{SinkState}
use Rattle.pb_build_turns.specs.Executor.{BuildState}
use Rattle.pb_tool_program.specs.Building.{BuildsTold, error_of}
use Rattle.pb_tool_program.specs.Cleaning.{CleansTold}
use Rattle.pb_tool_program.specs.Planning.{PlansTold}
use Rattle.pb_tool_program.specs.Previewing.{PreviewsTold}
use Rattle.pb_tool_program.specs.Names.{Means, Prints}
use Rattle.pb_tool_program.specs.Session.{Refused, SessionStopped, SessionWritten}
use Rattle.pb_tool_program.specs.Writing.{Tells}

-- Sessions.

-- The session in these bytes was run. If the status is 0, the session's lines were output, and
-- nothing was written beside the output. If the status is 1, the session is reported as bad; only
-- the lines from before memory ran out, or before the sink failed, were written.
pub record RunsSession (bytes : List ℕ) (status : ℕ) (old new said_before said_after : SinkState) : Type 0 where
  pub ends : (status ≡ 0) ⊎ (status ≡ 1)
  pub written : status ≡ 0 → SessionWritten true bytes old new
  pub cut : status ≡ 1 → SessionStopped bytes old new ⊎ SessionWritten false bytes old new
  pub quiet : status ≡ 0 → said_after ≡ said_before
  pub untouched : session_of bytes ≡ Err BadForm → new ≡ old
  pub told : status ≡ 1 → Refused said_before said_after

-- the session is reported as bad, and nothing is output
abbrev pub IsBad : ℕ → SinkState → SinkState → SinkState → SinkState → Type 0
IsBad status old new said_before said_after = (status ≡ 1) × (new ≡ old) × Refused said_before said_after

-- What follows after a session's file was read with this result. If the file does not exist or
-- cannot be read, the session is bad.
abbrev pub RunsFound : Result (Option (List ℕ)) PlaceFault → ℕ → SinkState → SinkState → SinkState → SinkState → Type 0
RunsFound (Ok (Some bytes)) status old new said_before said_after = RunsSession bytes status old new said_before said_after
RunsFound (Ok None) status old new said_before said_after = IsBad status old new said_before said_after
RunsFound (Err fault) status old new said_before said_after = IsBad status old new said_before said_after

-- The session in a file was run. The file was read once, and no further call was made.
pub record RunsFile (is_modelled : Bool) (path : List ℕ) (status : ℕ) (old new : BuildState) (said_before said_after : SinkState) : Type 0 where
  pub same : IsTrue is_modelled → new.world ≡ old.world
  pub most : new.most ≡ old.most
  pub found : Result (Option (List ℕ)) PlaceFault
  pub once : new.counts ≡ counted (call.Read path) found old.counts
  pub is_file : IsTrue is_modelled → IfOk found (λ bytes. bytes ≡ map.get old.world.files path)
  pub comes : RunsFound found status old.heard new.heard said_before said_after

-- Arguments that request nothing.

-- What is written for arguments that request nothing. Help or the version is output. A text about
-- wrong arguments, or about memory that ran out, is written beside the output.
abbrev pub Explains : ArgumentsError → ℕ → SinkState → SinkState → SinkState → SinkState → Type 0
Explains (Help text) status old new said_before said_after = (said_after ≡ said_before) × Prints text status old new
Explains (Wrong text) status old new said_before said_after = (status ≡ 1) × (new ≡ old) × Tells text said_before said_after
Explains OutOfMemory status old new said_before said_after = (status ≡ 101) × (new ≡ old) × Tells (error_of (Err build_fault.OutOfMemory)) said_before said_after

-- The program.

-- What a build shows beside its message lines was set before the build. The place knows whether it
-- names its children, and whether it notes units. The sink of the lines knows whether it shows the
-- lines as text. The place and this sink know whether they erase a status line. Both sinks of text
-- know whether levels have colours.
abbrev pub IsShownAs : {P O E : Type 0} → (P → Bool → Bool → P → Type 0) → (P → Bool → P → Type 0) → (O → Bool → Bool → Bool → O → Type 0) → (E → Bool → E → Type 0) → P → O → E → Shown → Type 0
IsShownAs {P} {O} {E} Speaks Notes Shows Colors place out err shown =
    ((told : P) × Speaks place shown.verbose shown.progress told × ((noting : P) × Notes told shown.explain noting))
    × ((told : O) × Shows out shown.render shown.progress shown.colors told)
    × ((told : E) × Colors err shown.colors told)

-- the arguments request this, or they request nothing for this reason
abbrev pub AsksOrNot : List (List ℕ) → Here → Result Invocation ArgumentsError → Type 0
AsksOrNot words here (Ok asked) = Requests words here asked
AsksOrNot words here (Err unasked) = Unasks words here.folder unasked

-- What the program does for its arguments: the requested build, preview, session, plan, removal or
-- explanation. If nothing is requested, the place is not used. Only a build and a removal ask the
-- guard for a folder. What a build shows changes nothing else: `BuildsTold` depends on `explain`
-- and `render` only.
abbrev pub CarriesOut : Bool → Answers → (Option (List ℕ) → Counts → SinkState → SinkState → Type 0) → (Shown → Type 0) → Page → List Moved → Result Invocation ArgumentsError → ℕ → BuildState → BuildState → SinkState → SinkState → Type 0
CarriesOut is_modelled child Guards Told page moved (Ok (Build options shown)) status old new said_before said_after = Told shown × BuildsTold is_modelled child Guards moved options shown.explain shown.render status old new said_before said_after
CarriesOut is_modelled child Guards Told page moved (Ok (Preview options)) status old new said_before said_after = PreviewsTold is_modelled child options status old new said_before said_after × Guards None old.counts said_before said_before
CarriesOut is_modelled child Guards Told page moved (Ok (Session path)) status old new said_before said_after = RunsFile is_modelled path status old new said_before said_after × Guards None old.counts said_before said_before
CarriesOut is_modelled child Guards Told page moved (Ok (Plan options form)) status old new said_before said_after = PlansTold is_modelled options form status old new said_before said_after × Guards None old.counts said_before said_before
CarriesOut is_modelled child Guards Told page moved (Ok (Clean options one_profile)) status old new said_before said_after = CleansTold is_modelled Guards options one_profile status old new said_before said_after
CarriesOut is_modelled child Guards Told page moved (Ok (Explain name)) status old new said_before said_after = (new ≡ record old { heard = new.heard }) × Means page name status old.heard new.heard said_before said_after × Guards None old.counts said_before said_before
CarriesOut is_modelled child Guards Told page moved (Err unasked) status old new said_before said_after = (new ≡ record old { heard = new.heard }) × Explains unasked status old.heard new.heard said_before said_after × Guards None old.counts said_before said_before

-- The program did what these arguments request, with the folder and the processors of `here`.
-- `moved` is the list of changed paths that the program's place has afterwards.
abbrev pub Runs : Bool → Answers → (Option (List ℕ) → Counts → SinkState → SinkState → Type 0) → (Shown → Type 0) → Page → List Moved → List (List ℕ) → Here → ℕ → BuildState → BuildState → SinkState → SinkState → Type 0
Runs is_modelled child Guards Told page moved words here status old new said_before said_after =
    (meant : Result Invocation ArgumentsError) × AsksOrNot words here meant × CarriesOut is_modelled child Guards Told page moved meant status old new said_before said_after
