-- What the session program reports about its input, and how the program ends.
use Rattle.std.specs.Prelude.{◌≡◌, ◌⊎◌, ℕ, Bool, codes, List, [], ◌∷◌, ◌++◌, Ok, Result}
use Rattle.std.specs.Io.KnownBytes.{Appends}
use Rattle.std.specs.FinMap as map
use Rattle.pb_mini.specs.Answer.{answered}
use Rattle.pb_place_types.specs.Counts.{up, no_calls}
use Rattle.pb_place_types.specs.Sinks.{SinkState, TakesPart}
use Rattle.pb_place_types.specs.World.{Answers}
use Rattle.pb_build.specs.Session.{Point, Course, Breaks}
use Rattle.pb_build_result.specs.declared.fault.BuildFault.{BuildFault}
use Rattle.pb_build_result.specs.declared.summary.Summary.{Summary}
use Rattle.pb_build_result.specs.ResultLine.{result_line}
use Rattle.pb_build_session.specs.Sessions.{session_of}
use Rattle.pb_build_session.specs.declared.step.SessionStep.{SessionStep}
use Rattle.pb_tool_program.specs.Writing.{Writes}

-- what is written about a bad session
abbrev pub bad_session : List ℕ
bad_session = codes "error: bad session\n"

-- Either the report of a bad session was written, or the sink failed and took only a prefix of this
-- report.
abbrev pub Refused : SinkState → SinkState → Type 0
Refused old new = (Appends old.taken new.taken bad_session × (new.faults ≡ old.faults)) ⊎ (TakesPart bad_session old.taken new.taken × (new.faults ≡ up old.faults))

-- the result line of each answer, each with a line feed at its end
abbrev pub lines_of : List (Result Summary BuildFault) → List ℕ
lines_of [] = []
lines_of (answer ∷ answers) = result_line answer ++ codes "\n" ++ lines_of answers

-- the small compiler as the child of a session
abbrev pub small_compiler : Answers
small_compiler c w = answered c.words c.pairs w

-- The state before the first step. There is no file, no variable, no call of the place, no answer,
-- and no injected failure.
abbrev pub at_first : SinkState → Point
at_first heard = record { moment = record { world = record { files = map.empty; variables = map.empty }; counts = no_calls; most = 0; heard = heard }; answers = []; fuse = 0; deaths = [] }

-- The steps were taken one by one, and each build wrote its message lines. Then a result line for
-- each build was written. If the sink failed, it took only a prefix of the result lines.
abbrev pub Written : Bool → List SessionStep → SinkState → SinkState → Type 0
Written whole steps before after = (end : Point) × Course small_compiler steps (at_first before) end × Writes whole (lines_of end.answers) end.moment.heard after

-- the bytes contain a session, and the lines of this session were written
abbrev pub SessionWritten : Bool → List ℕ → SinkState → SinkState → Type 0
SessionWritten whole bytes before after = (steps : List SessionStep) × (session_of bytes ≡ Ok steps) × Written whole steps before after

-- Memory ran out. If memory ran out in a step, the steps before that step were taken one by one. If
-- memory ran out after the last step, no result line was written.
abbrev pub Stopped : List SessionStep → SinkState → SinkState → Type 0
Stopped steps before after =
    ((left : Point) × Breaks small_compiler steps (at_first before) left × (after ≡ left.moment.heard))
    ⊎ ((end : Point) × Course small_compiler steps (at_first before) end × (after ≡ end.moment.heard))

-- nothing was written, or the bytes contain a session that was run until memory ran out
abbrev pub SessionStopped : List ℕ → SinkState → SinkState → Type 0
SessionStopped bytes before after = (after ≡ before) ⊎ ((steps : List SessionStep) × (session_of bytes ≡ Ok steps) × Stopped steps before after)
