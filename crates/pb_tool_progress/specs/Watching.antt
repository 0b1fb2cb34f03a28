-- A watched turn decides in the same way as the turn that it contains.
use Rattle.std.specs.Prelude.{ℕ, List}
use Rattle.pb_build.specs.Ending.{PicksFirstOf}
use Rattle.pb_run_flight.specs.Steps.{TurnsOfJobs}
use Rattle.pb_run_flight.specs.declared.turn.Step.{Step}
use Rattle.pb_tool_progress.specs.declared.watched.Watched.{Watched}

abbrev pub TurnsWatched : {S : Type 0} → Watched S → List ℕ → List ℕ → Step → Watched S → Type 0
TurnsWatched old ready flying step new = TurnsOfJobs PicksFirstOf old.jobs ready flying step new.jobs
