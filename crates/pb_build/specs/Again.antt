-- Law: after a successful build, the same build starts no child for a unit, unless a fault ends it.
use Rattle.std.specs.Prelude.{◌≡◌, [], ℕ, true, List, Ok}
use Rattle.pb_build_result.specs.declared.summary.Summary.{Summary}
use Rattle.pb_run_flight.specs.declared.turn.Step.{Step}
use Rattle.pb_workspace_types.specs.declared.options.Options.{Options}
use Rattle.pb_place_types.specs.World.{Answers}
use Rattle.pb_run.specs.UnitSteps.{TrustedRecords}
use Rattle.pb_build_turns.specs.Executor.{BuildState}
use Rattle.pb_build.specs.Ending.{Builds}
use Rattle.pb_build.specs.Headline.{RestsOn}

-- Take a build that succeeded, with true records and an honest child. Make the same build again in
-- the world that the first build left; any turn may decide the steps. Unless a fault ends this
-- second build, it starts no child for a unit.
abbrev pub SameBuildStartsNone : {S T : Type 0} → (S → List ℕ → List ℕ → Step → S → Type 0) → (T → List ℕ → List ℕ → Step → T → Type 0) → Type 0
SameBuildStartsNone {S} {T} Turns OtherTurns = (child : Answers) (options : Options) (from last : S) (again end : T) (summary other : Summary) (first second third fourth : BuildState)
    → RestsOn TrustedRecords child options first.world → Builds true child Turns options from last (Ok summary) first second → summary.success ≡ true
    → third.world ≡ second.world → Builds true child OtherTurns options again end (Ok other) third fourth → other.started ≡ []
