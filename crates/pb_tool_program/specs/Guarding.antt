-- How a build waits for its target folder.
use Rattle.std.specs.Prelude.{◌≡◌, ◌⊎◌, ℕ, Bool, true, false, codes, List, Option, Some, None}
use Rattle.pb_place_types.specs.Counts.{Counts}
use Rattle.pb_place_types.specs.Sinks.{SinkState}
use Rattle.pb_tool_program.specs.Writing.{Tells}

-- what is written if another build has the folder
abbrev pub waiting : List ℕ
waiting = codes "note: another build has the target folder: waiting\n"

-- The guard was asked for this folder while the place had these counters. If there is no folder,
-- the guard was not asked. If another build had the folder, the line `waiting` was written, as far
-- as the sink took it. Then the guard waited.
abbrev pub Guarded : {G : Type 0} → (G → List ℕ → Counts → SinkState → Bool → G → Type 0) → (G → Counts → SinkState → G → Type 0) → G → G → Option (List ℕ) → Counts → SinkState → SinkState → Type 0
Guarded asks waits old new None counts before after = (new ≡ old) × (after ≡ before)
Guarded {G} asks waits old new (Some folder) counts before after =
    (asks old folder counts before false new × (after ≡ before)) ⊎ ((mid : G) × asks old folder counts before true mid × Tells waiting before after × waits mid counts after new)
