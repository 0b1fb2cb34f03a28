-- What is written to a sink, as far as the sink takes it.
use Rattle.std.specs.Prelude.{◌≡◌, ◌⊎◌, ℕ, Bool, true, false, List, [], ◌∷◌}
use Rattle.std.specs.Io.KnownBytes.{Appends}
use Rattle.pb_place_types.specs.Counts.{up}
use Rattle.pb_place_types.specs.Sinks.{SinkState, TakesPart}

-- Either all of these bytes were written, or the sink failed and took only a prefix of these bytes.
abbrev pub Writes : Bool → List ℕ → SinkState → SinkState → Type 0
Writes true bytes old new = Appends old.taken new.taken bytes × (new.faults ≡ old.faults)
Writes false bytes old new = TakesPart bytes old.taken new.taken × (new.faults ≡ up old.faults)

-- these bytes were written, as far as the sink took them
abbrev pub Tells : List ℕ → SinkState → SinkState → Type 0
Tells bytes old new = (whole : Bool) × Writes whole bytes old new

-- Either these bytes were written, or memory ran out for these bytes, and the line `lost`, which
-- needs no memory, was written. If there are no bytes, nothing was written.
abbrev pub TellsOr : List ℕ → List ℕ → SinkState → SinkState → Type 0
TellsOr lost [] old new = new ≡ old
TellsOr lost (byte ∷ bytes) old new = Tells (byte ∷ bytes) old new ⊎ Tells lost old new
