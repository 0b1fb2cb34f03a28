-- What a sink takes, and how its failures are counted.
use Rattle.std.specs.Prelude.{ℕ, ◌<◌, ◌==◌, Bool, true, not, ◌&&◌, List, length, take, Option, Some, None, if◌then◌else◌}
use Rattle.std.specs.Io.KnownBytes.{Appends}
use Rattle.pb_place_types.specs.Counts.{up}

-- A sink as clauses see it.
pub record SinkState : Type 0 where
  -- the bytes that the sink has taken so far, if it reports them
  pub taken : Option (List ℕ)
  -- how many writes failed
  pub faults : ℕ

-- a write failed if the sink refused the write, or if there were bytes and the sink took none
abbrev pub is_refusal : Option ℕ → List ℕ → Bool
is_refusal None bytes = true
is_refusal (Some n) bytes = (n == 0) && not (length bytes == 0)

-- the sink took a prefix of the bytes, but not all of them
abbrev pub TakesPart : List ℕ → Option (List ℕ) → Option (List ℕ) → Type 0
TakesPart bytes old new = (n : ℕ) × (n < length bytes) × Appends old new (take n bytes)

abbrev pub sunk : Option ℕ → List ℕ → ℕ → ℕ
sunk taken bytes failures = if is_refusal taken bytes then up failures else failures
