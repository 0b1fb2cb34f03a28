-- The counters of a worked case, as those of a place.
use Rattle.std.specs.Prelude.{ℕ, [], Option, None}
use Rattle.pb_place_types.specs.Counts.{Counts}
use Rattle.pb_place_types.specs.declared.place.Failure.{Failure}

-- the counts of a place with these numbers and this last fault; no child is in flight
abbrev pub counts_of : ℕ → ℕ → ℕ → ℕ → Option Failure → Counts
counts_of calls failures starts late last = record {
  calls = calls;
  failures = failures;
  starts = record { count = starts; flying = []; settings = 0 };
  late = late;
  last = last;
  failing = None;
}
