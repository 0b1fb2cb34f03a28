-- A finish line that was written.
use Rattle.std.proofs.Common.{◌≡◌, inl, inr, ℕ, List, Result, Err, refl, subst}
use Rattle.std.specs.Io.KnownBytes.{Appends}
use Rattle.pb_build_result.specs.declared.fault.BuildFault.{BuildFault}
use Rattle.pb_build_result.specs.declared.fault.BuildFault.TheVariants.{Sink}
use Rattle.pb_build_result.specs.declared.summary.Summary.{Summary}
use Rattle.pb_place_types.specs.Counts.{up}
use Rattle.pb_place_types.specs.Sinks.{SinkState, TakesPart}
use Rattle.pb_build.specs.Ending.{EndsWith}

-- the sink took a part of the line
pub finishes_part : (bytes told : List ℕ) (inner : Result Summary BuildFault) (old new : SinkState) → told ≡ bytes → TakesPart told old.taken new.taken → new.faults ≡ up old.faults → EndsWith bytes inner (Err Sink) old new
finishes_part bytes told inner old new same part rose = inr (refl, subst (λ (b : List ℕ). TakesPart b old.taken new.taken) same part, rose)

-- it took the line
pub finishes_all : (bytes told : List ℕ) (inner : Result Summary BuildFault) (old new : SinkState) → told ≡ bytes → Appends old.taken new.taken told → new.faults ≡ old.faults → EndsWith bytes inner inner old new
finishes_all bytes told inner old new same all stays = inl (refl, subst (Appends old.taken new.taken) same all, stays)

pub ruleset finishing_laws = (finishes_all, finishes_part)
