-- Which faults come from outside the rules. Definitions of a build's answer do not have these
-- faults.
use Rattle.std.specs.Prelude.{◌≡◌, Bool, true, false, Result, MatchResult, Ok, Err}
use Rattle.pb_build_result.specs.declared.fault.BuildFault.{BuildFault}
use Rattle.pb_build_result.specs.declared.fault.BuildFault.TheVariants.{Plan, Toolchain}

-- the fault comes from something outside, or memory ran out
abbrev pub is_outside : BuildFault → Bool
is_outside (Plan r) = false
is_outside Toolchain = false
is_outside _ = true

-- the result is exactly this answer, unless something outside failed or memory ran out
abbrev pub UnlessFailed : {A : Type 0} → Result A BuildFault → Result A BuildFault → Type 0
UnlessFailed result answer = MatchResult result (λ x. answer ≡ Ok x) (λ e. is_outside e ≡ false → answer ≡ Err e)
