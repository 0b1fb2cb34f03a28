use Rattle.std.proofs.Common.{◌≡◌, ◌++◌, Ok, length}
use Rattle.pb_data.specs.UnlessOom.{◌>>=◌}
use Rattle.pb_directive.specs.Directives.{flags_of}
use Rattle.pb_directive.proofs.flags.add_flags.Given as goal

abbrev pub invariant-loop-word : goal.invariant-loop-word
invariant-loop-word l = (flags_of l.rest >>= (λ more. Ok (l.found ++ more))) ≡ (flags_of l.fn.words >>= (λ more. Ok (l.initial.found ++ more)))

abbrev pub decreases-loop-word : goal.decreases-loop-word
decreases-loop-word l = length l.rest
