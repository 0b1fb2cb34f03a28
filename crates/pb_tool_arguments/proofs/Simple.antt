-- The command line is one of those whose matches are defined.
use Rattle.std.proofs.Common.{◌≡◌, true, refl}
use Rattle.clap.specs.Simple.{is_simple}
use Rattle.clap.proofs.OnLiterals.{clap_on_literals}
use Rattle.pb_tool_arguments.specs.Description.{Choices, program}

pub program_is_simple : (choices : Choices) → is_simple (program choices) ≡ true
unfolding clap_on_literals
program_is_simple choices = refl
