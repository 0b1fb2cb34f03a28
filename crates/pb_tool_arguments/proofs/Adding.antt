-- What a command has after options were added to it.
use Rattle.std.proofs.Common.{◌≡◌, ◌∙◌, ap₂, List}
use Rattle.clap.specs.Simple.{App}
use Rattle.clap.specs.Walk.{Rule}
use Rattle.pb_tool_arguments.specs.Description.{with_rules}

pub added : (command start app : App) (rules all : List Rule) → rules ≡ all → command ≡ with_rules rules start → start ≡ app → command ≡ with_rules all app
added command start app rules all same is started = is ∙ ap₂ with_rules same started
