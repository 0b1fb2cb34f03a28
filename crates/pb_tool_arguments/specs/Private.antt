-- What private functions of the command line promise to each other. What words request is defined
-- without this file.
use Rattle.std.specs.Prelude.{◌≡◌, ◌≢◌, true, false, List}
use Rattle.clap.specs.Walk.{Text}
use Rattle.clap.specs.declared.error.kind.ErrorKind.{ErrorKind}
use Rattle.clap.specs.declared.error.kind.ErrorKind.TheVariants as kind
use Rattle.pb_tool_arguments.specs.Asking.{AsksForHelp, ClapRefuses, is_help}
use Rattle.pb_tool_arguments.specs.Description.{AreChoices, Choices}
use Rattle.pb_tool_arguments.specs.declared.invocation.ArgumentsError.{ArgumentsError}
use Rattle.pb_tool_arguments.specs.declared.invocation.ArgumentsError.TheVariants.{Help, Wrong, OutOfMemory}

-- the error does not show help; if the error reports wrong words, `why` is true of the error's text
abbrev pub ToldWrong : (Text → Type 0) → ArgumentsError → Type 0
ToldWrong why (Help text) = ⊥
ToldWrong why (Wrong text) = why text
ToldWrong why OutOfMemory = Unit {0}

-- an error of this kind may be reported in this way
abbrev pub TellsKind : ErrorKind → ArgumentsError → Type 0
TellsKind k (Help text) = is_help k ≡ true
TellsKind k (Wrong text) = (is_help k ≡ false) × (k ≢ kind.OutOfMemory)
TellsKind k OutOfMemory = Unit {0}

-- the description of the command line does not accept the words
abbrev pub RefusedBy : List Text → ArgumentsError → Type 0
RefusedBy words (Help text) = (choices : Choices) × AreChoices choices × AsksForHelp choices words
RefusedBy words (Wrong text) = (choices : Choices) × AreChoices choices × ClapRefuses choices words
RefusedBy words OutOfMemory = Unit {0}
