-- What a message line says about its message.
use Rattle.std.specs.Prelude.{◌≡◌, Bool}
use Rattle.pb_message.specs.Message.{line_of}
use Rattle.pb_message.specs.declared.subject.Subject.{Subject}
use Rattle.pb_message.specs.declared.message.Message.{Message}
use Rattle.pb_message.specs.declared.message.Message.TheVariants.{CompilerMessage, CompilerArtifact, BuildScriptNote, BuildScriptExecuted}

-- the two messages have the same reason; if both are diagnostics, or both are notes, they are equal
abbrev pub TellOne : Message → Message → Type 0
TellOne (CompilerMessage text) (CompilerMessage other) = text ≡ other
TellOne (CompilerMessage text) _ = ⊥
TellOne (CompilerArtifact artifact) (CompilerArtifact other) = Unit {0}
TellOne (CompilerArtifact artifact) _ = ⊥
TellOne (BuildScriptNote level text) (BuildScriptNote other_level other) = (level ≡ other_level) × (text ≡ other)
TellOne (BuildScriptNote level text) _ = ⊥
TellOne (BuildScriptExecuted executed) (BuildScriptExecuted other) = Unit {0}
TellOne (BuildScriptExecuted executed) _ = ⊥

-- if two messages about the same package and the same target have the same line, they agree as
-- `TellOne` states
abbrev pub LinesTellMessages : Type 0
LinesTellMessages = (subject : Subject) (fresh : Bool) (message other : Message) → line_of subject fresh message ≡ line_of subject fresh other → TellOne message other
