use Rattle.pb_message_laws.proofs.Texts.{messages_are, ends_are, diagnostics_are}
use Rattle.pb_message_laws.proofs.lines_are_objects.Goals as goal

pub returns : goal.returns
returns c = record {
  messages = messages_are;
  ends = ends_are;
  diagnostics = diagnostics_are;
}
