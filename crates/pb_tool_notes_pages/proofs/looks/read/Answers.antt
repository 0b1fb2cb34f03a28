use Rattle.pb_tool_notes_pages.proofs.OneCall.{looks_once}
use Rattle.pb_tool_notes_pages.proofs.looks.read.Goals as goal

pub returns : goal.returns
returns g c = looks_once _ _ _ _ c.read_first.ensures.looks
