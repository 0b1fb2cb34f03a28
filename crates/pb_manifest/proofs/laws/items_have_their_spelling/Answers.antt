use Rattle.pb_manifest.proofs.Items.{item_spelled}
use Rattle.pb_manifest.proofs.Spelled.{spelling_read}
use Rattle.pb_manifest.proofs.laws.items_have_their_spelling.Goals as goal

pub returns-clause-only : goal.returns-clause-only
returns-clause-only c text i h = item_spelled text i h

pub returns-clause-each : goal.returns-clause-each
returns-clause-each c i is = spelling_read i is
