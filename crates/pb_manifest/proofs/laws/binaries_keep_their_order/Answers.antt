use Rattle.pb_manifest.specs.Binaries.{binary_of}
use Rattle.pb_manifest.proofs.Came.{in_order}
use Rattle.pb_manifest.proofs.laws.binaries_keep_their_order.Goals as goal

pub returns : goal.returns
returns c ds binaries h = in_order binary_of ds binaries h
