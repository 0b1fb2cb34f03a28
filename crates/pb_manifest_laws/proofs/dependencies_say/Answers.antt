use Rattle.pb_manifest_laws.proofs.Dependencies.{dependencies_read}
use Rattle.pb_manifest_laws.proofs.dependencies_say.Goals as goal

pub returns : goal.returns
returns c = dependencies_read
