use Rattle.pb_manifest_laws.proofs.Packages.{packages_read}
use Rattle.pb_manifest_laws.proofs.packages_say.Goals as goal

pub returns : goal.returns
returns c = packages_read
