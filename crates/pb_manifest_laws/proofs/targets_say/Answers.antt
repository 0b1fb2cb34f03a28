use Rattle.pb_manifest_laws.proofs.Targets.{libraries_read, binaries_read, features_read}
use Rattle.pb_manifest_laws.proofs.targets_say.Goals as goal

pub returns : goal.returns
returns c = record { libraries = libraries_read; binaries = binaries_read; features = features_read }
