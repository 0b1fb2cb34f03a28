use Rattle.pb_manifest.proofs.Manifests.{manifest_is}
use Rattle.pb_manifest.proofs.laws.manifests_keep_promises.Goals as goal

pub returns : goal.returns
returns c bytes m h = manifest_is bytes m h
