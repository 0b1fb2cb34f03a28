use Rattle.pb_manifest.proofs.Came.{version_default}
use Rattle.pb_manifest.proofs.laws.default_version.Goals as goal

pub returns : goal.returns
returns c ms p none h = version_default ms p none h
