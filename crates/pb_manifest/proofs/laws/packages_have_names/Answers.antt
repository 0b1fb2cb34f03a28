use Rattle.pb_manifest.proofs.Names.{package_name_passes}
use Rattle.pb_manifest.proofs.laws.packages_have_names.Goals as goal

pub returns : goal.returns
returns c bytes m p h e = package_name_passes bytes m p h e
