-- The version of a package that writes none.
use Rattle.std.proofs.Common.{◌≡◌, true, refl, codes}
use Rattle.semver.proofs.OnLiterals.{semver_on_literals}
use Rattle.pb_manifest_types.specs.Versions.{is_version}

pub zero_is_version : is_version (codes "0.0.0") ≡ true
unfolding is_version semver_on_literals
zero_is_version = refl
