-- Versions and requirements of Semantic Versioning 2.0.0: the texts that `semver` reads.
use Rattle.std.specs.Prelude.{ℕ, List, Bool, false, if◌then◌else◌, Result, Ok, Err, is_ok}
use Rattle.semver.specs.EvalViews.{matches_views}
use Rattle.semver.specs.Parse.{Held, Parts, version_parts, req_of}
use Rattle.pb_manifest_types.specs.Values.{Text, Read}
use Rattle.pb_manifest_types.specs.declared.fault.ManifestFault.TheVariants.{BadVersion}

unfoldable pub is_version : List ℕ → Bool
is_version text = is_ok (version_parts text)

unfoldable pub is_requirement : List ℕ → Bool
is_requirement text = is_ok (req_of text)

abbrev pub version_in : Text → Read Text
version_in text = if is_version text then Ok text else Err BadVersion

abbrev pub requirement_in : Text → Read Text
requirement_in text = if is_requirement text then Ok text else Err BadVersion

-- a version meets a requirement if `semver` can read both and the version matches the requirement
abbrev pub meets : {E F : Type 0} → Result (List Held) E → Result Parts F → Bool
meets (Ok comparators) (Ok parts) = matches_views comparators parts
meets _ _ = false

-- the version matches the requirement; both are given as texts (The Cargo Book, Specifying
-- Dependencies)
unfoldable pub matches : Text → Text → Bool
matches requirement version = meets (req_of requirement) (version_parts version)
