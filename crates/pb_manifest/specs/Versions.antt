-- How the key `version` is read in a package, in a workspace and in a dependency.
use Rattle.std.specs.Prelude.{Option, Ok, codes}
use Rattle.toml.specs.Data.{Data, Members}
use Rattle.pb_data.specs.UnlessOom.{◌>>=◌}
use Rattle.pb_manifest_types.specs.Values.{Text, Read}
use Rattle.pb_manifest_types.specs.Versions.{version_in, requirement_in}
use Rattle.pb_manifest.specs.Values.{text_of, optional, value_at, inheritable_at, or_default}
use Rattle.pb_manifest_types.specs.declared.key.Key.TheVariants as key
use Rattle.pb_manifest_types.specs.declared.inherited.Inherited.{Inherited}

abbrev pub version_of : Data → Read Text
version_of d = text_of key.Version d >>= version_in

abbrev pub requirement_of : Data → Read Text
requirement_of d = text_of key.Version d >>= requirement_in

abbrev pub version_at : Members → Read (Option Text)
version_at ms = optional version_of (value_at key.Version ms)

abbrev pub requirement_at : Members → Read (Option Text)
requirement_at ms = optional requirement_of (value_at key.Version ms)

-- the version of a package that writes no version
abbrev pub zero : Text
zero = codes "0.0.0"

abbrev pub inherited_version_at : Members → Read (Inherited Text)
inherited_version_at ms = inheritable_at key.Version version_of ms >>= (λ found. Ok (or_default zero found))
