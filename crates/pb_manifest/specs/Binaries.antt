-- How a manifest's tables `[[bin]]` are read (The Cargo Book, Cargo Targets).
use Rattle.std.specs.Prelude.{List, [], Option, Some, None, Ok}
use Rattle.toml.specs.Data.{Data, Members}
use Rattle.pb_data.specs.UnlessOom.{◌>>=◌}
use Rattle.pb_manifest.specs.Package.{name_at}
use Rattle.pb_manifest_types.specs.Values.{Read}
use Rattle.pb_manifest.specs.Values.{array_of, table_of, each, value_at, path_at, listed_texts_at}
use Rattle.pb_manifest_types.specs.declared.key.Key.TheVariants as key
use Rattle.pb_manifest_types.specs.declared.target.Binary.{Binary}

-- a table `[[bin]]`, whose keys are read in byte order
abbrev pub binary_keys : Members → Read Binary
binary_keys ms =
    name_at ms >>= (λ name.
    path_at key.Path ms >>= (λ path.
    listed_texts_at key.RequiredFeatures ms >>= (λ required.
    Ok record { name = name; path = path; required_features = required })))

abbrev pub binary_of : Data → Read Binary
binary_of d = table_of key.Bin d >>= binary_keys

abbrev pub binaries_in : Option Data → Read (List Binary)
binaries_in None = Ok []
binaries_in (Some d) = array_of key.Bin d >>= each binary_of

-- the binaries that a manifest writes, in the manifest's order
abbrev pub binaries_at : Members → Read (List Binary)
binaries_at ms = binaries_in (value_at key.Bin ms)
