-- How the table `[lib]` is read (The Cargo Book, Manifest Format and Cargo Targets).
use Rattle.std.specs.Prelude.{List, Bool, if◌then◌else◌, Option, Some, None, Ok, Err, codes}
use Rattle.std.specs.Str.{bytes_eq}
use Rattle.toml.specs.Data.{Data, Members}
use Rattle.pb_data.specs.UnlessOom.{◌>>=◌}
use Rattle.pb_manifest_types.specs.Letters.{is_crate_name}
use Rattle.pb_manifest_types.specs.Values.{Text, Read}
use Rattle.pb_manifest.specs.Values.{text_of, array_of, optional, each, value_at, text_at, path_at, truth_at, listed, is_true}
use Rattle.pb_manifest_types.specs.declared.key.Key.TheVariants as key
use Rattle.pb_manifest_types.specs.declared.fault.ManifestFault.TheVariants.{BadName, UnsupportedCrateType}
use Rattle.pb_manifest_types.specs.declared.target.CrateType.{CrateType}
use Rattle.pb_manifest_types.specs.declared.target.CrateType.TheVariants.{Lib, Rlib, Bin}
use Rattle.pb_manifest_types.specs.declared.target.Library.{Library}

-- the crate type that a text spells, if we support it
abbrev pub crate_type_in : Text → Read CrateType
crate_type_in text =
    if bytes_eq text (codes "lib") then Ok Lib
    else if bytes_eq text (codes "rlib") then Ok Rlib
    else if bytes_eq text (codes "bin") then Ok Bin
    else Err UnsupportedCrateType

abbrev pub crate_type_of : Data → Read CrateType
crate_type_of d = text_of key.CrateType d >>= crate_type_in

abbrev pub crate_types_of : Data → Read (List CrateType)
crate_types_of d = array_of key.CrateType d >>= each crate_type_of

-- the crate types that `[lib]` lists, or no crate types if the key is missing
abbrev pub crate_types_at : Members → Read (List CrateType)
crate_types_at ms = optional crate_types_of (value_at key.CrateType ms) >>= (λ found. Ok (listed found))

-- the crate name that is written in `[lib]`, if there is one
abbrev pub crate_name_in : Option Text → Read (Option Text)
crate_name_in None = Ok None
crate_name_in (Some text) = if is_crate_name text then Ok (Some text) else Err BadName

abbrev pub crate_name_at : Members → Read (Option Text)
crate_name_at ms = text_at key.Name ms >>= crate_name_in

-- `proc-macro = true` is refused, because it requests a crate type that we do not support
abbrev pub proc_macro_in : Option Bool → Read (Unit {0})
proc_macro_in found = if is_true found then Err UnsupportedCrateType else Ok tt

abbrev pub proc_macro_at : Members → Read (Unit {0})
proc_macro_at ms = truth_at key.ProcMacro ms >>= proc_macro_in

-- the table `[lib]`, whose keys are read in byte order
abbrev pub library_of : Members → Read Library
library_of ms =
    crate_types_at ms >>= (λ crate_types.
    crate_name_at ms >>= (λ name.
    path_at key.Path ms >>= (λ path.
    proc_macro_at ms >>= (λ proc_macro.
    Ok record { crate_types = crate_types; name = name; path = path }))))
