-- How crate types are spelled, and how a package's library is named (The Cargo Book, Cargo
-- Targets).
use Rattle.std.specs.Prelude.{ℕ, List, [], ◌∷◌, map, Option, Some, None, codes}
use Rattle.pb_manifest_types.specs.Letters.{underscored}
use Rattle.pb_manifest_types.specs.Values.{Text}
use Rattle.pb_manifest_types.specs.declared.target.CrateType.{CrateType}
use Rattle.pb_manifest_types.specs.declared.target.CrateType.TheVariants.{Lib, Rlib, Bin}
use Rattle.pb_manifest_types.specs.declared.target.Library.{Library}

-- a crate type as a manifest and the compiler's option `--crate-type` spell it
abbrev pub crate_type_text : CrateType → List ℕ
crate_type_text Lib = codes "lib"
crate_type_text Rlib = codes "rlib"
crate_type_text Bin = codes "bin"

-- the crate types of a library, in the manifest's order, or `lib` if the manifest has none
abbrev pub crate_type_texts : List CrateType → List (List ℕ)
crate_type_texts [] = codes "lib" ∷ []
crate_type_texts (t ∷ ts) = map crate_type_text (t ∷ ts)

abbrev pub named_or : Option Text → Text → Text
named_or None default = default
named_or (Some own) default = own

-- the name of a package's library: the library's written name, or else the package's name with `_`
-- for each `-`
abbrev pub library_name : Text → Option Library → Text
library_name name None = underscored name
library_name name (Some library) = named_or library.name (underscored name)
