-- A law about the names of libraries, in the terms of the rules.
use Rattle.std.specs.Prelude.{◌≡◌, map, Some, None}
use Rattle.pb_manifest_types.specs.Letters.{underscored_byte}
use Rattle.pb_manifest_types.specs.Library.{library_name}
use Rattle.pb_manifest_types.specs.Values.{Text}
use Rattle.pb_manifest_types.specs.declared.target.Library.{Library}

-- a library without a written name has the package's name with each `-` replaced by `_`
abbrev pub DefaultLibraryName : Type 0
DefaultLibraryName = (name : Text) (library : Library) → library.name ≡ None → (library_name name None ≡ map underscored_byte name) × (library_name name (Some library) ≡ map underscored_byte name)
