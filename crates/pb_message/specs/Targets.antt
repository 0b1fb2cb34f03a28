-- The targets of a package, as message lines describe them (The Cargo Book, External Tools).
use Rattle.std.specs.Prelude.{ℕ, codes, List, [], ◌∷◌}
use Rattle.pb_manifest_types.specs.Library.{crate_type_texts}
use Rattle.pb_manifest_types.specs.declared.package.Edition.{Edition}
use Rattle.pb_manifest_types.specs.declared.target.CrateType.{CrateType}
use Rattle.pb_message.specs.declared.subject.Target.{Target}

-- the target of a library; the target's kinds are the library's crate types
abbrev pub library_target : List CrateType → List ℕ → List ℕ → Edition → Target
library_target types name source edition = record { kinds = crate_type_texts types; crate_types = crate_type_texts types; name = name; source = source; edition = edition; required_features = [] }

abbrev pub binary_target : List ℕ → List ℕ → Edition → List (List ℕ) → Target
binary_target name source edition required = record { kinds = codes "bin" ∷ []; crate_types = codes "bin" ∷ []; name = name; source = source; edition = edition; required_features = required }

-- the target of a build script, which is compiled to a binary
abbrev pub script_target : List ℕ → Edition → Target
script_target source edition = record { kinds = codes "custom-build" ∷ []; crate_types = codes "bin" ∷ []; name = codes "build-script-build"; source = source; edition = edition; required_features = [] }
