-- Notes on packages that dependencies name although the packages have no library.
use Rattle.std.specs.Prelude.{ℕ, if◌then◌else◌, codes, List, [], ◌∷◌, ◌++◌}
use Rattle.std.specs.Str.{bytes_eq}
use Rattle.pb_workspace_types.specs.declared.package.Package.{Package}

-- the manifest of the package with this name
abbrev pub manifest_named : List Package → List ℕ → List ℕ
manifest_named [] name = []
manifest_named (one ∷ packages) name = if bytes_eq one.name name then one.manifest else manifest_named packages name

-- A line for each of these packages, which have no library. The line names the package's manifest.
abbrev pub notes_of : List Package → List (List ℕ) → List ℕ
notes_of packages [] = []
notes_of packages (name ∷ names) = codes "note: in " ++ manifest_named packages name ++ codes ": " ++ name ++ codes " has no library\n" ++ notes_of packages names
