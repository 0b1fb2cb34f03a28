-- What a package says about itself, either in its manifest or by inheriting from its workspace (The
-- Cargo Book, Manifest Format and Workspaces).
use Rattle.std.specs.Prelude.{ℕ, codes, List, [], ◌∷◌, ◌++◌, Option, Result, Ok, Err}
use Rattle.pb_data.specs.UnlessOom.{◌>>=◌, some_or}
use Rattle.pb_place_types.specs.Paths.{joined}
use Rattle.pb_place_types.specs.declared.path.PathFault.{PathFault}
use Rattle.pb_manifest_types.specs.declared.inherited.Inheritable.{Inheritable}
use Rattle.pb_manifest_types.specs.declared.inherited.Inheritable.TheVariants.{Written, Workspace, Absent}
use Rattle.pb_manifest_types.specs.declared.inherited.Inherited.{Inherited}
use Rattle.pb_manifest_types.specs.declared.inherited.Inherited.TheVariants as inherited
use Rattle.pb_manifest_types.specs.declared.manifest.WorkspacePackage.{WorkspacePackage}
use Rattle.pb_manifest_types.specs.declared.package.Package.{Package}
use Rattle.pb_manifest_types.specs.declared.package.Readme.{Readme}
use Rattle.pb_manifest_types.specs.declared.package.Readme.TheVariants as readme
use Rattle.pb_workspace_types.specs.declared.fault.LoadFault.{LoadFault}
use Rattle.pb_workspace_types.specs.declared.fault.LoadFault.TheVariants.{NoInherited}
use Rattle.pb_workspace_types.specs.declared.package.About.{About}
use Rattle.pb_workspace_package.specs.Between.{text_between}

-- a value that a package must have; either the package's manifest writes the value, or the package
-- inherits the value from the workspace
abbrev pub own_or_given : {A : Type 0} → Inherited A → Option A → Result A LoadFault
own_or_given (inherited.Written x) given = Ok x
own_or_given inherited.Workspace given = some_or NoInherited given

-- a text that is written or inherited, or the empty text if it is absent
abbrev pub text_of : Inheritable (List ℕ) → Option (List ℕ) → Result (List ℕ) LoadFault
text_of (Written text) given = Ok text
text_of Workspace given = some_or NoInherited given
text_of Absent given = Ok []

-- the authors, with `:` before each
abbrev pub further_authors : List (List ℕ) → List ℕ
further_authors [] = []
further_authors (author ∷ authors) = codes ":" ++ author ++ further_authors authors

-- the authors, with `:` between them
abbrev pub joined_authors : List (List ℕ) → List ℕ
joined_authors [] = []
joined_authors (author ∷ authors) = author ++ further_authors authors

abbrev pub authors_of : Inheritable (List (List ℕ)) → Option (List (List ℕ)) → Result (List ℕ) LoadFault
authors_of (Written authors) given = Ok (joined_authors authors)
authors_of Workspace given = some_or NoInherited given >>= (λ authors. Ok (joined_authors authors))
authors_of Absent given = Ok []

-- the path from the member's folder to the path that a text spells; if the text spells no path, the
-- text itself
abbrev pub between_or : List ℕ → List ℕ → Result (List ℕ) PathFault → List ℕ
between_or folder text (Ok path) = text_between folder path
between_or folder text (Err fault) = text

-- A path of the workspace, rewritten so that it starts at the member's folder. In the workspace's
-- manifest, the path starts at the root folder.
abbrev pub from_member : List ℕ → List ℕ → List ℕ → List ℕ
from_member root folder text = between_or folder text (joined root text)

abbrev pub license_file_of : List ℕ → List ℕ → Inheritable (List ℕ) → Option (List ℕ) → Result (List ℕ) LoadFault
license_file_of root folder (Written text) given = Ok text
license_file_of root folder Workspace given = some_or NoInherited given >>= (λ text. Ok (from_member root folder text))
license_file_of root folder Absent given = Ok []

-- the path of the README: `README.md` for `true`, and the empty text for `false`
abbrev pub readme_text : Readme → List ℕ
readme_text readme.Standard = codes "README.md"
readme_text readme.Never = []
readme_text (readme.At path) = path

-- the path of the workspace's README, from the member's folder
abbrev pub given_readme : List ℕ → List ℕ → Readme → List ℕ
given_readme root folder readme.Standard = from_member root folder (codes "README.md")
given_readme root folder readme.Never = []
given_readme root folder (readme.At path) = from_member root folder path

-- the path of the README that is written or inherited; if nothing is written, the README that was
-- found
abbrev pub readme_of : List ℕ → List ℕ → List ℕ → Inheritable Readme → Option Readme → Result (List ℕ) LoadFault
readme_of root folder found (Written readme) given = Ok (readme_text readme)
readme_of root folder found Workspace given = some_or NoInherited given >>= (λ readme. Ok (given_readme root folder readme))
readme_of root folder found Absent given = Ok found

-- What a package tells people about itself. `given` is what its workspace offers, and `found` is
-- the README in its folder.
abbrev pub about_of : List ℕ → List ℕ → List ℕ → Package → WorkspacePackage → Result About LoadFault
about_of root folder found s given =
    authors_of s.authors given.authors >>= (λ authors.
    text_of s.description given.description >>= (λ description.
    text_of s.homepage given.homepage >>= (λ homepage.
    text_of s.license given.license >>= (λ license.
    license_file_of root folder s.license_file given.license_file >>= (λ license_file.
    readme_of root folder found s.readme given.readme >>= (λ readme.
    text_of s.repository given.repository >>= (λ repository.
    text_of s.rust_version given.rust_version >>= (λ rust_version.
    Ok record {
      authors = authors;
      description = description;
      homepage = homepage;
      license = license;
      license_file = license_file;
      readme = readme;
      repository = repository;
      rust_version = rust_version;
    }))))))))
