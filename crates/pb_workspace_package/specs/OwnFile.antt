-- Which files a package's folder may have at fixed paths (The Cargo Book, Manifest Format, Cargo
-- Targets, Build Scripts).
use Rattle.std.specs.Prelude.{ℕ, codes, List, [], ◌∷◌}
use Rattle.pb_workspace_package.specs.declared.own_file.OwnFile.{OwnFile}
use Rattle.pb_workspace_package.specs.declared.own_file.OwnFile.TheVariants as own

-- the path of a file, from the package's folder
abbrev pub name_of : OwnFile → List ℕ
name_of own.ReadmeMd = codes "README.md"
name_of own.ReadmeTxt = codes "README.txt"
name_of own.Readme = codes "README"
name_of own.BuildScript = codes "build.rs"
name_of own.Library = codes "src/lib.rs"
name_of own.Main = codes "src/main.rs"

-- all files at fixed paths, in the order in which the place is asked about them
abbrev pub own_files : List OwnFile
own_files = own.ReadmeMd ∷ own.ReadmeTxt ∷ own.Readme ∷ own.BuildScript ∷ own.Library ∷ own.Main ∷ []
