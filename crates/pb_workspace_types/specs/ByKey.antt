-- The order of a package's entries. Entries of `[dependencies]` come before entries of
-- `[build-dependencies]`. The entries of each table are in byte order of their keys.
use Rattle.std.specs.Prelude.{ℕ, List, ◌∷◌}
use Rattle.pb_workspace_types.specs.declared.package.DependencyKind.{DependencyKind}
use Rattle.pb_workspace_types.specs.declared.package.DependencyKind.TheVariants.{Normal, Build}

abbrev pub table_number : DependencyKind → ℕ
table_number Normal = 0
table_number Build = 1

-- the key, with the number of its table in front
abbrev pub table_key : DependencyKind → List ℕ → List ℕ
table_key kind key = table_number kind ∷ key
