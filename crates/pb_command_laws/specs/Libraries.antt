-- Which libraries are passed to a compile (The Cargo Book, Specifying Dependencies, Renaming
-- dependencies in Cargo.toml).
use Rattle.std.specs.Prelude.{◌≡◌, ◌↔◌, ℕ, ◌∷◌, ◌++◌, true, false, List, Contains, Some, slice_get}
use Rattle.std.specs.Cmp.Lexicographic.{slice_cmp}
use Rattle.std.specs.List.Sorted.{IsStrictlySortedBy}
use Rattle.std.specs.Ordering.{nat_cmp, ordering_then}
use Rattle.std.specs.declared.cmp.Ordering.{Ordering}
use Rattle.pb_data.specs.Ascii.{equals}
use Rattle.pb_feature_types.specs.Features.{is_enabled}
use Rattle.pb_manifest_types.specs.Letters.{underscored}
use Rattle.pb_workspace_types.specs.declared.package.Entry.{Entry}
use Rattle.pb_workspace_types.specs.declared.package.Package.{Package}
use Rattle.pb_command_types.specs.Targets.{library_in, library_name, library_file, is_script}
use Rattle.pb_command_types.specs.declared.project.Project.{Project}
use Rattle.pb_unit.specs.Units.{is_build}
use Rattle.pb_unit.specs.declared.plan.Planned.{Planned}
use Rattle.pb_unit.specs.declared.unit.What.TheVariants.{Bin}

-- the crate name of the library of the package at an index
abbrev pub crate_at : Project → ℕ → List ℕ
crate_at project index = library_name (library_in (slice_get project.workspace.packages index))

-- The name that source code uses for an entry's library. If `package` renames the entry, this is
-- the entry's key with `_` for each `-`. Otherwise the name is that of the library's crate.
pub data IsCalled (project : Project) (entry : Entry) : List ℕ → Type 0 where
  renamed : (is : entry.renamed ≡ true) → IsCalled project entry (underscored entry.key)
  itself : (is : entry.renamed ≡ false) → IsCalled project entry (crate_at project entry.to)

-- A library with this name and this file is passed to the compile.
-- - It may be the library of an entry that is enabled on the unit's side, if the unit needs this
--   library. The entry is in `[build-dependencies]` for a script, and in `[dependencies]` for any
--   other unit.
-- - It may be the library of a binary's own package.
pub data IsLibrary (project : Project) (unit : Planned) (p : Package) : List ℕ → List ℕ → Type 0 where
  by_entry : (n : ℕ) (entry : Entry) (name file : List ℕ) (there : slice_get p.entries n ≡ Some entry) (enabled : is_enabled project.features unit.unit.package unit.unit.side n ≡ true)
      (kind : is_build entry.kind ≡ is_script unit.unit.what) (called : IsCalled project entry name) (needed : library_file project unit entry.to ≡ Some file) → IsLibrary project unit p name file
  own : (binary file : List ℕ) (is : unit.unit.what ≡ Bin binary) (needed : library_file project unit unit.unit.package ≡ Some file) → IsLibrary project unit p (crate_at project unit.unit.package) file

-- the order of libraries by name, and then by file
abbrev pub by_name : List ℕ × List ℕ → List ℕ × List ℕ → Ordering
by_name a b = ordering_then (slice_cmp nat_cmp a.0 b.0) (slice_cmp nat_cmp a.1 b.1)

-- The libraries are exactly those of which `Is` is true, sorted by name and file, and each occurs
-- once.
pub record AreLibraries (Is : List ℕ → List ℕ → Type 0) (libraries : List (List ℕ × List ℕ)) : Type 0 where
  pub order : IsStrictlySortedBy by_name libraries
  pub same : (library : List ℕ × List ℕ) → Contains libraries library ↔ Is library.0 library.1

-- the text `NAME=VALUE`
abbrev pub assigned : List ℕ × List ℕ → List ℕ
assigned pair = pair.0 ++ equals ∷ pair.1
