-- What the lines of a source can name: libraries, conditions, variables and paths. Relative paths
-- start at a folder.
use Rattle.std.specs.Prelude.{ℕ, List, [], ◌∷◌, if◌then◌else◌, map}
use Rattle.std.specs.Option.{is_some}
use Rattle.pb_data.specs.OrderedSet.{once}
use Rattle.pb_data.specs.Table.{value_at, with_entry}
use Rattle.pb_place_types.specs.Paths.{folder_of}
use Rattle.pb_mini.specs.Lines.{name_in, value_in}
use Rattle.pb_mini.specs.declared.command_line.CommandLine.{CommandLine}
use Rattle.pb_mini.specs.declared.scope.Scope.{Scope}

-- the name of a library and the path of its file, from the text `NAME=PATH`
abbrev pub library_of : List ℕ → List ℕ × List ℕ
library_of written = (name_in written, value_in written)

-- The entries after one more entry is added. If there is already an entry with the same name, the
-- new entry is not added. `with_firsts` adds several entries in this way.
abbrev pub with_first : List (List ℕ × List ℕ) → List ℕ × List ℕ → List (List ℕ × List ℕ)
with_first entries entry = if is_some (value_at entry.0 entries) then entries else with_entry entries entry.0 entry.1

abbrev pub with_firsts : List (List ℕ × List ℕ) → List (List ℕ × List ℕ) → List (List ℕ × List ℕ)
with_firsts entries [] = entries
with_firsts entries (entry ∷ more) = with_firsts (with_first entries entry) more

-- the libraries with the libraries' files; if several libraries have the same name, the first
-- library counts
abbrev pub libraries_of : List (List ℕ) → List (List ℕ × List ℕ)
libraries_of externs = with_firsts [] (map library_of externs)

-- what the lines of a source can name, if the source has this path
abbrev pub scope_of : CommandLine → List (List ℕ × List ℕ) → List ℕ → Scope
scope_of line pairs source = record {
  folder = folder_of source;
  libraries = libraries_of line.externs;
  conditions = once line.conditions;
  pairs = pairs;
}
