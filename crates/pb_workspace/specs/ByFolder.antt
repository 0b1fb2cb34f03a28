-- Tables from folders to values, in byte order of the folders.
use Rattle.std.specs.Prelude.{ℕ, Bool, is_some, List, [], ◌∷◌, map, Option}
use Rattle.std.specs.BTreeMap.{is_at}
use Rattle.std.specs.Map.{lookup}
use Rattle.std.specs.Ordering.{nat_cmp}
use Rattle.std.specs.Cmp.Lexicographic.{slice_cmp}
use Rattle.pb_workspace_package.specs.Sorted.{with_entry}

-- the value that the table has for a folder, if there is such a value
abbrev pub value_of : {V : Type 0} → List ℕ → List (List ℕ × V) → Option V
value_of folder entries = lookup (is_at (slice_cmp nat_cmp folder)) entries

-- the table has a value for the folder
abbrev pub has : {V : Type 0} → List ℕ → List (List ℕ × V) → Bool
has folder entries = is_some (value_of folder entries)

abbrev pub folders_of : {V : Type 0} → List (List ℕ × V) → List (List ℕ)
folders_of entries = map (λ e. e.0) entries

abbrev pub values_of : {V : Type 0} → List (List ℕ × V) → List V
values_of entries = map (λ e. e.1) entries

-- the table after these folders are added, in byte order and without repeats
abbrev pub with_folders : List (List ℕ × Unit {0}) → List (List ℕ) → List (List ℕ × Unit {0})
with_folders entries [] = entries
with_folders entries (folder ∷ folders) = with_folders (with_entry entries folder tt) folders
