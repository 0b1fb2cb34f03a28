-- Tables from names to values. The entries are in order of first mention.
use Rattle.std.specs.Prelude.{ℕ, List, [], ◌∷◌, if◌then◌else◌, map, Option, Some, None, unwrap_or}
use Rattle.std.specs.Map.{lookup}
use Rattle.std.specs.Str.{bytes_eq}
use Rattle.indexmap.specs.IndexMap.{insert_entry}

-- the value that the entries have for a name, if there is an entry with this name
abbrev pub value_at : {V : Type 0} → List ℕ → List (List ℕ × V) → Option V
value_at name entries = lookup (bytes_eq name) entries

-- The entries after a value is set for a name. If an entry has this name, this entry keeps its
-- position and gets the new value. Otherwise a new entry goes last.
abbrev pub with_entry : {V : Type 0} → List (List ℕ × V) → List ℕ → V → List (List ℕ × V)
with_entry entries name value = insert_entry bytes_eq entries name value

-- the first list of entries, to which the entries of the second list are added one by one, each as
-- `with_entry` says
abbrev pub with_entries : {V : Type 0} → List (List ℕ × V) → List (List ℕ × V) → List (List ℕ × V)
with_entries entries [] = entries
with_entries entries (entry ∷ more) = with_entries (with_entry entries entry.0 entry.1) more

-- An empty table, to which the entries are added one by one. Each name occurs once, in order of
-- first mention, with its last value.
abbrev pub table_of : {V : Type 0} → List (List ℕ × V) → List (List ℕ × V)
table_of entries = with_entries [] entries

-- the names of the entries, in order and with repeats
abbrev pub names_of : {V : Type 0} → List (List ℕ × V) → List (List ℕ)
names_of entries = map (λ entry. entry.0) entries

-- the value of the last entry with this name, if there is such an entry
abbrev pub last_value : {V : Type 0} → List ℕ → List (List ℕ × V) → Option V
last_value name [] = None
last_value name (entry ∷ entries) = if bytes_eq name entry.0 then Some (unwrap_or (last_value name entries) entry.1) else last_value name entries
