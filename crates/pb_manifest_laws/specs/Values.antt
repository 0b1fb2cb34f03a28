-- How the values of a manifest are written in a TOML document.
use Rattle.std.specs.Prelude.{◌≡◌, ℕ, true, false, List, [], ◌∷◌, map, codes, Option, Some, None, IfSome}
use Rattle.std.specs.List.{AllZip}
use Rattle.std.specs.Option.{option_map, option_to_list}
use Rattle.toml.specs.Data.{Data, string, boolean, array, table, Members, no_members, member, get_member}
use Rattle.toml.specs.View.{items_of}
use Rattle.pb_manifest_types.specs.declared.inherited.Inheritable.{Inheritable}
use Rattle.pb_manifest_types.specs.declared.inherited.Inheritable.TheVariants.{Written, Workspace, Absent}
use Rattle.pb_manifest_types.specs.declared.inherited.Inherited.{Inherited}
use Rattle.pb_manifest_types.specs.declared.inherited.Inherited.TheVariants as inherited
use Rattle.pb_place_types.specs.Paths.{has_byte_0}

abbrev pub texts : List (List ℕ) → Data
texts xs = array (items_of (map string xs))

-- the text may be a path: it has no byte 0
abbrev pub IsPath : List ℕ → Type 0
IsPath text = has_byte_0 text ≡ false

-- If an optional key is there, the key has this value. No value is read if and only if the key is
-- missing.
abbrev pub OptionalMeans : {A : Type 0} → (A → Data) → Option Data → Option A → Type 0
OptionalMeans write found value = found ≡ option_map write value

-- `OptionalMeans` is true, and a value that was read is valid
abbrev pub HoldsValid : {A : Type 0} → (A → Type 0) → (A → Data) → Option Data → Option A → Type 0
HoldsValid Valid write found value = OptionalMeans write found value × IfSome value Valid

-- this value is written at a key, or the key is missing and the value is the default
abbrev pub HoldsOr : {A : Type 0} → A → (A → Data) → Option Data → A → Type 0
HoldsOr default write None value = value ≡ default
HoldsOr default write (Some d) value = d ≡ write value

-- this list is written at a key, or the key is missing and the list is empty
abbrev pub Lists : {A : Type 0} → (A → Data) → Option Data → List A → Type 0
Lists write = HoldsOr [] (λ xs. array (items_of (map write xs)))

-- the written value is a table that describes `x`
abbrev pub OfTable : {A : Type 0} → (Members → A → Type 0) → Data → A → Type 0
OfTable Is d x = (inner : Members) × (d ≡ table inner) × Is inner x

-- the written value is a table with `workspace = true`
abbrev pub TakesWorkspace : Option Data → Type 0
TakesWorkspace found = (inner : Members) × (found ≡ Some (table inner)) × (get_member (codes "workspace") inner ≡ Some (boolean true))

-- this value or `{ workspace = true }` is written at a key, or the key is missing
abbrev pub HoldsOrTakes : {A : Type 0} → (A → Data) → Option Data → Inheritable A → Type 0
HoldsOrTakes write found (Written x) = found ≡ Some (write x)
HoldsOrTakes write found Workspace = TakesWorkspace found
HoldsOrTakes write found Absent = found ≡ None

-- This value or `{ workspace = true }` is written at a key. If the key is missing, the value is the
-- default.
abbrev pub HasOrTakes : {A : Type 0} → A → (A → Data) → Option Data → Inherited A → Type 0
HasOrTakes default write found (inherited.Written x) = HoldsOr default write found x
HasOrTakes default write found inherited.Workspace = TakesWorkspace found

-- If the key is there, its value is a table, and this table describes what was read. If the key is
-- missing, nothing is read.
abbrev pub IsTableAt : {A : Type 0} → (Members → A → Type 0) → Option Data → Option A → Type 0
IsTableAt Is found value = AllZip (OfTable Is) (option_to_list found) (option_to_list value)

-- If the key is there, its value is an array of tables. Each table describes one item, in order. If
-- the key is missing, there are no items.
abbrev pub AreTablesAt : {A : Type 0} → (Members → A → Type 0) → Option Data → List A → Type 0
AreTablesAt Is found xs = (tables : List Data) × HoldsOr [] (λ ds. array (items_of ds)) found tables × AllZip (OfTable Is) tables xs

-- the members of a table with these entries
abbrev pub members_of : List (List ℕ × Data) → Members
members_of [] = no_members
members_of (entry ∷ entries) = member entry.0 entry.1 (members_of entries)

-- The table at a key has keys that the user chooses. Each entry describes one item, in order. If
-- the key is missing, there are no items.
abbrev pub AreEntriesAt : {A : Type 0} → (List ℕ → Data → A → Type 0) → Option Data → List A → Type 0
AreEntriesAt Is found xs = (entries : List (List ℕ × Data)) × HoldsOr [] (λ es. table (members_of es)) found entries × AllZip (λ (entry : List ℕ × Data) x. Is entry.0 entry.1 x) entries xs
