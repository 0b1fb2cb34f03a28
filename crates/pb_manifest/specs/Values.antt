-- Which value a table has at a key, and which values are allowed there.
--
-- Each definition that reads something returns the value that was read, or the first fault.
use Rattle.std.specs.Prelude.{List, [], ◌∷◌, Bool, true, false, if◌then◌else◌, Option, Some, None, Ok, Err, is_some, unwrap_or}
use Rattle.toml.specs.Data.{Data, Items, no_items, item, Members, no_members, member, get_member, as_str, as_bool, as_table, as_array}
use Rattle.pb_data.specs.UnlessOom as answers
use Rattle.pb_data.specs.UnlessOom.{◌>>=◌, some_or}
use Rattle.pb_manifest_types.specs.Keys.{spelled}
use Rattle.pb_manifest_types.specs.Letters.{has_zero}
use Rattle.pb_manifest_types.specs.Values.{Text, Read}
use Rattle.pb_manifest_types.specs.declared.key.Key.{Key}
use Rattle.pb_manifest_types.specs.declared.key.Key.TheVariants as key
use Rattle.pb_manifest_types.specs.declared.fault.ManifestFault.TheVariants.{BadKind, OutOfMemory}
use Rattle.pb_manifest_types.specs.declared.inherited.Inheritable.{Inheritable}
use Rattle.pb_manifest_types.specs.declared.inherited.Inheritable.TheVariants.{Written, Workspace, Absent}
use Rattle.pb_manifest_types.specs.declared.inherited.Inherited.{Inherited}
use Rattle.pb_manifest_types.specs.declared.inherited.Inherited.TheVariants as inherited

-- the result shows exactly this answer, unless memory ran out
abbrev pub GivesAs : {T A : Type 0} → (T → A) → Read T → Read A → Type 0
GivesAs shows result answer = answers.UnlessOom OutOfMemory shows result answer

-- the value that a table has at a key, if there is one
abbrev pub value_at : Key → Members → Option Data
value_at k ms = get_member (spelled k) ms

-- the key is present, whatever its value is
abbrev pub has : Key → Members → Bool
has k ms = is_some (value_at k ms)

-- the value that is read from what is written, or no value if nothing is written
abbrev pub optional : {A : Type 0} → (Data → Read A) → Option Data → Read (Option A)
optional read None = Ok None
optional read (Some d) = read d >>= (λ x. Ok (Some x))

-- the values that are read from the items one by one, or the first fault
abbrev pub each : {A : Type 0} → (Data → Read A) → Items → Read (List A)
each read no_items = Ok []
each read (item d ds) = read d >>= (λ x. each read ds >>= (λ xs. Ok (x ∷ xs)))

-- the values that are read from the entries one by one, in byte order of the keys, or the first
-- fault
abbrev pub each_entry : {A : Type 0} → (Text → Data → Read A) → Members → Read (List A)
each_entry read no_members = Ok []
each_entry read (member name d ms) = read name d >>= (λ x. each_entry read ms >>= (λ xs. Ok (x ∷ xs)))

-- The value must be a text. The next three definitions require a truth value, a list or a table.
abbrev pub text_of : Key → Data → Read Text
text_of k d = some_or (BadKind k) (as_str d)

abbrev pub truth_of : Key → Data → Read Bool
truth_of k d = some_or (BadKind k) (as_bool d)

abbrev pub array_of : Key → Data → Read Items
array_of k d = some_or (BadKind k) (as_array d)

abbrev pub table_of : Key → Data → Read Members
table_of k d = some_or (BadKind k) (as_table d)

-- The text must have no byte 0. A path must be a text without byte 0.
abbrev pub zero_free : Key → Text → Read Text
zero_free k text = if has_zero text then Err (BadKind k) else Ok text

abbrev pub path_of : Key → Data → Read Text
path_of k d = text_of k d >>= zero_free k

-- The value must be a list of texts. In the next definition the value must be a list of paths.
abbrev pub texts_of : Key → Data → Read (List Text)
texts_of k d = array_of k d >>= each (text_of k)

abbrev pub paths_of : Key → Data → Read (List Text)
paths_of k d = array_of k d >>= each (path_of k)

-- The value at a key, which must be of the required kind. The key may be missing.
abbrev pub text_at : Key → Members → Read (Option Text)
text_at k ms = optional (text_of k) (value_at k ms)

abbrev pub truth_at : Key → Members → Read (Option Bool)
truth_at k ms = optional (truth_of k) (value_at k ms)

abbrev pub path_at : Key → Members → Read (Option Text)
path_at k ms = optional (path_of k) (value_at k ms)

abbrev pub texts_at : Key → Members → Read (Option (List Text))
texts_at k ms = optional (texts_of k) (value_at k ms)

-- the list, or the empty list if the key is missing
abbrev pub listed : {A : Type 0} → Option (List A) → List A
listed found = unwrap_or found []

abbrev pub listed_texts_at : Key → Members → Read (List Text)
listed_texts_at k ms = texts_at k ms >>= (λ found. Ok (listed found))

abbrev pub paths_at : Key → Members → Read (Option (List Text))
paths_at k ms = optional (paths_of k) (value_at k ms)

abbrev pub table_at : Key → Members → Read (Option Members)
table_at k ms = optional (table_of k) (value_at k ms)

-- the entries of a table that may be missing; without a table there are no entries
abbrev pub entries_of : {A : Type 0} → (Text → Data → Read A) → Option Members → Read (List A)
entries_of read None = Ok []
entries_of read (Some ms) = each_entry read ms

abbrev pub entries_at : {A : Type 0} → (Text → Data → Read A) → Key → Members → Read (List A)
entries_at read k ms = table_at k ms >>= entries_of read

-- the keys of a table, in the table's order
abbrev pub keys_of : Members → List Text
keys_of no_members = []
keys_of (member name d ms) = name ∷ keys_of ms

abbrev pub table_in : Option Data → Option Members
table_in None = None
table_in (Some d) = as_table d

abbrev pub keys_in : Option Members → List Text
keys_in None = []
keys_in (Some ms) = keys_of ms

-- the keys of the table at a key, or no keys if there is no table
abbrev pub keys_at : Key → Members → List Text
keys_at k ms = keys_in (table_in (value_at k ms))

-- the value is written and true
abbrev pub is_true : Option Bool → Bool
is_true None = false
is_true (Some b) = b

abbrev pub truth_in : Option Data → Option Bool
truth_in None = None
truth_in (Some d) = as_bool d

-- the table contains `workspace = true`
abbrev pub takes_workspace : Members → Bool
takes_workspace ms = is_true (truth_in (value_at key.Workspace ms))

-- The value is inherited from the workspace. If the value is a table, it must contain `workspace =
-- true`. Any other value is not inherited.
abbrev pub is_taken : Key → Option Members → Read Bool
is_taken k None = Ok false
is_taken k (Some ms) = if takes_workspace ms then Ok true else Err (BadKind k)

-- a value that is written, or is inherited by `{ workspace = true }` (The Cargo Book, Workspaces)
abbrev pub written_or_taken : {A : Type 0} → Key → (Data → Read A) → Data → Read (Inheritable A)
written_or_taken k read d = is_taken k (as_table d) >>= (λ taken. if taken then Ok Workspace else (read d >>= (λ x. Ok (Written x))))

abbrev pub inheritable_in : {A : Type 0} → Key → (Data → Read A) → Option Data → Read (Inheritable A)
inheritable_in k read None = Ok Absent
inheritable_in k read (Some d) = written_or_taken k read d

-- the value at a key, if a package may inherit this value from the workspace
abbrev pub inheritable_at : {A : Type 0} → Key → (Data → Read A) → Members → Read (Inheritable A)
inheritable_at k read ms = inheritable_in k read (value_at k ms)

abbrev pub inheritable_text_at : Key → Members → Read (Inheritable Text)
inheritable_text_at k ms = inheritable_at k (text_of k) ms

abbrev pub inheritable_texts_at : Key → Members → Read (Inheritable (List Text))
inheritable_texts_at k ms = inheritable_at k (texts_of k) ms

-- the value, or the default if neither a value nor `{ workspace = true }` is written
abbrev pub or_default : {A : Type 0} → A → Inheritable A → Inherited A
or_default default (Written x) = inherited.Written x
or_default default Workspace = inherited.Workspace
or_default default Absent = inherited.Written default
