-- What stands at a key of a table that is written row by row.
use Rattle.std.proofs.Common.{◌≡◌, ◌∙◌, ℕ, true, List, [], ◌∷◌, map, codes, Option, Some, None, Ordering, Less, Equal, Greater, refl, sym, ap, subst}
use Rattle.std.specs.Cmp.Lexicographic.{slice_cmp}
use Rattle.std.specs.List.{AllZip}
use Rattle.std.specs.Option.{option_map, option_or}
use Rattle.std.specs.Ordering.{nat_cmp, match_ordering}
use Rattle.toml.specs.Data.{Data, string, boolean, Members, no_members, member, get_member}
use Rattle.pb_manifest_types.specs.declared.inherited.Inheritable.{Inheritable}
use Rattle.pb_manifest_types.specs.declared.inherited.Inheritable.TheVariants.{Written, Workspace, Absent}
use Rattle.pb_manifest_types.specs.declared.inherited.Inherited.{Inherited}
use Rattle.pb_manifest_types.specs.declared.inherited.Inherited.TheVariants as inherited
use Rattle.pb_manifest_laws.specs.Values.{OfTable, HoldsOrTakes, HasOrTakes, IsTableAt, AreTablesAt, AreEntriesAt}
use Rattle.pb_manifest_laws.specs.Written.{Rows, with_key, members_with, table_with, list, entries, inheritable, inherited_value}

-- the value that the rows have for a key
abbrev pub in_rows : List ℕ → Rows → Option Data
in_rows k [] = None
in_rows k (row ∷ rows) = match_ordering (slice_cmp nat_cmp k row.0) (in_rows k rows) (option_or row.1 (in_rows k rows)) (in_rows k rows)

same_ways : {A : Type 0} (o : Ordering) (x : A) → x ≡ match_ordering o x x x
same_ways Less x = refl
same_ways Equal x = refl
same_ways Greater x = refl

looked : (k : List ℕ) (rows : Rows) → get_member k (members_with rows) ≡ in_rows k rows
looked k [] = refl
looked k (row ∷ rows) = by row.1 (looked k rows)
  where
    by : (o : Option Data) → get_member k (members_with rows) ≡ in_rows k rows → get_member k (with_key row.0 o (members_with rows)) ≡ match_ordering (slice_cmp nat_cmp k row.0) (in_rows k rows) (option_or o (in_rows k rows)) (in_rows k rows)
    by None rest = rest ∙ same_ways (slice_cmp nat_cmp k row.0) (in_rows k rows)
    by (Some d) rest = ap (λ found. match_ordering (slice_cmp nat_cmp k row.0) found (Some d) found) rest

alone : (o : Option Data) → option_or o None ≡ o
alone None = refl
alone (Some d) = refl

-- of the rows one has the key, and none behind it
pub at : (k : List ℕ) (rows : Rows) (o : Option Data) → in_rows k rows ≡ option_or o None → get_member k (members_with rows) ≡ o
at k rows o is = looked k rows ∙ is ∙ alone o

-- what holds of its value holds of what stands at the key
pub holds_at : (P : Option Data → Type 0) (k : List ℕ) (rows : Rows) (o : Option Data) → in_rows k rows ≡ option_or o None → P o → P (get_member k (members_with rows))
holds_at P k rows o is holds = subst P (sym (at k rows o is)) holds

pub takes : {A : Type 0} (write : A → Data) (x : Inheritable A) → HoldsOrTakes write (inheritable write x) x
takes write (Written x) = refl
takes write Workspace = (member (codes "workspace") (boolean true) no_members, refl, refl)
takes write Absent = refl

pub has_or_takes : {A : Type 0} (default : A) (write : A → Data) (x : Inherited A) → HasOrTakes default write (inherited_value write x) x
has_or_takes default write (inherited.Written x) = refl
has_or_takes default write inherited.Workspace = (member (codes "workspace") (boolean true) no_members, refl, refl)

-- a text that may be taken from the workspace, and one that may be left out
pub text_taken : (k : List ℕ) (rows : Rows) (x : Inheritable (List ℕ)) → in_rows k rows ≡ option_or (inheritable (λ t. string t) x) None → HoldsOrTakes (λ t. string t) (get_member k (members_with rows)) x
text_taken k rows x is = holds_at (λ o. HoldsOrTakes (λ t. string t) o x) k rows (inheritable (λ t. string t) x) is (takes (λ t. string t) x)

pub text_at : (k : List ℕ) (rows : Rows) (x : Option (List ℕ)) → in_rows k rows ≡ option_or (option_map (λ t. string t) x) None → get_member k (members_with rows) ≡ option_map (λ t. string t) x
text_at k rows x is = at k rows (option_map (λ t. string t) x) is

-- a table that may be left out
pub table_written : {A : Type 0} (Is : Members → A → Type 0) (rows : A → Rows) → ((ms : Members) (x : A) → Is ms x → Is (members_with (rows x)) x) → (found : Option Data) (o : Option A) → IsTableAt Is found o
    → IsTableAt Is (option_map (λ x. table_with (rows x)) o) o
table_written Is rows each None None is = tt
table_written Is rows each None (Some x) is = absurd is
table_written Is rows each (Some d) None is = absurd is
table_written Is rows each (Some d) (Some x) is = ((members_with (rows x), refl, each is.0.0 x is.0.2), tt)

-- tables in an array
pub tables_written : {A : Type 0} (Is : Members → A → Type 0) (rows : A → Rows) → ((ms : Members) (x : A) → Is ms x → Is (members_with (rows x)) x) → (found : Option Data) (xs : List A) → AreTablesAt Is found xs
    → AreTablesAt Is (list (λ x. table_with (rows x)) xs) xs
tables_written {A} Is rows each found xs is = (map (λ x. table_with (rows x)) xs, refl, zipped is.0 xs is.2)
  where
    zipped : (ds : List Data) (xs : List A) → AllZip (OfTable Is) ds xs → AllZip (OfTable Is) (map (λ x. table_with (rows x)) xs) xs
    zipped [] [] is = tt
    zipped [] (x ∷ xs) is = absurd is
    zipped (d ∷ ds) [] is = absurd is
    zipped (d ∷ ds) (x ∷ xs) is = ((members_with (rows x), refl, each is.0.0 x is.0.2), zipped ds xs is.1)

-- tables whose keys the user chooses
module _ {A : Type 0} (Is : List ℕ → Data → A → Type 0) (key : A → List ℕ) (write : A → Data) (each : (name : List ℕ) (d : Data) (x : A) → Is name d x → Is (key x) (write x) x) where
  abbrev Each : List (List ℕ × Data) → List A → Type 0
  Each es xs = AllZip (λ (entry : List ℕ × Data) x. Is entry.0 entry.1 x) es xs

  zipped : (es : List (List ℕ × Data)) (xs : List A) → Each es xs → Each (map (λ x. (key x, write x)) xs) xs
  zipped [] [] is = tt
  zipped [] (x ∷ xs) is = absurd is
  zipped (e ∷ es) [] is = absurd is
  zipped (e ∷ es) (x ∷ xs) is = (each e.0 e.1 x is.0, zipped es xs is.1)

  pub entries_written : (found : Option Data) (xs : List A) → AreEntriesAt Is found xs → AreEntriesAt Is (entries key write xs) xs
  entries_written found xs is = (map (λ x. (key x, write x)) xs, refl, zipped is.0 xs is.2)
