-- Tables from names to values, in byte order of the names.
use Rattle.std.specs.Prelude.{ℕ, List}
use Rattle.std.specs.BTreeMap.{insert_entry}
use Rattle.std.specs.Ordering.{nat_cmp}
use Rattle.std.specs.Cmp.Lexicographic.{slice_cmp}

-- the entries after one entry is added, in byte order of the names; the new entry replaces an entry
-- of the same name
abbrev pub with_entry : {V : Type 0} → List (List ℕ × V) → List ℕ → V → List (List ℕ × V)
with_entry entries name value = insert_entry (slice_cmp nat_cmp) entries name value
