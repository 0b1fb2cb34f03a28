-- What every answer of a definition is.
use Rattle.std.proofs.Common.{◌≡◌, List, [], ◌∷◌, map, Bool, true, false, ◌&&◌, ap, sym, refl, subst, Option, Some, None, Ok, Err, IfSome, if◌then◌else◌, is_lt, nat_cmp, Ordering, Less, Equal, Greater}
use Rattle.std.proofs.lemmas.Bool.{and_parts}
use Rattle.std.proofs.lemmas.Cmp.{nat_list_cmp_total}
use Rattle.std.specs.Cmp.Lexicographic.{slice_cmp}
use Rattle.std.specs.List.{AllByRecursion}
use Rattle.std.specs.List.Sorted.{IsStrictlySortedBy}
use Rattle.std.specs.Ordering.{match_ordering}
use Rattle.toml.specs.Data.{Data, string, integer, float, boolean, datetime, array, table, Items, no_items, item, Members, no_members, member, get_member, as_table, is_before, is_sorted, members_are_sorted}
use Rattle.pb_data.specs.UnlessOom.{◌>>=◌, some_or}
use Rattle.pb_manifest_types.specs.Keys.{spelled}
use Rattle.pb_manifest_types.specs.Letters.{has_zero}
use Rattle.pb_manifest.specs.Promises.{IsPath, Ascend, AreEntries}
use Rattle.pb_manifest_types.specs.Values.{Text, Read}
use Rattle.pb_manifest.specs.Values.{value_at, optional, each, each_entry, entries_of, entries_at, table_of, table_at, array_of, text_of, path_of, zero_free, paths_of, path_at, paths_at, keys_of, keys_in, keys_at, table_in}
use Rattle.pb_manifest_types.specs.declared.fault.ManifestFault.TheVariants.{BadKind}
use Rattle.pb_manifest_types.specs.declared.key.Key.{Key}

-- every answer has the property
abbrev pub Yields : {A : Type 0} → (A → Type 0) → Read A → Type 0
Yields {A} P answer = (x : A) → answer ≡ Ok x → P x

pub yields_ok : {A : Type 0} (P : A → Type 0) (x : A) → P x → Yields P (Ok x)
yields_ok P x p y is = let same : x ≡ y = cc in subst P same p

pub yields_err : {A : Type 0} (P : A → Type 0) (e : _) → Yields {A = A} P (Err e)
yields_err P e y is = cc

pub yields_then : {A B : Type 0} (P : B → Type 0) (first : Read A) (next : A → Read B) → ((a : A) → first ≡ Ok a → Yields P (next a)) → Yields P (first >>= next)
yields_then P (Ok a) next step x is = step a refl x is
yields_then P (Err e) next step x is = cc

pub yields_either : {A : Type 0} (P : A → Type 0) (b : Bool) (taken other : Read A) → (b ≡ true → Yields P taken) → (b ≡ false → Yields P other) → Yields P (if b then taken else other)
yields_either P true taken other a b = a refl
yields_either P false taken other a b = b refl

pub yields_some : {A : Type 0} (P : A → Type 0) (e : _) (found : Option A) → ((x : A) → found ≡ Some x → P x) → Yields P (some_or e found)
yields_some P e None all x is = cc
yields_some P e (Some y) all x is = let same : y ≡ x = cc in all x (ap Some same)

pub yields_optional : {A : Type 0} (P : A → Type 0) (read : Data → Read A) (found : Option Data) → ((d : Data) → found ≡ Some d → Yields P (read d)) → Yields (λ o. IfSome o P) (optional read found)
yields_optional P read None all = yields_ok (λ o. IfSome o P) None tt
yields_optional P read (Some d) all = yields_then (λ o. IfSome o P) (read d) (λ x. Ok (Some x)) (λ x was. yields_ok (λ o. IfSome o P) (Some x) (all d refl x was))

pub yields_each : {A : Type 0} (P : A → Type 0) (read : Data → Read A) → ((d : Data) → Yields P (read d)) → (ds : Items) → Yields (AllByRecursion P) (each read ds)
yields_each P read all no_items = yields_ok (AllByRecursion P) [] tt
yields_each P read all (item d ds) =
    yields_then (AllByRecursion P) (read d) _ (λ x was.
    yields_then (AllByRecursion P) (each read ds) _ (λ xs were.
    yields_ok (AllByRecursion P) (x ∷ xs) (all d x was, yields_each P read all ds xs were)))

-- the value at a key of a sorted table is sorted
pub value_sorted : (k : Text) (ms : Members) (d : Data) → members_are_sorted ms ≡ true → get_member k ms ≡ Some d → is_sorted d ≡ true
value_sorted k no_members d h at = cc
value_sorted k (member l e ms) d h at =
    let (front, more) = and_parts (is_before l ms && is_sorted e) (members_are_sorted ms) h in
    let (next, here) = and_parts (is_before l ms) (is_sorted e) front in
    by (slice_cmp nat_cmp k l) at here (value_sorted k ms d more)
  where
    by : (o : Ordering) → match_ordering o (get_member k ms) (Some e) (get_member k ms) ≡ Some d → is_sorted e ≡ true → (get_member k ms ≡ Some d → is_sorted d ≡ true) → is_sorted d ≡ true
    by Less at here later = later at
    by Equal at here later = let same : e ≡ d = cc in subst (λ x. is_sorted x ≡ true) same here
    by Greater at here later = later at

pub table_sorted : (d : Data) (ms : Members) → is_sorted d ≡ true → as_table d ≡ Some ms → members_are_sorted ms ≡ true
table_sorted (string s) ms h at = cc
table_sorted (integer z) ms h at = cc
table_sorted (float x) ms h at = cc
table_sorted (boolean b) ms h at = cc
table_sorted (datetime dt) ms h at = cc
table_sorted (array ds) ms h at = cc
table_sorted (table ns) ms h at = let same : ns ≡ ms = cc in subst (λ x. members_are_sorted x ≡ true) same h

abbrev pub Ordered : Members → Type 0
Ordered ms = members_are_sorted ms ≡ true

-- the table at a key of a sorted table is sorted
pub yields_table : (k : Key) (ms : Members) → Ordered ms → Yields (λ o. IfSome o Ordered) (table_at k ms)
yields_table k ms h =
    yields_optional Ordered (table_of k) (value_at k ms) (λ d at. yields_some Ordered (BadKind k) (as_table d) (λ ns is. table_sorted d ns (value_sorted (spelled k) ms d h at) is))

-- a key that comes before the first of sorted members comes before each
earlier : (k : Text) (ms : Members) → is_before k ms ≡ true → Ordered ms → AllByRecursion (λ l. slice_cmp nat_cmp k l ≡ Less) (keys_of ms)
earlier k no_members first h = tt
earlier k (member l d ms) first h =
    let (front, more) = and_parts (is_before l ms && is_sorted d) (members_are_sorted ms) h in
    let (next, here) = and_parts (is_before l ms) (is_sorted d) front in
    (less_of (slice_cmp nat_cmp k l) first, earlier k ms (onward ms (less_of (slice_cmp nat_cmp k l) first) next) more)
  where
    less_of : (o : Ordering) → is_lt o ≡ true → o ≡ Less
    less_of Less is = refl
    less_of Equal is = cc
    less_of Greater is = cc

    onward : (ns : Members) → slice_cmp nat_cmp k l ≡ Less → is_before l ns ≡ true → is_before k ns ≡ true
    onward no_members before is = refl
    onward (member m e ns) before is = ap is_lt (nat_list_cmp_total.trans k l m before (less_of (slice_cmp nat_cmp l m) is))

pub ordered_ascend : (ms : Members) → Ordered ms → Ascend (keys_of ms)
unfolding IsStrictlySortedBy
ordered_ascend no_members h = tt
ordered_ascend (member k d ms) h =
    let (front, more) = and_parts (is_before k ms && is_sorted d) (members_are_sorted ms) h in
    let (next, here) = and_parts (is_before k ms) (is_sorted d) front in
    (earlier k ms next more, ordered_ascend ms more)

-- entries that are read one for one, by their keys
pub record Read1 {A : Type 0} (key : A → Text) (P : A → Type 0) (name : Text) (x : A) : Type 0 where
  pub key_is : key x ≡ name
  pub is : P x

record ReadAll {A : Type 0} (key : A → Text) (P : A → Type 0) (ms : Members) (xs : List A) : Type 0 where
  pub keys_are : map key xs ≡ keys_of ms
  pub are : AllByRecursion P xs

read_all : {A : Type 0} (key : A → Text) (P : A → Type 0) (read : Text → Data → Read A) → ((name : Text) (d : Data) → is_sorted d ≡ true → Yields (Read1 key P name) (read name d))
    → (ms : Members) → Ordered ms → Yields (ReadAll key P ms) (each_entry read ms)
read_all key P read all no_members h = yields_ok (ReadAll key P no_members) [] (record { keys_are = refl; are = tt })
read_all key P read all (member name d ms) h =
    let (front, more) = and_parts (is_before name ms && is_sorted d) (members_are_sorted ms) h in
    let (next, here) = and_parts (is_before name ms) (is_sorted d) front in
    yields_then (ReadAll key P (member name d ms)) (read name d) _ (λ x was.
    yields_then (ReadAll key P (member name d ms)) (each_entry read ms) _ (λ xs were.
    let one = all name d here x was in
    let rest = read_all key P read all ms more xs were in
    yields_ok (ReadAll key P (member name d ms)) (x ∷ xs) (record { keys_are = (λ i. one.key_is i ∷ rest.keys_are i); are = (one.is, rest.are) })))

ordered_entries : {A : Type 0} (key : A → Text) (P : A → Type 0) (ms : Members) (xs : List A) → Ordered ms → ReadAll key P ms xs → AreEntries key P xs
ordered_entries key P ms xs h a = record { order = subst Ascend (sym a.keys_are) (ordered_ascend ms h); each = a.are }

-- the entries of a sorted table
pub yields_entries : {A : Type 0} (key : A → Text) (P : A → Type 0) (read : Text → Data → Read A) → ((name : Text) (d : Data) → is_sorted d ≡ true → Yields (Read1 key P name) (read name d))
    → (found : Option Members) → IfSome found Ordered → Yields (AreEntries key P) (entries_of read found)
unfolding IsStrictlySortedBy
yields_entries key P read all None h = yields_ok (AreEntries key P) [] (record { order = tt; each = tt })
yields_entries key P read all (Some ms) h = λ xs were. ordered_entries key P ms xs h (read_all key P read all ms h xs were)

pub yields_entries_at : {A : Type 0} (key : A → Text) (P : A → Type 0) (read : Text → Data → Read A) → ((name : Text) (d : Data) → is_sorted d ≡ true → Yields (Read1 key P name) (read name d))
    → (k : Key) (ms : Members) → Ordered ms → Yields (AreEntries key P) (entries_at read k ms)
yields_entries_at key P read all k ms h =
    yields_then (AreEntries key P) (table_at k ms) (entries_of read) (λ found was. yields_entries key P read all found (yields_table k ms h found was))

-- paths
pub yields_zero_free : (k : Key) (text : Text) → Yields IsPath (zero_free k text)
yields_zero_free k text = by (has_zero text) refl
  where
    by : (b : Bool) → has_zero text ≡ b → Yields IsPath (if b then Err (BadKind k) else Ok text)
    by true is = yields_err IsPath (BadKind k)
    by false is = yields_ok IsPath text is

pub yields_path : (k : Key) (d : Data) → Yields IsPath (path_of k d)
yields_path k d = yields_then IsPath (text_of k d) (zero_free k) (λ text was. yields_zero_free k text)

pub yields_path_at : (k : Key) (ms : Members) → Yields (λ o. IfSome o IsPath) (path_at k ms)
yields_path_at k ms = yields_optional IsPath (path_of k) (value_at k ms) (λ d at. yields_path k d)

pub yields_paths_at : (k : Key) (ms : Members) → Yields (λ o. IfSome o (AllByRecursion IsPath)) (paths_at k ms)
yields_paths_at k ms =
    yields_optional (AllByRecursion IsPath) (paths_of k) (value_at k ms) (λ d at.
    yields_then (AllByRecursion IsPath) (array_of k d) _ (λ ds was. yields_each IsPath (path_of k) (yields_path k) ds))

-- the keys of a table that may be missing
pub keys_ascend : (k : Key) (ms : Members) → Ordered ms → Ascend (keys_at k ms)
unfolding IsStrictlySortedBy
keys_ascend k ms h = by (value_at k ms) (λ d at. value_sorted (spelled k) ms d h at)
  where
    in_table : (found : Option Members) → IfSome found Ordered → Ascend (keys_in found)
    in_table None o = tt
    in_table (Some ns) o = ordered_ascend ns o

    of_data : (d : Data) → is_sorted d ≡ true → (found : Option Members) → as_table d ≡ found → IfSome found Ordered
    of_data d s None is = tt
    of_data d s (Some ns) is = table_sorted d ns s is

    by : (found : Option Data) → ((d : Data) → found ≡ Some d → is_sorted d ≡ true) → Ascend (keys_in (table_in found))
    by None all = tt
    by (Some d) all = in_table (as_table d) (of_data d (all d refl) (as_table d) refl)
