-- A table whose keys the user chooses tells the fault of its lowest bad entry.
use Rattle.std.proofs.Common.{◌≡◌, List, ◌∷◌, Some, None, Ok, Err, refl, sym, true, is_lt, Ordering, Less, Equal, Greater, nat_cmp}
use Rattle.std.proofs.lemmas.Cmp.{nat_list_cmp_total}
use Rattle.std.proofs.lemmas.Option.{none-some}
use Rattle.std.specs.Cmp.Lexicographic.{slice_cmp}
use Rattle.std.specs.List.{AllByRecursion}
use Rattle.std.specs.List.Sorted.{IsStrictlySortedBy}
use Rattle.std.specs.Ordering.{ordering_reverse}
use Rattle.toml.specs.Data.{Data, Members, no_members, member}
use Rattle.pb_data.specs.UnlessOom.{◌>>=◌}
use Rattle.pb_manifest.specs.FirstFaults.{told, TableHas, here, further, IsOfLowestEntry, TellsLowestEntry}
use Rattle.pb_manifest.specs.Promises.{Ascend}
use Rattle.pb_manifest_types.specs.Values.{Text, Read}
use Rattle.pb_manifest.specs.Values.{each_entry, keys_of}
use Rattle.pb_manifest_types.specs.declared.fault.ManifestFault.{ManifestFault}

-- no key is below itself, nor above one that is above it
self_order : (o : Ordering) → o ≡ ordering_reverse o → o ≡ Less → ⊥
self_order Less e is = cc
self_order Equal e is = cc
self_order Greater e is = cc

not_below_itself : (a : Text) → slice_cmp nat_cmp a a ≡ Less → ⊥
not_below_itself a is = self_order (slice_cmp nat_cmp a a) (nat_list_cmp_total.antisymm a a) is

not_both : (a b : Text) → slice_cmp nat_cmp a b ≡ Less → slice_cmp nat_cmp b a ≡ Less → ⊥
not_both a b below above = not_below_itself a (nat_list_cmp_total.trans a b a below above)

less_of : (o : Ordering) → is_lt o ≡ true → o ≡ Less
less_of Less is = refl
less_of Equal is = cc
less_of Greater is = cc

-- what holds of each key holds of that of an entry
of_entry : (P : Text → Type 0) (name : Text) (d : Data) (ms : Members) → AllByRecursion P (keys_of ms) → TableHas name d ms → P name
of_entry P name d _ all (here ms) = all.0
of_entry P name d _ all (further other e ms rest) = of_entry P name d ms all.1 rest

module _ {A : Type 0} (read : Text → Data → Read A) where
  -- what two readings one after another tell
  told_first : (p : Read A) (rest : Read (List A)) → told (p >>= (λ x. rest >>= (λ xs. Ok (x ∷ xs)))) ≡ None → told p ≡ None
  told_first (Ok x) rest e = refl
  told_first (Err f) rest e = absurd (none-some f (sym e))

  told_rest : (p : Read A) (rest : Read (List A)) → told (p >>= (λ x. rest >>= (λ xs. Ok (x ∷ xs)))) ≡ None → told rest ≡ None
  told_rest (Ok x) (Ok xs) e = refl
  told_rest (Ok x) (Err f) e = absurd (none-some f (sym e))
  told_rest (Err f) rest e = absurd (none-some f (sym e))

  taken : (name : Text) (d : Data) (ms : Members) → TableHas name d ms → told (each_entry read ms) ≡ None → told (read name d) ≡ None
  taken name d _ (here ms) none = told_first (read name d) (each_entry read ms) none
  taken name d _ (further other e ms rest) none = taken name d ms rest (told_rest (read other e) (each_entry read ms) none)

  -- an entry of a lower key is not the lowest itself, nor one behind it
  none_lower : (name : Text) (d : Data) (ms : Members) → AllByRecursion (λ l. slice_cmp nat_cmp name l ≡ Less) (keys_of ms)
      → (other : Text) (e : Data) → TableHas other e (member name d ms) → is_lt (slice_cmp nat_cmp other name) ≡ true → told (read other e) ≡ None
  none_lower name d ms above _ _ (here _) below = absurd (not_below_itself name (less_of (slice_cmp nat_cmp name name) below))
  none_lower name d ms above other e (further _ _ _ rest) below =
      absurd (not_both name other (of_entry (λ l. slice_cmp nat_cmp name l ≡ Less) other e ms above rest) (less_of (slice_cmp nat_cmp other name) below))

  lower_behind : (name : Text) (d : Data) (ms : Members) (lowest : Text) → told (read name d) ≡ None → ((other : Text) (e : Data) → TableHas other e ms → is_lt (slice_cmp nat_cmp other lowest) ≡ true → told (read other e) ≡ None)
      → (other : Text) (e : Data) → TableHas other e (member name d ms) → is_lt (slice_cmp nat_cmp other lowest) ≡ true → told (read other e) ≡ None
  lower_behind name d ms lowest fine rest _ _ (here _) below = fine
  lower_behind name d ms lowest fine rest other e (further _ _ _ there) below = rest other e there below

  behind : (name : Text) (d : Data) (ms : Members) (fault : ManifestFault) → told (read name d) ≡ None → IsOfLowestEntry read ms fault → IsOfLowestEntry read (member name d ms) fault
  behind name d ms fault fine is = record {
    name = is.name;
    value = is.value;
    stands = further name d ms is.stands;
    tells = is.tells;
    lower = lower_behind name d ms is.name fine is.lower;
  }

  by : (name : Text) (d : Data) (ms : Members) (fault : ManifestFault) → AllByRecursion (λ l. slice_cmp nat_cmp name l ≡ Less) (keys_of ms)
      → (told (each_entry read ms) ≡ Some fault → IsOfLowestEntry read ms fault)
      → (p : Read A) → read name d ≡ p → (rest : Read (List A)) → each_entry read ms ≡ rest
      → told (p >>= (λ x. rest >>= (λ xs. Ok (x ∷ xs)))) ≡ Some fault → IsOfLowestEntry read (member name d ms) fault
  by name d ms fault above known (Ok x) is (Ok xs) are e = absurd (none-some fault e)
  by name d ms fault above known (Ok x) is (Err f) are e = behind name d ms fault (rw is refl) (known (rw are e))
  by name d ms fault above known (Err f) is rest are e = record {
    name = name;
    value = d;
    stands = here ms;
    tells = rw is e;
    lower = none_lower name d ms above;
  }

  refused : (ms : Members) (fault : ManifestFault) → Ascend (keys_of ms) → told (each_entry read ms) ≡ Some fault → IsOfLowestEntry read ms fault
  unfolding IsStrictlySortedBy
  refused no_members fault order e = absurd (none-some fault e)
  refused (member name d ms) fault order e = by name d ms fault order.0 (λ q. refused ms fault order.1 q) (read name d) refl (each_entry read ms) refl e

  pub lowest_entry : TellsLowestEntry read
  lowest_entry = record { refused = refused; taken = λ ms none name d entry. taken name d ms entry none }
