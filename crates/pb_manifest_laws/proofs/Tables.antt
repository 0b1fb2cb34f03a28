-- Tables at a key, and tables whose keys the user chooses.
use Rattle.std.proofs.Common.{◌≡◌, ◌↔◌, ◌∙◌, ℕ, List, [], ◌∷◌, Option, Some, None, Ok, refl, sym, ap, subst}
use Rattle.std.specs.List.{AllZip}
use Rattle.toml.specs.Data.{Data, table, Items, no_items, item, Members, no_members, member, as_table}
use Rattle.toml.specs.View.{items_of}
use Rattle.pb_data.specs.UnlessOom.{◌>>=◌, some_or}
use Rattle.pb_manifest_types.specs.Values.{Read}
use Rattle.pb_manifest.specs.Values.{optional, each, each_entry, entries_of}
use Rattle.pb_manifest_types.specs.declared.fault.ManifestFault.{ManifestFault}
use Rattle.pb_manifest.proofs.Came.{came}
use Rattle.pb_manifest_laws.specs.Values.{members_of, AreEntriesAt, IsTableAt}

-- entries
module _ {A : Type 0} (read : List ℕ → Data → Read A) (Is : List ℕ → Data → A → Type 0) (reads : (name : List ℕ) (d : Data) (x : A) → (read name d ≡ Ok x) ↔ Is name d x) where
  abbrev Each : List (List ℕ × Data) → List A → Type 0
  Each entries xs = AllZip (λ (entry : List ℕ × Data) x. Is entry.0 entry.1 x) entries xs

  entries_only : (ms : Members) (xs : List A) → each_entry read ms ≡ Ok xs → (entries : List (List ℕ × Data)) × (ms ≡ members_of entries) × Each entries xs
  entries_only no_members xs h = let same : [] ≡ xs = cc in ([], refl, subst (Each []) same tt)
  entries_only (member name d ms) xs h =
      let a = came (read name d) (λ x. each_entry read ms >>= (λ rest. Ok (x ∷ rest))) xs h in
      let b = came (each_entry read ms) (λ rest. Ok (a.value ∷ rest)) xs a.more in
      let same : a.value ∷ b.value ≡ xs = cc (b.more) in
      let r = entries_only ms b.value b.was in
      ((name, d) ∷ r.0, ap (λ rest. member name d rest) r.1, subst (Each ((name, d) ∷ r.0)) same ((reads name d a.value).0 a.was, r.2))

  entries_back : (entries : List (List ℕ × Data)) (xs : List A) → Each entries xs → each_entry read (members_of entries) ≡ Ok xs
  entries_back [] [] is = refl
  entries_back [] (x ∷ xs) is = absurd is
  entries_back (entry ∷ entries) [] is = absurd is
  entries_back (entry ∷ entries) (x ∷ xs) is = λ i. (reads entry.0 entry.1 x).1 is.0 i >>= (λ y. entries_back entries xs is.1 i >>= (λ rest. Ok (y ∷ rest)))

  pub entries_at_only : (fault : ManifestFault) (found : Option Data) (xs : List A) → (optional (λ d. some_or fault (as_table d)) found >>= entries_of read) ≡ Ok xs → AreEntriesAt Is found xs
  entries_at_only fault None xs h = let same : [] ≡ xs = cc in ([], refl, subst (Each []) same tt)
  entries_at_only fault (Some (table ms)) xs h = let r = entries_only ms xs h in (r.0, ap (λ ns. table ns) r.1, r.2)
  entries_at_only fault (Some _) xs h = cc

  pub entries_at_back : (fault : ManifestFault) (found : Option Data) (xs : List A) → AreEntriesAt Is found xs → (optional (λ d. some_or fault (as_table d)) found >>= entries_of read) ≡ Ok xs
  entries_at_back fault None xs is = entries_back [] xs (subst (λ entries. Each entries xs) is.1 is.2)
  entries_at_back fault (Some d) xs is = ap (λ e. optional (λ d. some_or fault (as_table d)) (Some e) >>= entries_of read) is.1 ∙ entries_back is.0 xs is.2

-- items
module _ {A : Type 0} (read : Data → Read A) (Is : Data → A → Type 0) (reads : (d : Data) (x : A) → (read d ≡ Ok x) ↔ Is d x) where
  pub items_only : (ds : Items) (xs : List A) → each read ds ≡ Ok xs → (some : List Data) × (ds ≡ items_of some) × AllZip Is some xs
  items_only no_items xs h = let same : [] ≡ xs = cc in ([], refl, subst (AllZip Is []) same tt)
  items_only (item d ds) xs h =
      let a = came (read d) (λ x. each read ds >>= (λ rest. Ok (x ∷ rest))) xs h in
      let b = came (each read ds) (λ rest. Ok (a.value ∷ rest)) xs a.more in
      let same : a.value ∷ b.value ≡ xs = cc (b.more) in
      let r = items_only ds b.value b.was in
      (d ∷ r.0, ap (λ rest. item d rest) r.1, subst (AllZip Is (d ∷ r.0)) same ((reads d a.value).0 a.was, r.2))

  pub items_back : (some : List Data) (xs : List A) → AllZip Is some xs → each read (items_of some) ≡ Ok xs
  items_back [] [] is = refl
  items_back [] (x ∷ xs) is = absurd is
  items_back (d ∷ ds) [] is = absurd is
  items_back (d ∷ ds) (x ∷ xs) is = λ i. (reads d x).1 is.0 i >>= (λ y. items_back ds xs is.1 i >>= (λ rest. Ok (y ∷ rest)))

-- a table that may be left out
module _ {A : Type 0} (read : Members → Read A) (Is : Members → A → Type 0) (reads : (ms : Members) (x : A) → (read ms ≡ Ok x) ↔ Is ms x)
    (inner : Option Members → Read (Option A)) (none : inner None ≡ Ok None) (some : (ms : Members) → inner (Some ms) ≡ (read ms >>= (λ x. Ok (Some x)))) where
  in_table : (ms : Members) (o : Option A) → (read ms >>= (λ x. Ok (Some x))) ≡ Ok o → IsTableAt Is (Some (table ms)) o
  in_table ms o h =
      let c = came (read ms) (λ x. Ok (Some x)) o h in
      let same : Some c.value ≡ o = cc (c.more) in
      subst (IsTableAt Is (Some (table ms))) same ((ms, refl, (reads ms c.value).0 c.was), tt)

  pub table_at_only : (fault : ManifestFault) (found : Option Data) (o : Option A) → (optional (λ d. some_or fault (as_table d)) found >>= inner) ≡ Ok o → IsTableAt Is found o
  table_at_only fault None o h = let same : None ≡ o = cc (sym none ∙ h) in subst (IsTableAt Is None) same tt
  table_at_only fault (Some (table ms)) o h = in_table ms o (sym (some ms) ∙ h)
  table_at_only fault (Some _) o h = cc

  pub table_at_back : (fault : ManifestFault) (found : Option Data) (o : Option A) → IsTableAt Is found o → (optional (λ d. some_or fault (as_table d)) found >>= inner) ≡ Ok o
  table_at_back fault None None is = none
  table_at_back fault None (Some x) is = absurd is
  table_at_back fault (Some d) None is = absurd is
  table_at_back fault (Some d) (Some x) is =
      ap (λ e. optional (λ d. some_or fault (as_table d)) (Some e) >>= inner) is.0.1 ∙ some is.0.0 ∙ ap (λ r. r >>= (λ y. Ok (Some y))) ((reads is.0.0 x).1 is.0.2)
