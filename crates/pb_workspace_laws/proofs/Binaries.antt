-- The binaries of a package: those of `[[bin]]`, and those that are found.
use Rattle.std.proofs.Common.{inl, inr, ◌≡◌, ◌≢◌, ◌⊎◌, ◌∙◌, ℕ, Bool, true, false, cond, if◌then◌else◌, codes, List, [], ◌∷◌, ◌++◌, Contains, Option, Some, None, refl, sym, ap, subst}
use Rattle.std.proofs.lemmas.Slice.Eq.{bytes_eq-Decides}
use Rattle.std.specs.List.Sorted.{IsStrictlySortedBy}
use Rattle.std.specs.Str.{bytes_eq}
use Rattle.pb_graph.proofs.Membership.{none, single, head, tail, cases}
use Rattle.pb_manifest_types.specs.Letters as letters
use Rattle.pb_workspace_types.specs.declared.package.Binary.{Binary}
use Rattle.pb_place_types.specs.Paths.{below}
use Rattle.pb_place_types.specs.World.{World, FilesHavePaths}
use Rattle.pb_workspace_package.specs.Binaries.{main_source, with_binaries}
use Rattle.pb_workspace_package.specs.FoundBinaries.{main_binary, found_binaries}
use Rattle.pb_workspace_package.specs.Sources.{own_source}
use Rattle.pb_workspace_laws.specs.Binaries.{in_bin, source_paths}
use Rattle.pb_workspace_laws.specs.Files.{is_file, first_file}
use Rattle.pb_workspace_laws.proofs.BinPaths.{path_in, list_in, found_to, found_from}
use Rattle.pb_workspace_laws.proofs.Sorting.{Name, Rises, names, put, put_rises, put_new, put_old, put_from}

abbrev pub Bins : Type 0
Bins = List (Name × Binary)

-- what is put under a name
pub rises_on : (es : Bins) (bs : List Binary) → Rises (names es) → Rises (names (with_binaries es bs))
rises_on es [] rises = rises
rises_on es (b ∷ bs) rises = rises_on (put es b.name b) bs (put_rises es b.name b rises)

abbrev pub Unnamed : Name → List Binary → Type 0
Unnamed name bs = (b : Binary) → Contains bs b → b.name ≢ name

-- the value under a name is one of these that have the name, or none has it and it stood there before
abbrev pub IsPutOrOld : Bins → List Binary → Name × Binary → Type 0
IsPutOrOld es bs e = (Contains bs e.1 × (e.1.name ≡ e.0)) ⊎ (Contains es e × Unnamed e.0 bs)

pub put_or_old : (es : Bins) (bs : List Binary) (e : Name × Binary) → Rises (names es) → Contains (with_binaries es bs) e → IsPutOrOld es bs e
put_or_old es [] e rises there = inr (there, λ b is. absurd (none b is))
put_or_old es (b ∷ bs) e rises there = elim (put_or_old (put es b.name b) bs e (put_rises es b.name b rises) there) [
  | inl later ↦ inl (tail b bs e.1 later.0, later.1)
  | inr before ↦ (elim (put_from es b.name b e rises before.0) [
    | inl new ↦ inl (subst (Contains (b ∷ bs)) (ap (λ (x : Name × Binary). x.1) new) (head b bs), ap (λ (x : Name × Binary). x.1.name) (sym new) ∙ ap (λ (x : Name × Binary). x.0) new)
    | inr old ↦ inr (old.1, λ c is. unnamed c is old.0 before.1)
  ])
]
  where
    unnamed : (c : Binary) → Contains (b ∷ bs) c → e.0 ≢ b.name → Unnamed e.0 bs → c.name ≢ e.0
    unnamed c is other rest same = elim (cases b bs c is) [
      | inl here ↦ other (sym same ∙ ap (λ (x : Binary). x.name) (sym here))
      | inr later ↦ rest c later same
    ]

-- what stands under a name stays where all that have the name are the same
pub stays : (es : Bins) (bs : List Binary) (name : Name) (x : Binary) → Contains es (name, x) → ((b : Binary) → Contains bs b → b.name ≡ name → b ≡ x) → Contains (with_binaries es bs) (name, x)
stays es [] name x there same = there
stays es (b ∷ bs) name x there same = stays (put es b.name b) bs name x (by (bytes_eq name b.name) refl) (λ c is. same c (tail b bs c is))
  where
    by : (r : Bool) → bytes_eq name b.name ≡ r → Contains (put es b.name b) (name, x)
    by true at =
        let named : name ≡ b.name = (bytes_eq-Decides name b.name).0 at in
        let one : b ≡ x = same b (head b bs) (sym named) in
        subst (Contains (put es b.name b)) (λ i. (sym named i, one i)) (put_new es b.name b)
    by false at = put_old es b.name b (name, x) there (λ named. let clash : true ≡ false = sym ((bytes_eq-Decides name b.name).1 named) ∙ at in cc)

pub stands : (es : Bins) (bs : List Binary) (x : Binary) → Contains bs x → ((b : Binary) → Contains bs b → b.name ≡ x.name → b ≡ x) → Contains (with_binaries es bs) (x.name, x)
stands es [] x there same = absurd (none x there)
stands es (b ∷ bs) x there same = elim (cases b bs x there) [
  | inl here ↦ stays (put es b.name b) bs x.name x (subst (λ (y : Binary). Contains (put es b.name b) (y.name, y)) here (put_new es b.name b)) (λ c is. same c (tail b bs c is))
  | inr later ↦ stands (put es b.name b) bs x later (λ c is. same c (tail b bs c is))
]

in_two : (es : Bins) (xs ys : List Binary) → with_binaries es (xs ++ ys) ≡ with_binaries (with_binaries es xs) ys
in_two es [] ys = refl
in_two es (x ∷ xs) ys = in_two (put es x.name x) xs ys

pub nothing_rises : Rises (names {V = Binary} [])
unfolding IsStrictlySortedBy
nothing_rises = tt

module _ (sources : World) (folder : List ℕ) (paths : FilesHavePaths sources) (package_name : List ℕ) (letters_are : letters.is_name package_name ≡ true) where
  abbrev pub is_one : Bool → Name → Bool
  is_one nested name = is_file sources folder (path_in nested name)

  abbrev pub has_main : Bool
  has_main = is_file sources folder (codes "src/main.rs")

  abbrev pub nested_list : List Binary
  nested_list = list_in sources folder true

  abbrev pub flat_list : List Binary
  flat_list = list_in sources folder false

  abbrev pub main_list : List Binary
  main_list = main_binary package_name (own_source folder sources main_source)

  abbrev pub first : Name → Option (List ℕ)
  first name = first_file sources folder (source_paths package_name name)

  -- which index is the first
  abbrev chosen : Bool → Bool → Bool → Bool → Name → Option (List ℕ)
  chosen own a b c name = (if own then cond a (Some (codes "src/main.rs")) (cond b (Some (path_in false name)) (cond c (Some (path_in true name)) None)) else cond b (Some (path_in false name)) (cond c (Some (path_in true name)) None))

  first_is : (name : Name) → first name ≡ chosen (bytes_eq name package_name) has_main (is_one false name) (is_one true name) name
  first_is name = by (bytes_eq name package_name)
    where
      by : (own : Bool) → first_file sources folder (if own then codes "src/main.rs" ∷ in_bin name else in_bin name) ≡ chosen own has_main (is_one false name) (is_one true name) name
      by true = refl
      by false = refl

  -- a binary that is found in its first index
  pub record IsFirst (b : Binary) : Type 0 where
    pub letters_of : letters.is_name b.name ≡ true
    pub relative : List ℕ
    pub is : first b.name ≡ Some relative
    pub source : b.source ≡ below folder relative
    pub features : b.required_features ≡ []

  main_is : (b : Binary) → Contains main_list b → (has_main ≡ true) × (b.name ≡ package_name) × (b.source ≡ below folder (codes "src/main.rs")) × (b.required_features ≡ [])
  main_is b there = by has_main refl there
    where
      by : (r : Bool) → has_main ≡ r → Contains (main_binary package_name (if r then Some (below folder main_source) else None)) b → (has_main ≡ true) × (b.name ≡ package_name) × (b.source ≡ below folder (codes "src/main.rs")) × (b.required_features ≡ [])
      by true at is =
          let same = single (record { name = package_name; source = below folder main_source; required_features = [] }) b is in
          (at, ap (λ (x : Binary). x.name) (sym same), ap (λ (x : Binary). x.source) (sym same), ap (λ (x : Binary). x.required_features) (sym same))
      by false at is = absurd (none b is)

  main_to : has_main ≡ true → Contains main_list (record { name = package_name; source = below folder (codes "src/main.rs"); required_features = [] })
  main_to on = by has_main on
    where
      by : (r : Bool) → r ≡ true → Contains (main_binary package_name (if r then Some (below folder main_source) else None)) (record { name = package_name; source = below folder (codes "src/main.rs"); required_features = [] })
      by true at = head (record { name = package_name; source = below folder (codes "src/main.rs"); required_features = [] }) []
      by false at = cc

  -- two that are found of one name in one list are one
  one_found : (nested : Bool) (b c : Binary) → Contains (list_in sources folder nested) b → Contains (list_in sources folder nested) c → b.name ≡ c.name → b ≡ c
  one_found nested b c there other same =
      let f = found_from sources folder nested b paths there in
      let g = found_from sources folder nested c paths other in
      let source : b.source ≡ c.source = f.source ∙ ap (λ n. below folder (path_in nested n)) same ∙ sym g.source in
      let features : b.required_features ≡ c.required_features = f.features ∙ sym g.features in
      λ i. record { name = same i; source = source i; required_features = features i }

  one_main : (b c : Binary) → Contains main_list b → Contains main_list c → b ≡ c
  one_main b c there other =
      let f = main_is b there in
      let g = main_is c other in
      let name : b.name ≡ c.name = f.1 ∙ sym g.1 in
      let source : b.source ≡ c.source = f.2 ∙ sym g.2 in
      let features : b.required_features ≡ c.required_features = f.3 ∙ sym g.3 in
      λ i. record { name = name i; source = source i; required_features = features i }

  abbrev pub found_all : Bins
  found_all = with_binaries (with_binaries (with_binaries [] nested_list) flat_list) main_list

  pub found_so : with_binaries [] (found_binaries folder sources package_name) ≡ found_all
  found_so = in_two [] nested_list (flat_list ++ main_list) ∙ in_two (with_binaries [] nested_list) flat_list main_list

  two_rise : Rises (names (with_binaries (with_binaries [] nested_list) flat_list))
  two_rise = rises_on (with_binaries [] nested_list) flat_list (rises_on [] nested_list nothing_rises)

  found_rises : Rises (names found_all)
  found_rises = rises_on (with_binaries (with_binaries [] nested_list) flat_list) main_list two_rise

  -- no other index comes before
  no_main : (name : Name) → Unnamed name main_list → bytes_eq name package_name ≡ true → has_main ≡ false
  no_main name unnamed own = by has_main refl
    where
      by : (r : Bool) → has_main ≡ r → r ≡ false
      by true at = absurd (unnamed (record { name = package_name; source = below folder (codes "src/main.rs"); required_features = [] }) (main_to at) (sym ((bytes_eq-Decides name package_name).0 own)))
      by false at = refl

  no_flat : (name : Name) → letters.is_name name ≡ true → Unnamed name flat_list → is_one false name ≡ false
  no_flat name named unnamed = by (is_one false name) refl
    where
      by : (r : Bool) → is_one false name ≡ r → r ≡ false
      by true at = absurd (unnamed (record { name = name; source = below folder (path_in false name); required_features = [] })
          (found_to sources folder false (record { name = name; source = below folder (path_in false name); required_features = [] }) (record { letters_are = named; file = at; source = refl; features = refl })) refl)
      by false at = refl

  after_main : (name : Name) (own a b c : Bool) (relative : List ℕ) → (own ≡ true → a ≡ false) → cond b (Some (path_in false name)) (cond c (Some (path_in true name)) None) ≡ Some relative → chosen own a b c name ≡ Some relative
  after_main name true true b c relative off is = let clash : true ≡ false = off refl in cc
  after_main name true false b c relative off is = is
  after_main name false a b c relative off is = is

  pub found_first : (e : Name × Binary) → Contains found_all e → (e.1.name ≡ e.0) × IsFirst e.1
  found_first e there = elim (put_or_old (with_binaries (with_binaries [] nested_list) flat_list) main_list e two_rise there) [
    | inl main ↦ (main.1, of_main main.0)
    | inr rest ↦ (elim (put_or_old (with_binaries [] nested_list) flat_list e (rises_on [] nested_list nothing_rises) rest.0) [
      | inl flat ↦ (flat.1, of_flat flat.0 (λ b is same. rest.1 b is (same ∙ flat.1)))
      | inr others ↦ (elim (put_or_old [] nested_list e nothing_rises others.0) [
        | inl nested ↦ (nested.1, of_nested nested.0 (λ b is same. rest.1 b is (same ∙ nested.1)) (λ b is same. others.1 b is (same ∙ nested.1)))
        | inr nowhere ↦ absurd (none e nowhere.0)
      ])
    ])
  ]
    where
      of_main : Contains main_list e.1 → IsFirst e.1
      of_main is =
          let m = main_is e.1 is in
          let own : bytes_eq e.1.name package_name ≡ true = (bytes_eq-Decides e.1.name package_name).1 m.1 in
          record {
            letters_of = ap letters.is_name m.1 ∙ letters_are;
            relative = codes "src/main.rs";
            is = first_is e.1.name ∙ (λ i. chosen (own i) (m.0 i) (is_one false e.1.name) (is_one true e.1.name) e.1.name);
            source = m.2;
            features = m.3;
          }

      of_flat : Contains flat_list e.1 → Unnamed e.1.name main_list → IsFirst e.1
      of_flat is none_main =
          let f = found_from sources folder false e.1 paths is in
          record {
            letters_of = f.letters_are;
            relative = path_in false e.1.name;
            is = first_is e.1.name ∙ after_main e.1.name (bytes_eq e.1.name package_name) has_main (is_one false e.1.name) (is_one true e.1.name) (path_in false e.1.name) (no_main e.1.name none_main)
                (ap (λ b. cond b (Some (path_in false e.1.name)) (cond (is_one true e.1.name) (Some (path_in true e.1.name)) None)) f.file);
            source = f.source;
            features = f.features;
          }

      of_nested : Contains nested_list e.1 → Unnamed e.1.name main_list → Unnamed e.1.name flat_list → IsFirst e.1
      of_nested is none_main none_flat =
          let f = found_from sources folder true e.1 paths is in
          record {
            letters_of = f.letters_are;
            relative = path_in true e.1.name;
            is = first_is e.1.name ∙ after_main e.1.name (bytes_eq e.1.name package_name) has_main (is_one false e.1.name) (is_one true e.1.name) (path_in true e.1.name) (no_main e.1.name none_main)
                (λ i. cond (no_flat e.1.name f.letters_are none_flat i) (Some (path_in false e.1.name)) (cond (f.file i) (Some (path_in true e.1.name)) None));
            source = f.source;
            features = f.features;
          }

  -- and each that is in its first index is found
  pub first_found : (b : Binary) → IsFirst b → Contains found_all (b.name, b)
  first_found b f = by (bytes_eq b.name package_name) has_main (is_one false b.name) (is_one true b.name) refl refl refl refl (sym (first_is b.name) ∙ f.is)
    where
      at_index : (relative : List ℕ) → relative ≡ f.relative → b.source ≡ below folder relative
      at_index relative same = f.source ∙ ap (below folder) (sym same)

      none_main : bytes_eq b.name package_name ≡ true → has_main ≡ false → (c : Binary) → Contains main_list c → c.name ≡ b.name → c ≡ b
      none_main own off c is same = let m = main_is c is in let clash : true ≡ false = sym m.0 ∙ off in cc

      other_main : bytes_eq b.name package_name ≡ false → (c : Binary) → Contains main_list c → c.name ≡ b.name → c ≡ b
      other_main other c is same = let m = main_is c is in let clash : true ≡ false = sym ((bytes_eq-Decides b.name package_name).1 (sym same ∙ m.1)) ∙ other in cc

      of_main : bytes_eq b.name package_name ≡ true → has_main ≡ true → codes "src/main.rs" ≡ f.relative → Contains found_all (b.name, b)
      of_main own on same =
          let named : b.name ≡ package_name = (bytes_eq-Decides b.name package_name).0 own in
          let source : b.source ≡ below folder (codes "src/main.rs") = at_index (codes "src/main.rs") same in
          let made : record { name = package_name; source = below folder (codes "src/main.rs"); required_features = [] } ≡ b = λ i. record { name = sym named i; source = sym source i; required_features = sym f.features i } in
          let there : Contains main_list b = subst (Contains main_list) made (main_to on) in
          stands (with_binaries (with_binaries [] nested_list) flat_list) main_list b there (λ c is also. one_main c b is there)

      of_flat : is_one false b.name ≡ true → path_in false b.name ≡ f.relative → ((c : Binary) → Contains main_list c → c.name ≡ b.name → c ≡ b) → Contains found_all (b.name, b)
      of_flat on same rest =
          let there : Contains flat_list b = found_to sources folder false b (record { letters_are = f.letters_of; file = on; source = at_index (path_in false b.name) same; features = f.features }) in
          stays (with_binaries (with_binaries [] nested_list) flat_list) main_list b.name b (stands (with_binaries [] nested_list) flat_list b there (λ c is also. one_found false c b is there also)) rest

      of_nested : is_one false b.name ≡ false → is_one true b.name ≡ true → path_in true b.name ≡ f.relative → ((c : Binary) → Contains main_list c → c.name ≡ b.name → c ≡ b) → Contains found_all (b.name, b)
      of_nested off on same rest =
          let there : Contains nested_list b = found_to sources folder true b (record { letters_are = f.letters_of; file = on; source = at_index (path_in true b.name) same; features = f.features }) in
          stays (with_binaries (with_binaries [] nested_list) flat_list) main_list b.name b
          (stays (with_binaries [] nested_list) flat_list b.name b (stands [] nested_list b there (λ c is also. one_found true c b is there also)) none_flat) rest
        where
          none_flat : (c : Binary) → Contains flat_list c → c.name ≡ b.name → c ≡ b
          none_flat c is also =
              let g = found_from sources folder false c paths is in
              let clash : true ≡ false = sym g.file ∙ ap (is_one false) also ∙ off in
              cc

      rest_of : (x y : Bool) → is_one false b.name ≡ x → is_one true b.name ≡ y → cond x (Some (path_in false b.name)) (cond y (Some (path_in true b.name)) None) ≡ Some f.relative
          → ((c : Binary) → Contains main_list c → c.name ≡ b.name → c ≡ b) → Contains found_all (b.name, b)
      rest_of true y one two h rest = of_flat one (cc) rest
      rest_of false true one two h rest = of_nested one two (cc) rest
      rest_of false false one two h rest = cc

      by : (own a x y : Bool) → bytes_eq b.name package_name ≡ own → has_main ≡ a → is_one false b.name ≡ x → is_one true b.name ≡ y → chosen own a x y b.name ≡ Some f.relative → Contains found_all (b.name, b)
      by true true x y own on one two h = of_main own on (cc)
      by true false x y own on one two h = rest_of x y one two h (none_main own on)
      by false a x y own on one two h = rest_of x y one two h (other_main own)
