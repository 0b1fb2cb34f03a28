-- The binaries of a package, those of `[[bin]]` over those that are found.
use Rattle.std.proofs.Common.{inl, inr, ◌≡◌, ◌≢◌, ◌↔◌, ◌∙◌, ℕ, Bool, true, false, cond, if◌then◌else◌, codes, List, [], ◌∷◌, map, Contains, Option, Some, None, unwrap_or, get_or, refl, sym, ap, subst}
use Rattle.std.proofs.lemmas.Slice.Eq.{bytes_eq-Decides}
use Rattle.std.specs.List.{AllByRecursion, IsDistinct}
use Rattle.std.specs.Str.{bytes_eq}
use Rattle.pb_graph.proofs.Membership.{none, cases}
use Rattle.pb_manifest_types.specs.Letters as letters
use Rattle.pb_manifest_types.specs.declared.manifest.Manifest.{Manifest}
use Rattle.pb_manifest_types.specs.declared.package.Package.{Package as Written}
use Rattle.pb_manifest_types.specs.declared.target.Binary.{Binary as WrittenBinary}
use Rattle.pb_workspace_types.specs.declared.package.Binary.{Binary}
use Rattle.pb_place_types.specs.Paths.{below}
use Rattle.pb_place_types.specs.World.{World, FilesHavePaths}
use Rattle.pb_workspace_package.specs.Binaries.{main_source, first_some, looked_for, binary_source, written_binary, with_binaries, binary_of, binaries_of}
use Rattle.pb_workspace_package.specs.FoundBinaries.{found_binaries}
use Rattle.pb_workspace_package.specs.Settling.{discovered, has_same_binaries}
use Rattle.pb_workspace.proofs.Keeping.{none_again}
use Rattle.pb_workspace_package.proofs.Puttings.{map_twice}
use Rattle.pb_workspace.proofs.WholeWorkspace.{map_only, map_each}
use Rattle.pb_workspace_laws.specs.Binaries.{in_bin, source_paths, source_of, IsBinary, written, found}
use Rattle.pb_workspace_laws.specs.Files.{is_file, first_file}
use Rattle.pb_workspace_laws.proofs.BinPaths.{path_in}
use Rattle.pb_workspace_laws.proofs.Binaries.{Bins, rises_on, put_or_old, stays, stands, nothing_rises, IsFirst, found_so, found_first, first_found}
use Rattle.pb_workspace_laws.proofs.Sorting.{Name, Rises, names}

-- the source that a `[[bin]]` has
module _ (sources : World) (folder : List ℕ) where
  abbrev at_path : Bool → List ℕ → Option (List ℕ)
  at_path b name = if b then Some (below folder name) else None

  with_main : (name : List ℕ) (a b c : Bool) → unwrap_or (first_some (at_path a main_source) (first_some (at_path b (path_in false name)) (at_path c (path_in true name)))) (below folder main_source)
      ≡ below folder (unwrap_or (cond a (Some main_source) (cond b (Some (path_in false name)) (cond c (Some (path_in true name)) None))) main_source)
  with_main name true b c = refl
  with_main name false true c = refl
  with_main name false false true = refl
  with_main name false false false = refl

  without_main : (name : List ℕ) (b c : Bool) → unwrap_or (first_some (at_path b (path_in false name)) (at_path c (path_in true name))) (below folder (path_in false name))
      ≡ below folder (unwrap_or (cond b (Some (path_in false name)) (cond c (Some (path_in true name)) None)) (path_in false name))
  without_main name true c = refl
  without_main name false true = refl
  without_main name false false = refl

  looked_so : (name : List ℕ) (own : Bool) → looked_for folder sources own name
      ≡ below folder (unwrap_or (first_file sources folder (if own then codes "src/main.rs" ∷ in_bin name else in_bin name)) (get_or (if own then codes "src/main.rs" ∷ in_bin name else in_bin name) 0 []))
  looked_so name true = with_main name (is_file sources folder main_source) (is_file sources folder (path_in false name)) (is_file sources folder (path_in true name))
  looked_so name false = without_main name (is_file sources folder (path_in false name)) (is_file sources folder (path_in true name))

  source_so : (package_name name : List ℕ) (path : Option (List ℕ)) → binary_source folder sources package_name name path ≡ source_of sources folder (source_paths package_name name) path
  source_so package_name name (Some path) = refl
  source_so package_name name None = looked_so name (bytes_eq name package_name)

of_tables : (P : Name → Type 0) (ts : List WrittenBinary) (t : WrittenBinary) → AllByRecursion P (map (λ (b : WrittenBinary). b.name) ts) → Contains ts t → P t.name
of_tables P [] t all there = absurd (none t there)
of_tables P (u ∷ ts) t all there = elim (cases u ts t there) [ inl here ↦ subst (λ (x : WrittenBinary). P x.name) here all.0 | inr later ↦ of_tables P ts t all.1 later ]

-- tables of one name are one
one_table : (ts : List WrittenBinary) (t u : WrittenBinary) → IsDistinct bytes_eq (map (λ (b : WrittenBinary). b.name) ts) → Contains ts t → Contains ts u → t.name ≡ u.name → t ≡ u
unfolding IsDistinct
one_table [] t u apart there other same = absurd (none t there)
one_table (x ∷ ts) t u apart there other same = elim (cases x ts t there) [
  | inl here ↦ (elim (cases x ts u other) [
    | inl also ↦ sym here ∙ also
    | inr later ↦ absurd (clash u (of_tables (λ y. bytes_eq x.name y ≡ false) ts u apart.0 later) (ap (λ (b : WrittenBinary). b.name) here ∙ same))
  ])
  | inr before ↦ (elim (cases x ts u other) [
    | inl also ↦ absurd (clash t (of_tables (λ y. bytes_eq x.name y ≡ false) ts t apart.0 before) (ap (λ (b : WrittenBinary). b.name) also ∙ sym same))
    | inr later ↦ one_table ts t u apart.1 before later same
  ])
]
  where
    clash : (b : WrittenBinary) → bytes_eq x.name b.name ≡ false → x.name ≡ b.name → ⊥
    clash b off named = let no_way : true ≡ false = sym ((bytes_eq-Decides x.name b.name).1 named) ∙ off in cc

module _ (sources : World) (folder : List ℕ) (paths : FilesHavePaths sources) (m : Manifest) (w : Written) (letters_are : letters.is_name w.name ≡ true) (apart : has_same_binaries m.binaries ≡ false) where
  abbrev table_list : List Binary
  table_list = map (written_binary folder sources w.name) m.binaries

  abbrev before : Bins
  before = with_binaries [] (discovered folder sources w.name w.autobins)

  abbrev pub all : List Binary
  all = binaries_of (discovered folder sources w.name w.autobins) table_list

  before_rises : Rises (names before)
  before_rises = rises_on [] (discovered folder sources w.name w.autobins) nothing_rises

  pub all_rise : Rises (map (λ (b : Binary). b.name) all)
  all_rise = subst Rises (sym (map_twice (λ (b : Binary). b.name) binary_of (with_binaries before table_list))) (rises_on before table_list before_rises)

  distinct : IsDistinct bytes_eq (map (λ (b : WrittenBinary). b.name) m.binaries)
  distinct = (none_again [] (map (λ (b : WrittenBinary). b.name) m.binaries) apart).1

  -- what was found
  is_found : (e : Name × Binary) (autobins : Bool) → w.autobins ≡ autobins → Contains (with_binaries [] (discovered folder sources w.name autobins)) e → ((t : WrittenBinary) → Contains m.binaries t → t.name ≢ e.0) → IsBinary sources folder m w (binary_of e)
  is_found e false at there unwritten = absurd (none e there)
  is_found e true at there unwritten =
      let f = found_first sources folder paths w.name letters_are e (subst (λ (es : Bins). Contains es e) (found_so sources folder paths w.name letters_are) there) in
      found at (ap letters.is_name (sym f.0) ∙ f.1.letters_of) unwritten f.1.relative (ap (λ n. first_file sources folder (source_paths w.name n)) (sym f.0) ∙ f.1.is) f.1.source f.1.features

  all_from : (b : Binary) → Contains all b → IsBinary sources folder m w b
  all_from b there =
      let e = map_only binary_of (with_binaries before table_list) b there in
      subst (IsBinary sources folder m w) e.2 (elim (put_or_old before table_list e.0 before_rises e.1) [
        | inl own ↦ of_table e.0 own.0 own.1
        | inr old ↦ is_found e.0 w.autobins refl old.0 (λ t is same. old.1 (written_binary folder sources w.name t) (map_each (written_binary folder sources w.name) m.binaries t is) same)
      ])
    where
      of_table : (e : Name × Binary) → Contains table_list e.1 → e.1.name ≡ e.0 → IsBinary sources folder m w (binary_of e)
      of_table e is named =
          let t = map_only (written_binary folder sources w.name) m.binaries e.1 is in
          written t.0 t.1 (sym named ∙ ap (λ (x : Binary). x.name) (sym t.2)) (ap (λ (x : Binary). x.source) (sym t.2) ∙ source_so sources folder w.name t.0.name t.0.path) (ap (λ (x : Binary). x.required_features) (sym t.2))

  all_to : (b : Binary) → IsBinary sources folder m w b → Contains all b
  all_to b (written t table name source features) =
      let x = written_binary folder sources w.name t in
      let there : Contains table_list x = map_each (written_binary folder sources w.name) m.binaries t table in
      let same : binary_of (x.name, x) ≡ b = λ i. record { name = sym name i; source = (source_so sources folder w.name t.name t.path ∙ sym source) i; required_features = sym features i } in
      subst (Contains all) same (map_each binary_of (with_binaries before table_list) (x.name, x) (stands before table_list x there one))
    where
      one : (c : Binary) → Contains table_list c → c.name ≡ t.name → c ≡ written_binary folder sources w.name t
      one c is same =
          let u = map_only (written_binary folder sources w.name) m.binaries c is in
          sym u.2 ∙ ap (written_binary folder sources w.name) (one_table m.binaries u.0 t distinct u.1 table (ap (λ (y : Binary). y.name) u.2 ∙ same))
  all_to b (found wanted letters_of unwritten relative first source features) =
      let f : IsFirst sources folder paths w.name letters_are b = record { letters_of = letters_of; relative = relative; is = first; source = source; features = features } in
      let there : Contains (with_binaries [] (found_binaries folder sources w.name)) (b.name, b) = subst (λ (es : Bins). Contains es (b.name, b)) (sym (found_so sources folder paths w.name letters_are)) (first_found sources folder paths w.name letters_are b f) in
      let here : Contains before (b.name, b) = subst (λ r. Contains (with_binaries [] (discovered folder sources w.name r)) (b.name, b)) (sym wanted) there in
      map_each binary_of (with_binaries before table_list) (b.name, b) (stays before table_list b.name b here none_written)
    where
      none_written : (c : Binary) → Contains table_list c → c.name ≡ b.name → c ≡ b
      none_written c is same =
          let u = map_only (written_binary folder sources w.name) m.binaries c is in
          absurd (unwritten u.0 u.1 (ap (λ (y : Binary). y.name) u.2 ∙ same))

  pub all_are : (b : Binary) → Contains all b ↔ IsBinary sources folder m w b
  all_are b = (all_from b, all_to b)
