-- The libraries that a compile is given are those of its unit, in order.
use Rattle.std.proofs.Common.{◌≡◌, inl, inr, ℕ, ◌&&◌, ◌||◌, not, eqb, Bool, true, false, cond, List, [], ◌∷◌, ◌++◌, map, length, Contains, IfSome, Option, Some, None, refl, sym, ◌∙◌, ap, subst, slice_get}
use Rattle.std.proofs.lemmas.Bool.Decides.{Decides-eqb}
use Rattle.std.proofs.lemmas.List.Elements.{Contains-append_left, Contains-append_right, Contains-append_cases}
use Rattle.std.specs.Cmp.Lexicographic.{slice_cmp}
use Rattle.std.specs.List.{list_all, AllByRecursion}
use Rattle.std.specs.List.Sorted.{IsStrictlySortedBy}
use Rattle.std.specs.Ordering.{nat_cmp}
use Rattle.std.specs.declared.cmp.Ordering.TheVariants.{Less}
use Rattle.pb_graph.proofs.Membership.{none, single, head, tail, cases}
use Rattle.pb_graph.proofs.Placed.{placed_to, placed_from}
use Rattle.pb_graph.specs.Placed.{placed}
use Rattle.pb_command.proofs.Ordered.{by_name_then_path, first_off, second_off}
use Rattle.pb_command.proofs.Rising.{rising}
use Rattle.pb_command_types.specs.NamedTexts.{in_order}
use Rattle.pb_command_arguments.specs.Externs.{leads, library_name_at, entry_name, extern_key, extern_text, extern, entry_extern, own_extern, externs}
use Rattle.pb_data.specs.Table.{names_of}
use Rattle.pb_feature_types.specs.Features.{is_enabled}
use Rattle.pb_manifest_types.specs.Letters.{is_name, is_name_byte, is_crate_name, is_crate_name_byte, underscored, underscored_byte}
use Rattle.pb_workspace_types.specs.Settled.{IsSettled, IsPackage}
use Rattle.pb_workspace_types.specs.declared.package.DependencyKind.{DependencyKind}
use Rattle.pb_workspace_types.specs.declared.package.DependencyKind.TheVariants.{Normal, Build}
use Rattle.pb_workspace_types.specs.declared.package.Entry.{Entry}
use Rattle.pb_workspace_types.specs.declared.package.Library.{Library}
use Rattle.pb_workspace_types.specs.declared.package.Package.{Package}
use Rattle.pb_place_types.specs.Paths.{has_byte_0}
use Rattle.pb_command_types.specs.Targets.{package_of, library_in, library_name, library_file, is_script, is_run}
use Rattle.pb_command_types.specs.declared.project.Project.{Project}
use Rattle.pb_unit.specs.Units.{is_build}
use Rattle.pb_unit.specs.declared.plan.Planned.{Planned}
use Rattle.pb_unit.specs.declared.unit.What.{What}
use Rattle.pb_unit.specs.declared.unit.What.TheVariants.{Lib, Bin, Script, Run}
use Rattle.pb_command_laws.specs.Libraries.{IsCalled, IsLibrary, by_name, AreLibraries, assigned}
use Rattle.pb_command_laws.proofs.Pairs.{Pair, all_from, all_at, ordered_from, ordered_to}

-- ---- a name has no byte 0

abbrev pub IsPlain : List ℕ → Type 0
IsPlain name = has_byte_0 name ≡ false

second : (x y : Bool) → (x && y) ≡ true → y ≡ true
second true y is = is
second false y is = absurd (cc)

letters : (letter : ℕ → Bool) → letter 0 ≡ false → (name : List ℕ) → list_all letter name ≡ true → IsPlain name
letters letter other [] all = refl
letters letter other (b ∷ name) all = by (letter b) (eqb b 0) refl refl all (letters letter other name)
  where
    by : (l r : Bool) → letter b ≡ l → eqb b 0 ≡ r → (l && list_all letter name) ≡ true → (list_all letter name ≡ true → IsPlain name) → (r || has_byte_0 name) ≡ false
    by false r is at all later = absurd (cc)
    by true true is at all later =
        let same : letter b ≡ false = ap letter ((Decides-eqb b 0).0 at) ∙ other in
        absurd (cc)
    by true false is at all later = later all

crate_plain : (name : List ℕ) → is_crate_name name ≡ true → IsPlain name
unfolding is_crate_name is_crate_name_byte
crate_plain name is = letters is_crate_name_byte refl name (second (not (eqb (length name) 0)) (list_all is_crate_name_byte name) is)

name_plain : (name : List ℕ) → is_name name ≡ true → IsPlain name
unfolding is_name is_name_byte
name_plain name is = letters is_name_byte refl name (second (not (eqb (length name) 0)) (list_all is_name_byte name) is)

underscored_plain : (name : List ℕ) → IsPlain name → IsPlain (underscored name)
unfolding underscored
underscored_plain [] none = refl
underscored_plain (b ∷ name) none = by (eqb b 45) (eqb b 0) refl none (underscored_plain name)
  where
    by : (r s : Bool) → eqb b 0 ≡ s → (s || has_byte_0 name) ≡ false → (IsPlain name → IsPlain (map underscored_byte name)) → (eqb (cond r 95 b) 0 || has_byte_0 (map underscored_byte name)) ≡ false
    by r true at none later = absurd (cc)
    by true false at none later = later none
    by false false at none later = ap (λ q. q || has_byte_0 (map underscored_byte name)) at ∙ later none

-- ---- keys tell names and files

keys_tell : (name other file next : List ℕ) → IsPlain name → IsPlain other → name ++ 0 ∷ file ≡ other ++ 0 ∷ next → (name ≡ other) × (file ≡ next)
keys_tell [] [] file next plain away same = (refl, cc)
keys_tell [] (b ∷ other) file next plain away same =
    let zero_is : 0 ≡ b = cc in
    let off : eqb b 0 ≡ false = first_off (eqb b 0) (has_byte_0 other) away in
    let on : true ≡ eqb b 0 = ap (λ x. eqb x 0) zero_is in
    absurd (cc)
keys_tell (a ∷ name) [] file next plain away same =
    let zero_is : 0 ≡ a = cc in
    let off : eqb a 0 ≡ false = first_off (eqb a 0) (has_byte_0 name) plain in
    let on : true ≡ eqb a 0 = ap (λ x. eqb x 0) zero_is in
    absurd (cc)
keys_tell (a ∷ name) (b ∷ other) file next plain away same =
    let front : a ≡ b = cc in
    let back : name ++ 0 ∷ file ≡ other ++ 0 ∷ next = cc in
    let (names, files) = keys_tell name other file next (second_off (eqb a 0) (has_byte_0 name) plain) (second_off (eqb b 0) (has_byte_0 other) away) back in
    (λ i. front i ∷ names i, files)

module _ (project : Project) (unit : Planned) (p : Package) (settled : IsSettled project.workspace) (there : package_of project unit ≡ Some p) (compiles : is_run unit.unit.what ≡ false) where
  -- a pair is that of a library of the unit
  pub record IsOne (pair : Pair) : Type 0 where
    pub name : List ℕ
    pub file : List ℕ
    pub plain : IsPlain name
    pub key : pair.0 ≡ extern_key name file
    pub text : pair.1 ≡ extern_text name file
    pub is : IsLibrary project unit p name file

  abbrev pub pairs : List Pair
  pairs = externs project unit p

  -- ---- names

  library_plain : (library : Option Library) → IfSome library (λ l. is_crate_name l.name ≡ true) → IsPlain (library_name library)
  library_plain None is = refl
  library_plain (Some l) is = crate_plain l.name is

  package_is : (index : ℕ) (q : Package) → slice_get project.workspace.packages index ≡ Some q → IsPackage (length project.workspace.packages) q
  package_is index q at = all_at (IsPackage (length project.workspace.packages)) project.workspace.packages index q settled.packages at

  library_at_plain : (index : ℕ) → IsPlain (library_name_at project index)
  library_at_plain index = by (slice_get project.workspace.packages index) refl
    where
      by : (q : Option Package) → slice_get project.workspace.packages index ≡ q → IsPlain (library_name (library_in q))
      by None at = refl
      by (Some q) at = library_plain q.library (package_is index q at).crate_name

  entry_plain : (n : ℕ) (entry : Entry) → slice_get p.entries n ≡ Some entry → IsPlain (entry_name project entry)
  entry_plain n entry at = by entry.renamed
    where
      by : (r : Bool) → IsPlain (cond r (underscored entry.key) (library_name_at project entry.to))
      by true = underscored_plain entry.key (name_plain entry.key (all_at (λ (entry : Entry). is_name entry.key ≡ true) p.entries n entry (package_is unit.unit.package p there).entry_keys at))
      by false = library_at_plain entry.to

  called_so : (entry : Entry) → IsCalled project entry (entry_name project entry)
  called_so entry = by entry.renamed refl
    where
      by : (r : Bool) → entry.renamed ≡ r → IsCalled project entry (cond r (underscored entry.key) (library_name_at project entry.to))
      by true is = IsCalled.renamed is
      by false is = IsCalled.itself is

  so_called : (entry : Entry) (name : List ℕ) → IsCalled project entry name → entry_name project entry ≡ name
  so_called entry name (IsCalled.renamed is) = ap (λ r. cond r (underscored entry.key) (library_name_at project entry.to)) is
  so_called entry name (IsCalled.itself is) = ap (λ r. cond r (underscored entry.key) (library_name_at project entry.to)) is

  kind_from : (what : What) (kind : DependencyKind) → leads what kind ≡ true → is_build kind ≡ is_script what
  kind_from Lib Normal is = refl
  kind_from Lib Build is = absurd (cc)
  kind_from (Bin name) Normal is = refl
  kind_from (Bin name) Build is = absurd (cc)
  kind_from Script Normal is = absurd (cc)
  kind_from Script Build is = refl
  kind_from Run kind is = absurd (cc)

  kind_to : (what : What) (kind : DependencyKind) → is_run what ≡ false → is_build kind ≡ is_script what → leads what kind ≡ true
  kind_to Lib Normal compiles is = refl
  kind_to Lib Build compiles is = absurd (cc)
  kind_to (Bin name) Normal compiles is = refl
  kind_to (Bin name) Build compiles is = absurd (cc)
  kind_to Script Normal compiles is = absurd (cc)
  kind_to Script Build compiles is = refl
  kind_to Run kind compiles is = absurd (cc)

  -- ---- what is given is a library of the unit

  one_of : (name : List ℕ) (found : Option (List ℕ)) (pair : Pair) → IsPlain name → ((file : List ℕ) → found ≡ Some file → IsLibrary project unit p name file) → Contains (extern name found) pair → IsOne pair
  one_of name None pair plain is among = absurd (none pair among)
  one_of name (Some file) pair plain is among =
      let same = single (extern_key name file, extern_text name file) pair among in
      record { name = name; file = file; plain = plain; key = ap (λ (x : Pair). x.0) (sym same); text = ap (λ (x : Pair). x.1) (sym same); is = is file refl }

  entry_one : (n : ℕ) (entry : Entry) (pair : Pair) → slice_get p.entries n ≡ Some entry → Contains (entry_extern project unit n entry) pair → IsOne pair
  entry_one n entry pair at among = by (is_enabled project.features unit.unit.package unit.unit.side n) (leads unit.unit.what entry.kind) refl refl among
    where
      by : (e l : Bool) → is_enabled project.features unit.unit.package unit.unit.side n ≡ e → leads unit.unit.what entry.kind ≡ l
          → Contains (cond (e && l) (extern (entry_name project entry) (library_file project unit entry.to)) []) pair → IsOne pair
      by false l enabled kind among = absurd (none pair among)
      by true false enabled kind among = absurd (none pair among)
      by true true enabled kind among =
          one_of (entry_name project entry) (library_file project unit entry.to) pair (entry_plain n entry at)
          (λ file needed. IsLibrary.by_entry n entry (entry_name project entry) file at enabled (kind_from unit.unit.what entry.kind kind) (called_so entry) needed) among

  own_one : (what : What) (pair : Pair) → unit.unit.what ≡ what → Contains (own_extern project unit what) pair → IsOne pair
  own_one Lib pair is among = absurd (none pair among)
  own_one (Bin name) pair is among =
      one_of (library_name_at project unit.unit.package) (library_file project unit unit.unit.package) pair (library_at_plain unit.unit.package) (λ file needed. IsLibrary.own name file is needed) among
  own_one Script pair is among = absurd (none pair among)
  own_one Run pair is among = absurd (none pair among)

  is_one : (pair : Pair) → Contains pairs pair → IsOne pair
  is_one pair among = elim (Contains-append_cases (placed (entry_extern project unit) 0 p.entries) (own_extern project unit unit.unit.what) pair among) [
    | inl here ↦ let (n, entry, at, given) = placed_from (entry_extern project unit) p.entries pair here in entry_one n entry pair at given
    | inr own ↦ own_one unit.unit.what pair refl own
  ]

  -- ---- each library of the unit is given

  given_file : (name file : List ℕ) (found : Option (List ℕ)) → found ≡ Some file → Contains (extern name found) (extern_key name file, extern_text name file)
  given_file name file found is = subst (λ f. Contains (extern name f) (extern_key name file, extern_text name file)) (sym is) (head (extern_key name file, extern_text name file) [])

  given : (name file : List ℕ) → IsLibrary project unit p name file → Contains pairs (extern_key name file, extern_text name file)
  given _ _ (IsLibrary.by_entry n entry name file at enabled kind called needed) =
      Contains-append_left (placed (entry_extern project unit) 0 p.entries) (own_extern project unit unit.unit.what) (extern_key name file, extern_text name file)
      (placed_to (entry_extern project unit) p.entries n entry (extern_key name file, extern_text name file) at
      (subst (λ r. Contains (cond r (extern (entry_name project entry) (library_file project unit entry.to)) []) (extern_key name file, extern_text name file)) (sym (λ i. enabled i && kind_to unit.unit.what entry.kind compiles kind i))
      (subst (λ called. Contains (extern called (library_file project unit entry.to)) (extern_key name file, extern_text name file)) (sym (so_called entry name called)) (given_file name file (library_file project unit entry.to) needed))))
  given _ _ (IsLibrary.own binary file is needed) =
      Contains-append_right (placed (entry_extern project unit) 0 p.entries) (own_extern project unit unit.unit.what) (extern_key (library_name_at project unit.unit.package) file, extern_text (library_name_at project unit.unit.package) file)
      (subst (λ what. Contains (own_extern project unit what) (extern_key (library_name_at project unit.unit.package) file, extern_text (library_name_at project unit.unit.package) file)) (sym is)
      (given_file (library_name_at project unit.unit.package) file (library_file project unit unit.unit.package) needed))

  -- ---- the libraries in order

  abbrev pub ordered : List Pair
  ordered = in_order pairs

  pub all_are : AllByRecursion IsOne ordered
  all_are = all_from IsOne ordered (λ pair among. is_one pair (ordered_from pairs pair among))

  abbrev pub named_in : (some : List Pair) → AllByRecursion IsOne some → List (List ℕ × List ℕ)
  named_in [] all = []
  named_in (pair ∷ some) all = (all.0.name, all.0.file) ∷ named_in some all.1

  abbrev pub libraries_of : List (List ℕ × List ℕ)
  libraries_of = named_in ordered all_are

  told_in : (some : List Pair) (all : AllByRecursion IsOne some) → map (λ (pair : Pair). pair.1) some ≡ map assigned (named_in some all)
  unfolding extern_text
  told_in [] all = refl
  told_in (pair ∷ some) all = λ i. all.0.text i ∷ told_in some all.1 i

  pub libraries_told : map (λ (pair : Pair). pair.1) ordered ≡ map assigned libraries_of
  libraries_told = told_in ordered all_are

  one_before : (pair other : Pair) (one : IsOne pair) (next : IsOne other) → slice_cmp nat_cmp pair.0 other.0 ≡ Less → by_name (one.name, one.file) (next.name, next.file) ≡ Less
  one_before pair other one next less =
      sym (by_name_then_path one.name next.name one.file next.file one.plain next.plain) ∙ (λ i. slice_cmp nat_cmp (sym one.key i) (sym next.key i)) ∙ less

  before_all : (pair : Pair) (one : IsOne pair) (some : List Pair) (all : AllByRecursion IsOne some) → AllByRecursion (λ name. slice_cmp nat_cmp pair.0 name ≡ Less) (names_of some)
      → AllByRecursion (λ library. by_name (one.name, one.file) library ≡ Less) (named_in some all)
  before_all pair one [] all rises = tt
  before_all pair one (other ∷ some) all rises = (one_before pair other one all.0 rises.0, before_all pair one some all.1 rises.1)

  order_in : (some : List Pair) (all : AllByRecursion IsOne some) → IsStrictlySortedBy (slice_cmp nat_cmp) (names_of some) → IsStrictlySortedBy by_name (named_in some all)
  unfolding IsStrictlySortedBy
  order_in [] all rises = tt
  order_in (pair ∷ some) all rises = (before_all pair all.0 some all.1 rises.0, order_in some all.1 rises.1)

  -- what stands in the list is a library of the unit
  from_list : (some : List Pair) (all : AllByRecursion IsOne some) (library : List ℕ × List ℕ) → Contains (named_in some all) library → IsLibrary project unit p library.0 library.1
  from_list [] all library among = absurd (none library among)
  from_list (pair ∷ some) all library among = elim (cases (all.0.name, all.0.file) (named_in some all.1) library among) [
    | inl same ↦ subst (λ (l : List ℕ × List ℕ). IsLibrary project unit p l.0 l.1) same all.0.is
    | inr later ↦ from_list some all.1 library later
  ]

  -- and what has the key of a library stands there as that library
  to_list : (some : List Pair) (all : AllByRecursion IsOne some) (name file : List ℕ) (pair : Pair) → IsPlain name → pair.0 ≡ extern_key name file → Contains some pair → Contains (named_in some all) (name, file)
  unfolding extern_key
  to_list [] all name file pair plain key among = absurd (none pair among)
  to_list (other ∷ some) all name file pair plain key among = elim (cases other some pair among) [
    | inl same ↦
        let (names, files) = keys_tell all.0.name name all.0.file file all.0.plain plain (sym all.0.key ∙ ap (λ (x : Pair). x.0) same ∙ key) in
        subst (Contains (named_in (other ∷ some) all)) (λ i. (names i, files i)) (head (all.0.name, all.0.file) (named_in some all.1))
    | inr later ↦ tail (all.0.name, all.0.file) (named_in some all.1) (name, file) (to_list some all.1 name file pair plain key later)
  ]

  plain_name : (name file : List ℕ) → IsLibrary project unit p name file → IsPlain name
  plain_name _ _ (IsLibrary.by_entry n entry name file at enabled kind called needed) = subst IsPlain (so_called entry name called) (entry_plain n entry at)
  plain_name _ _ (IsLibrary.own binary file is needed) = library_at_plain unit.unit.package

  listed : (name file : List ℕ) → IsLibrary project unit p name file → Contains libraries_of (name, file)
  listed name file is =
      let (last, among) = ordered_to pairs (extern_key name file) (extern_text name file) (given name file is) in
      to_list ordered all_are name file (extern_key name file, last) (plain_name name file is) refl among

  pub are_libraries : AreLibraries (IsLibrary project unit p) libraries_of
  are_libraries = record {
    order = order_in ordered all_are (rising pairs);
    same = λ library. (from_list ordered all_are library, λ is. listed library.0 library.1 is);
  }
