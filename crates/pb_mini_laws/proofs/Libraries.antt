-- Each library that a compile is given lies in the output folder of a unit that it reaches.
use Rattle.std.proofs.Common.{◌≡◌, ℕ, ◌+◌, ◌&&◌, ◌||◌, inl, inr, suc, not, Bool, true, false, cond, codes, List, [], ◌∷◌, ◌++◌, length, drop, Option, Some, None, Ok, Contains, IfSome, refl, sym, ◌∙◌, ap, subst, map, eqb, arith, slice_get}
use Rattle.std.proofs.lemmas.Bool.Decides.{Decides-eqb}
use Rattle.std.proofs.lemmas.List.Folds.{list_any-append}
use Rattle.pb_graph.proofs.Elements.{contains_cases}
use Rattle.std.specs.FinMap as finite
use Rattle.std.specs.FinMap.{len-empty, len-entries}
use Rattle.std.specs.Cmp.Lexicographic.{slice_cmp}
use Rattle.std.specs.Ordering.{nat_cmp}
use Rattle.std.specs.List.{flat_map, find, list_all, prefix_len, AllByRecursion}
use Rattle.pb_graph.specs.Placed.{placed}
use Rattle.pb_graph.proofs.Membership.{all_at}
use Rattle.pb_feature_types.specs.Features.{is_enabled}
use Rattle.pb_manifest_types.specs.Letters.{is_name, is_name_byte, is_crate_name, is_crate_name_byte, underscored, underscored_byte}
use Rattle.pb_place_types.specs.Paths.{below, is_below, is_path, is_relative, parsed}
use Rattle.pb_place_types.specs.World.{Map}
use Rattle.pb_place_types.proofs.PathLemmas.{below_is_below, below_is_path, parsed_path}
use Rattle.pb_unit.specs.declared.plan.Planned.{Planned}
use Rattle.pb_unit.specs.declared.unit.What.{What}
use Rattle.pb_unit.specs.declared.unit.What.TheVariants.{Lib, Bin, Script, Run}
use Rattle.pb_workspace_types.specs.Settled.{IsPackage}
use Rattle.pb_workspace_types.specs.declared.package.Entry.{Entry}
use Rattle.pb_workspace_types.specs.declared.package.Library.{Library}
use Rattle.pb_workspace_types.specs.declared.package.Package.{Package}
use Rattle.pb_command_types.specs.NamedTexts.{all_set, in_order}
use Rattle.pb_command_arguments.specs.Externs.{folder_in, read_at, reads_of, leads, library_name_at, entry_name, extern_text, extern, entry_extern, own_extern, externs}
use Rattle.pb_command_types.specs.Targets.{unit_at, library_in, library_name, file_in, file_by, crate_name_of, is_library, is_one_of, needed, file_there, file_at, library_file}
use Rattle.pb_command_types.specs.declared.project.Project.{Project}
use Rattle.pb_mini.specs.Honesty.{is_below_some}
use Rattle.pb_mini.specs.Lines.{value_in}
use Rattle.pb_mini.specs.Lookups.{path_of, path_said}
use Rattle.pb_mini_laws.specs.Honest.{IsOfProject}
use Rattle.pb_mini_laws.proofs.Given.{NamesBelow}
use Rattle.pb_mini_laws.proofs.Named.{said_is_path}
use Rattle.pb_mini_laws.proofs.Reaching.{reaches_needs}
use Rattle.pb_mini_laws.proofs.Setting.{HoldValues, insert_holds}

-- ---- `NAME=PATH`, where the name has no `=`

abbrev pub HasNoEquals : List ℕ → Type 0
HasNoEquals name = list_all (λ b. not (eqb b 61)) name ≡ true

pub value_told : (name path : List ℕ) → HasNoEquals name → value_in (name ++ 61 ∷ path) ≡ path
value_told [] path none = refl
value_told (b ∷ name) path none = by (eqb b 61) none (value_told name path)
  where
    by : (r : Bool) → (not r && list_all (λ b. not (eqb b 61)) name) ≡ true → (HasNoEquals name → value_in (name ++ 61 ∷ path) ≡ path)
        → drop (cond (not r) (1 + prefix_len (λ x. not (eqb x 61)) (name ++ 61 ∷ path)) 0 + 1) (b ∷ (name ++ 61 ∷ path)) ≡ path
    by true none later = absurd (cc)
    by false none later =
        let further : 1 + prefix_len (λ x. not (eqb x 61)) (name ++ 61 ∷ path) + 1 ≡ suc (prefix_len (λ x. not (eqb x 61)) (name ++ 61 ∷ path) + 1) = omega arith in
        ap (λ k. drop k (b ∷ (name ++ 61 ∷ path))) further ∙ later none

-- letters are no `=`
letters : (letter : ℕ → Bool) → letter 61 ≡ false → (name : List ℕ) → list_all letter name ≡ true → HasNoEquals name
letters letter other [] all = refl
letters letter other (b ∷ name) all = by (letter b) (eqb b 61) refl refl all (letters letter other name)
  where
    by : (l r : Bool) → letter b ≡ l → eqb b 61 ≡ r → (l && list_all letter name) ≡ true → (list_all letter name ≡ true → HasNoEquals name) → (not r && list_all (λ b. not (eqb b 61)) name) ≡ true
    by false r is at all later = absurd (cc)
    by true true is at all later =
        let same : letter b ≡ false = ap letter ((Decides-eqb b 61).0 at) ∙ other in
        absurd (cc)
    by true false is at all later = later all

second : (x y : Bool) → (x && y) ≡ true → y ≡ true
second true y is = is
second false y is = absurd (cc)

pub crate_plain : (name : List ℕ) → is_crate_name name ≡ true → HasNoEquals name
unfolding is_crate_name is_crate_name_byte
crate_plain name is = letters is_crate_name_byte refl name (second (not (eqb (length name) 0)) (list_all is_crate_name_byte name) is)

name_plain : (name : List ℕ) → is_name name ≡ true → HasNoEquals name
unfolding is_name is_name_byte
name_plain name is = letters is_name_byte refl name (second (not (eqb (length name) 0)) (list_all is_name_byte name) is)

-- and `_` for `-` is none
underscored_plain : (name : List ℕ) → HasNoEquals name → HasNoEquals (underscored name)
unfolding underscored
underscored_plain [] none = refl
underscored_plain (b ∷ name) none = by (eqb b 45) (eqb b 61) refl none (underscored_plain name)
  where
    by : (r s : Bool) → eqb b 61 ≡ s → (not s && list_all (λ b. not (eqb b 61)) name) ≡ true → (HasNoEquals name → HasNoEquals (map underscored_byte name))
        → (not (eqb (cond r 95 b) 61) && list_all (λ b. not (eqb b 61)) (map underscored_byte name)) ≡ true
    by r true at none later = absurd (cc)
    by true false at none later = later none
    by false false at none later = ap (λ q. not q && list_all (λ b. not (eqb b 61)) (map underscored_byte name)) at ∙ later none

-- ---- where a library lies

found_among : {A : Type 0} (P : A → Type 0) (test : A → Bool) (xs : List A) (x : A) → AllByRecursion P xs → find test xs ≡ Some x → P x
found_among P test [] x all is = absurd (cc)
found_among P test (y ∷ xs) x all is = by (test y) is (found_among P test xs x all.1)
  where
    by : (r : Bool) → cond r (Some y) (find test xs) ≡ Some x → (find test xs ≡ Some x → P x) → P x
    by true is later = let same : y ≡ x = cc in subst P same all.0
    by false is later = later is

or_one : (x y : Bool) → x ≡ true → (x || y) ≡ true
or_one x y is = ap (λ r. r || y) is

or_other : (x y : Bool) → y ≡ true → (x || y) ≡ true
or_other true y is = refl
or_other false y is = is

module _ (project : Project) (u : Planned) (is_of : IsOfProject project u) where
  abbrev reads : List (List ℕ)
  reads = reads_of project u

  -- what lies below the folder of a unit that is reached lies below one of the folders that are read
  below_read : (indices : List ℕ) (index : ℕ) (v : Planned) (path : List ℕ) → Contains indices index → unit_at project index ≡ Some v → is_below v.out path ≡ true → is_below_some (flat_map (read_at project) indices) path ≡ true
  below_read [] index v path (k, lt, at) there below = absurd (omega (arith, lt))
  below_read (other ∷ indices) index v path among there below =
      list_any-append (λ folder. is_below folder path) (read_at project other) (flat_map (read_at project) indices)
      ∙ elim (contains_cases other indices index among) [
        | inl same ↦ or_one (is_below_some (read_at project other) path) (is_below_some (flat_map (read_at project) indices) path)
            (ap (λ unit. is_below_some (folder_in unit) path) (ap (unit_at project) same ∙ there) ∙ or_one (is_below v.out path) false below)
        | inr later ↦ or_other (is_below_some (read_at project other) path) (is_below_some (flat_map (read_at project) indices) path) (below_read indices index v path later there below)
      ]

  -- a file that a unit makes lies in its output folder
  record LiesIn (v : Planned) (path : List ℕ) : Type 0 where
    below : is_below v.out path ≡ true
    absolute : is_path path ≡ true

  in_folder : (v : Planned) (name path : List ℕ) → is_path v.out ≡ true → file_in v.out name ≡ Some path → LiesIn v path
  in_folder v name path out is = by (is_relative name) refl is
    where
      by : (r : Bool) → is_relative name ≡ r → cond r (Some (below v.out name)) None ≡ Some path → LiesIn v path
      by false relative is = absurd (cc)
      by true relative is = let same : below v.out name ≡ path = cc in record { below = below_is_below v.out name path relative (sym same); absolute = below_is_path v.out name path out relative (sym same) }

  made_in : (v : Planned) (what : What) (name path : List ℕ) → is_path v.out ≡ true → file_by what v.out name ≡ Some path → LiesIn v path
  made_in v Lib name path out is = in_folder v (codes "lib" ++ name ++ codes ".rlib") path out is
  made_in v (Bin binary) name path out is = in_folder v name path out is
  made_in v Script name path out is = in_folder v name path out is
  made_in v Run name path out is = absurd (cc)

  pub made_below : (index : Option ℕ) (path : List ℕ) → ((p : ℕ) → index ≡ Some p → Contains u.reaches p) → file_at project index ≡ Some path → (is_below_some reads path ≡ true) × (is_path path ≡ true)
  made_below None path reached is = absurd (cc)
  made_below (Some index) path reached is = by (unit_at project index) refl is
    where
      by : (unit : Option Planned) → unit_at project index ≡ unit → file_there project unit ≡ Some path → (is_below_some reads path ≡ true) × (is_path path ≡ true)
      by None there is = absurd (cc)
      by (Some v) there is =
          let lies = made_in v v.unit.what (crate_name_of project v) path (all_at (λ (unit : Planned). is_path unit.out ≡ true) project.plan.planned index v is_of.paths.units there) is in
          (below_read u.reaches index v path (reached index refl) there lies.below, lies.absolute)

  pub needed_reached : (test : What → Bool) (owner index : ℕ) → needed test project u owner ≡ Some index → Contains u.reaches index
  needed_reached test owner index is = found_among (Contains u.reaches) (λ p. is_one_of test owner (unit_at project p)) u.needs index (reaches_needs project.workspace project.features is_of.selection project.profile project.plan is_of.index u is_of.planned is_of.there) is

  library_below : (owner : ℕ) (path : List ℕ) → library_file project u owner ≡ Some path → (is_below_some reads path ≡ true) × (is_path path ≡ true)
  library_below owner path is = made_below (needed is_library project u owner) path (needed_reached is_library owner) is

  -- ---- the words

  abbrev Q : List ℕ → Type 0
  Q = NamesBelow reads

  word_below : (name path : List ℕ) → HasNoEquals name → is_below_some reads path ≡ true → is_path path ≡ true → Q (extern_text name path)
  unfolding extern_text
  word_below name path plain below absolute found is =
      let told : path_said (parsed path) ≡ Some found = ap (λ t. path_of t) (sym (value_told name path plain)) ∙ is in
      let same : Ok found ≡ parsed path = sym (said_is_path (parsed path) found told) in
      let same_path : Ok found ≡ Ok path = same ∙ parsed_path path absolute in
      let equal : path ≡ found = cc in
      ap (is_below_some reads) (sym equal) ∙ below

  extern_holds : (name : List ℕ) (file : Option (List ℕ)) → HasNoEquals name → ((path : List ℕ) → file ≡ Some path → (is_below_some reads path ≡ true) × (is_path path ≡ true)) → HoldValues Q (extern name file)
  extern_holds name None plain lies = tt
  extern_holds name (Some path) plain lies = let (below, absolute) = lies path refl in (word_below name path plain below absolute, tt)

  library_plain : (library : Option Library) → IfSome library (λ l. is_crate_name l.name ≡ true) → HasNoEquals (library_name library)
  library_plain None is = refl
  library_plain (Some l) is = crate_plain l.name is

  library_at_plain : (index : ℕ) → HasNoEquals (library_name_at project index)
  library_at_plain index = by (slice_get project.workspace.packages index) refl
    where
      by : (p : Option Package) → slice_get project.workspace.packages index ≡ p → HasNoEquals (library_name (library_in p))
      by None there = refl
      by (Some p) there =
          let package_is : IsPackage (length project.workspace.packages) p = all_at (IsPackage (length project.workspace.packages)) project.workspace.packages index p is_of.settled.packages there in
          library_plain p.library package_is.crate_name

  entry_plain : (entry : Entry) → is_name entry.key ≡ true → HasNoEquals (entry_name project entry)
  entry_plain entry named = by entry.renamed
    where
      by : (r : Bool) → HasNoEquals (cond r (underscored entry.key) (library_name_at project entry.to))
      by true = underscored_plain entry.key (name_plain entry.key named)
      by false = library_at_plain entry.to

  entry_holds : (n : ℕ) (entry : Entry) → is_name entry.key ≡ true → HoldValues Q (entry_extern project u n entry)
  entry_holds n entry named = by (is_enabled project.features u.unit.package u.unit.side n && leads u.unit.what entry.kind)
    where
      by : (r : Bool) → HoldValues Q (cond r (extern (entry_name project entry) (library_file project u entry.to)) [])
      by true = extern_holds (entry_name project entry) (library_file project u entry.to) (entry_plain entry named) (library_below entry.to)
      by false = tt

  both_hold : (a b : List (List ℕ × List ℕ)) → HoldValues Q a → HoldValues Q b → HoldValues Q (a ++ b)
  both_hold [] b one other = other
  both_hold (pair ∷ a) b one other = (one.0, both_hold a b one.1 other)

  entries_hold : (n : ℕ) (entries : List Entry) → AllByRecursion (λ (entry : Entry). is_name entry.key ≡ true) entries → HoldValues Q (placed (entry_extern project u) n entries)
  entries_hold n [] named = tt
  entries_hold n (entry ∷ entries) named = both_hold (entry_extern project u n entry) (placed (entry_extern project u) (n + 1) entries) (entry_holds n entry named.0) (entries_hold (n + 1) entries named.1)

  own_holds : (what : What) → HoldValues Q (own_extern project u what)
  own_holds (Bin name) = extern_holds (library_name_at project u.unit.package) (library_file project u u.unit.package) (library_at_plain u.unit.package) (library_below u.unit.package)
  own_holds _ = tt

  set_holds : (m : Map) (pairs : List (List ℕ × List ℕ)) → HoldValues Q (finite.entries m) → HoldValues Q pairs → HoldValues Q (finite.entries (all_set m pairs))
  set_holds m [] all more = all
  set_holds m (pair ∷ pairs) all more = set_holds (finite.insert m pair.0 pair.1) pairs (insert_holds Q m pair.0 pair.1 all more.0) more.1

  none_held : (pairs : List (List ℕ × List ℕ)) → length pairs ≡ 0 → HoldValues Q pairs
  none_held [] is = tt
  none_held (pair ∷ pairs) is = absurd (omega (arith, is))

  pub externs_hold : (p : Package) → AllByRecursion (λ (entry : Entry). is_name entry.key ≡ true) p.entries → HoldValues Q (in_order (externs project u p))
  externs_hold p named = let empty : Map = finite.empty in set_holds empty (externs project u p) (none_held (finite.entries empty) (sym (len-entries empty) ∙ len-empty (slice_cmp nat_cmp) (List ℕ))) (both_hold (placed (entry_extern project u) 0 p.entries) (own_extern project u u.unit.what) (entries_hold 0 p.entries named) (own_holds u.unit.what))
