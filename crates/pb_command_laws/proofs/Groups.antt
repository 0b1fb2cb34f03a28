-- What each group of the words of a compile says.
use Rattle.std.proofs.Common.{◌≡◌, ℕ, ◌&&◌, ◌||◌, not, eqb, Bool, true, false, cond, if◌then◌else◌, codes, List, [], ◌∷◌, ◌++◌, map, filter, Option, Some, None, refl, sym, ◌∙◌, ap, is_some}
use Rattle.std.proofs.lemmas.Bool.Decides.{Decides-eqb}
use Rattle.std.proofs.lemmas.Grind.{flat_map-append}
use Rattle.std.proofs.lemmas.List.{append_assoc, map-append}
use Rattle.std.proofs.lemmas.List.Concat.{flat_map_single}
use Rattle.std.specs.Fmt.{decimal}
use Rattle.std.specs.List.{flat_map, filter_map, cons_option}
use Rattle.std.specs.Str.{bytes_eq}
use Rattle.pb_directive.specs.declared.directive.Directive.{Directive}
use Rattle.pb_directive.specs.declared.directive.Directive.TheVariants.{LinkSearch, LinkLib, Cfg, CheckCfg, LinkArg, LinkArgBins, LinkArgBin}
use Rattle.pb_feature_types.specs.Features.{features_at}
use Rattle.pb_manifest_types.specs.Library.{crate_type_text}
use Rattle.pb_manifest_types.specs.Package.{edition_text}
use Rattle.pb_manifest_types.specs.declared.feature.Feature.{Feature}
use Rattle.pb_manifest_types.specs.declared.package.Edition.{Edition}
use Rattle.pb_manifest_types.specs.declared.package.Edition.TheVariants as edition
use Rattle.pb_manifest_types.specs.declared.target.CrateType.{CrateType}
use Rattle.pb_place_types.specs.Paths.{is_path, is_relative}
use Rattle.pb_profile_keys.specs.Keys.{setting_at}
use Rattle.pb_profile_keys.specs.Setting.{same}
use Rattle.pb_profile_keys.specs.Table.{told, row as facts}
use Rattle.pb_profile_keys.specs.declared.key.ProfileKey.{ProfileKey}
use Rattle.pb_profile_keys.specs.declared.key.ProfileKey.TheVariants as key
use Rattle.pb_profile_keys.specs.declared.setting.Setting.{Setting}
use Rattle.pb_profile_keys.specs.declared.setting.Setting.TheVariants.{Truth, Word}
use Rattle.pb_profile_keys.specs.declared.setting.Word.TheVariants as word
use Rattle.pb_unit.specs.declared.plan.Planned.{Planned}
use Rattle.pb_unit.specs.declared.unit.What.{What}
use Rattle.pb_unit.specs.declared.unit.What.TheVariants.{Lib, Bin, Script, Run}
use Rattle.pb_workspace_types.specs.declared.package.Library.{Library}
use Rattle.pb_workspace_types.specs.declared.package.Package.{Package}
use Rattle.pb_command_types.specs.Targets.{unit_at, crate_name_of, crate_types, source_by, is_library, said_at}
use Rattle.pb_command_types.specs.declared.project.Project.{Project}
use Rattle.pb_command_arguments.specs.Externs.{folder_words, folder_words_in, folder_words_at, extern_word}
use Rattle.pb_command_arguments.specs.Said.{search_word, link_word, condition_word, check_word, argument_word, binaries_word, binary_word, searched_words, condition_words, argument_words, binary_link_words, own_words}
use Rattle.pb_command_arguments.specs.Words.{option, name_words, edition_word, format_words, crate_words, type_word, type_words, emit_words, out_words, output_words, setting, value_text, is_binary as binary, is_untold, key_words, settings_words, feature_text, feature_word, expected_text, active_words, expected_words, feature_words, quoted}
use Rattle.pb_mini.specs.CommandLine.{takes_value}
use Rattle.pb_command_laws.specs.Libraries.{assigned}
use Rattle.pb_command_laws.specs.Compiles.{is_binary, hears, unless_is, row, settings_table, linker_flags, feature_is_on, features_there_are, libraries_at}
use Rattle.pb_command_laws.proofs.Asking.{folder_searched, library_linked, condition_set, condition_expected, flag_for_all, flag_for_binaries, flag_for, flags_asked, binaries_asked, one_binary_asked}
use Rattle.pb_command_laws.proofs.Sayings.{Gives, gives_none, gives_one, gives_alone, gives_both, gives_each, gives_same, Says, Group, says_one, says_both, says_nothing}

-- ---- the crate

editions : (e : Edition) → takes_value (edition_word e) ≡ false
unfolding edition_word
editions edition.E2015 = refl
editions edition.E2018 = refl
editions edition.E2021 = refl
editions edition.E2024 = refl

begins : (path : List ℕ) → is_path path ≡ true → (rest : List ℕ) × (path ≡ 47 ∷ rest)
begins [] is = absurd (cc)
begins (b ∷ []) is = ([], ap (λ x. x ∷ []) ((Decides-eqb b 47).0 is))
begins (b ∷ c ∷ rest) is = (c ∷ rest, ap (λ x. x ∷ c ∷ rest) ((Decides-eqb b 47).0 (first (eqb b 47) (is_relative (c ∷ rest)) is)))
  where
    first : (r s : Bool) → (r && s) ≡ true → r ≡ true
    first true s e = refl
    first false s e = absurd (cc)

absolute_alone : (path : List ℕ) → is_path path ≡ true → takes_value path ≡ false
absolute_alone path is = let (rest, same) = begins path is in ap takes_value same

abbrev pub crate_groups : List ℕ → List ℕ → List ℕ → List Group
crate_groups name edition source = (codes "--crate-name", name ∷ []) ∷ ([], edition ∷ source ∷ codes "--error-format=json" ∷ []) ∷ []

pub crate_says : (project : Project) (unit : Planned) (p : Package) → is_path (source_by p unit.unit.what) ≡ true
    → Says (crate_words project unit p) (crate_groups (crate_name_of project unit) (codes "--edition=" ++ edition_text p.edition) (source_by p unit.unit.what))
unfolding name_words option format_words edition_word
crate_says project unit p absolute =
    let name = crate_name_of project unit in
    let edition = codes "--edition=" ++ edition_text p.edition in
    let source = source_by p unit.unit.what in
    says_both (codes "--crate-name" ∷ name ∷ []) (edition ∷ source ∷ codes "--error-format=json" ∷ []) ((codes "--crate-name", name ∷ []) ∷ []) (([], edition ∷ source ∷ codes "--error-format=json" ∷ []) ∷ [])
    (says_one (codes "--crate-name" ∷ name ∷ []) (codes "--crate-name") (name ∷ []) (gives_one (codes "--crate-name") name refl))
    (says_one (edition ∷ source ∷ codes "--error-format=json" ∷ []) [] (edition ∷ source ∷ codes "--error-format=json" ∷ [])
    (gives_both (edition ∷ []) (source ∷ codes "--error-format=json" ∷ []) [] (edition ∷ []) (source ∷ codes "--error-format=json" ∷ []) (gives_alone edition (editions p.edition))
    (gives_both (source ∷ []) (codes "--error-format=json" ∷ []) [] (source ∷ []) (codes "--error-format=json" ∷ []) (gives_alone source (absolute_alone source absolute)) (gives_alone (codes "--error-format=json") refl))))

-- ---- what is made

type_gives : (t : CrateType) → Gives (type_word t) (codes "--crate-type") (crate_type_text t ∷ [])
unfolding type_word option
type_gives t = gives_one (codes "--crate-type") (crate_type_text t) refl

types_give : (types : List CrateType) → Gives (type_words types) (codes "--crate-type") (map crate_type_text types)
types_give types =
    gives_same (type_words types) (codes "--crate-type") (flat_map (λ t. crate_type_text t ∷ []) types) (map crate_type_text types) (flat_map_single crate_type_text types)
    (gives_each (codes "--crate-type") type_word (λ t. crate_type_text t ∷ []) types type_gives)

abbrev pub output_groups : List (List ℕ) → List ℕ → List Group
output_groups types out = (codes "--crate-type", types) ∷ ([], codes "--emit=dep-info,link" ∷ []) ∷ (codes "--out-dir", out ∷ []) ∷ []

pub output_says : (unit : Planned) (p : Package) → Says (output_words unit p) (output_groups (map crate_type_text (crate_types p.library unit.unit.what)) unit.out)
unfolding emit_words out_words option
output_says unit p =
    let types = crate_types p.library unit.unit.what in
    says_both (type_words types ++ emit_words) (out_words unit.out) ((codes "--crate-type", map crate_type_text types) ∷ ([], codes "--emit=dep-info,link" ∷ []) ∷ []) ((codes "--out-dir", unit.out ∷ []) ∷ [])
    (says_both (type_words types) emit_words ((codes "--crate-type", map crate_type_text types) ∷ []) (([], codes "--emit=dep-info,link" ∷ []) ∷ [])
    (says_one (type_words types) (codes "--crate-type") (map crate_type_text types) (types_give types))
    (says_one emit_words [] (codes "--emit=dep-info,link" ∷ []) (gives_alone (codes "--emit=dep-info,link") refl)))
    (says_one (out_words unit.out) (codes "--out-dir") (unit.out ∷ []) (gives_one (codes "--out-dir") unit.out refl))

-- ---- settings

setting_gives : (key value : List ℕ) → Gives (setting key value) (codes "-C") ((key ++ value) ∷ [])
unfolding setting option
setting_gives key value = gives_one (codes "-C") (key ++ value) refl

-- the value of an option, if there is one
abbrev values_of : What → List Setting → ProfileKey → List (List ℕ)
values_of what s k = if is_untold what k (setting_at s k) then [] else ((facts k).option ++ value_text (facts k).yes (setting_at s k)) ∷ []

key_gives : (what : What) (s : List Setting) (k : ProfileKey) → Gives (key_words what s k) (codes "-C") (values_of what s k)
key_gives what s k = by (is_untold what k (setting_at s k))
  where
    by : (untold : Bool) → Gives (if untold then [] else setting (facts k).option (value_text (facts k).yes (setting_at s k))) (codes "-C") (if untold then [] else ((facts k).option ++ value_text (facts k).yes (setting_at s k)) ∷ [])
    by true = gives_none (codes "-C")
    by false = setting_gives (facts k).option (value_text (facts k).yes (setting_at s k))

-- a row that may be missing
more_row : (untold : Bool) (shown name value : List ℕ) → shown ≡ assigned (name, value) → (words : List (List ℕ)) (rows : List (List ℕ × List ℕ)) → words ≡ map assigned rows
    → (if untold then [] else shown ∷ []) ++ words ≡ map assigned (row name (if untold then None else Some value) ++ rows)
more_row true shown name value is words rows rest = rest
more_row false shown name value is words rows rest = λ i. is i ∷ rest i

-- the row of binaries, which may be missing
last_row : (other untold : Bool) (value : List ℕ) → (if other || untold then [] else (codes "lto=" ++ value) ∷ []) ++ [] ≡ map assigned (row (codes "lto") (if not other then (if untold then None else Some value) else None))
last_row true untold value = refl
last_row false true value = refl
last_row false false value = refl

binary_is : (what : What) → is_binary what ≡ not (not (binary what))
binary_is (Bin name) = refl
binary_is _ = refl

values_are : (what : What) (s : List Setting) → flat_map (values_of what s) told ≡ map assigned (settings_table what s)
unfolding facts
values_are what s =
    let rpath = row (codes "rpath") (unless_is (Truth false) (codes "yes") (setting_at s key.Rpath)) in
    let strip = row (codes "strip") (unless_is (Word word.Nothing) (codes "on") (setting_at s key.Strip)) in
    let lto = row (codes "lto") (if is_binary what then unless_is (Truth false) (codes "on") (setting_at s key.Lto) else None) in
    ap (λ ws.
    (codes "opt-level=" ++ value_text (codes "on") (setting_at s key.OptLevel)) ∷ (codes "debuginfo=" ++ value_text (codes "on") (setting_at s key.Debug))
    ∷ (codes "debug-assertions=" ++ value_text (codes "on") (setting_at s key.DebugAssertions)) ∷ (codes "overflow-checks=" ++ value_text (codes "on") (setting_at s key.OverflowChecks))
    ∷ (codes "codegen-units=" ++ value_text (codes "on") (setting_at s key.CodegenUnits)) ∷ (codes "panic=" ++ value_text (codes "on") (setting_at s key.Panic)) ∷ ws)
    (more_row (same (Truth false) (setting_at s key.Rpath)) (codes "rpath=" ++ value_text (codes "yes") (setting_at s key.Rpath)) (codes "rpath") _ refl _ _
    (more_row (same (Word word.Nothing) (setting_at s key.Strip)) (codes "strip=" ++ value_text (codes "on") (setting_at s key.Strip)) (codes "strip") _ refl _ _
    (last_row (not (binary what)) (same (Truth false) (setting_at s key.Lto)) (value_text (codes "on") (setting_at s key.Lto))
    ∙ ap (λ b. map assigned (row (codes "lto") (if b then unless_is (Truth false) (codes "on") (setting_at s key.Lto) else None))) (sym (binary_is what))))
    ∙ ap (λ rows. map assigned rows) (sym (append_assoc rpath strip lto)))

pub settings_give : (what : What) (s : List Setting) → Gives (settings_words what s) (codes "-C") (map assigned (settings_table what s))
settings_give what s =
    gives_same (settings_words what s) (codes "-C") (flat_map (values_of what s) told) (map assigned (settings_table what s)) (values_are what s)
    (gives_each (codes "-C") (key_words what s) (values_of what s) told (key_gives what s))

-- ---- features

feature_gives : (name : List ℕ) → Gives (feature_word name) (codes "--cfg") (feature_is_on name ∷ [])
unfolding option feature_text quoted
feature_gives name = gives_one (codes "--cfg") (feature_text name) refl

active_gives : (names : List (List ℕ)) → Gives (flat_map feature_word names) (codes "--cfg") (map feature_is_on names)
active_gives names =
    gives_same (flat_map feature_word names) (codes "--cfg") (flat_map (λ name. feature_is_on name ∷ []) names) (map feature_is_on names) (flat_map_single feature_is_on names)
    (gives_each (codes "--cfg") feature_word (λ name. feature_is_on name ∷ []) names feature_gives)

expected_gives : (features : List Feature) → Gives (expected_words features) (codes "--check-cfg") (features_there_are features ∷ [])
unfolding expected_words option expected_text quoted
expected_gives features = gives_one (codes "--check-cfg") (expected_text features) refl

abbrev pub feature_groups : List (List ℕ) → List Feature → List Group
feature_groups names features = (codes "--cfg", map feature_is_on names) ∷ (codes "--check-cfg", features_there_are features ∷ []) ∷ []

pub features_say : (project : Project) (unit : Planned) (p : Package) → Says (feature_words project unit p) (feature_groups (features_at project.features unit.unit.package unit.unit.side) p.features)
features_say project unit p =
    let names = features_at project.features unit.unit.package unit.unit.side in
    says_both (active_words project unit) (expected_words p.features) ((codes "--cfg", map feature_is_on names) ∷ []) ((codes "--check-cfg", features_there_are p.features ∷ []) ∷ [])
    (says_one (active_words project unit) (codes "--cfg") (map feature_is_on names) (active_gives names))
    (says_one (expected_words p.features) (codes "--check-cfg") (features_there_are p.features ∷ []) (expected_gives p.features))

-- ---- libraries

abbrev pub dependency_in : Planned → List ℕ
dependency_in library = codes "dependency=" ++ library.out

folder_gives : (u : Planned) → Gives (folder_words u.out) (codes "-L") (dependency_in u ∷ [])
unfolding folder_words option
folder_gives u = gives_one (codes "-L") (dependency_in u) refl

pub folders_give : (project : Project) (indices : List ℕ) → Gives (flat_map (folder_words_at project) indices) (codes "-L") (map dependency_in (libraries_at project indices))
folders_give project [] = gives_none (codes "-L")
folders_give project (index ∷ indices) = by (unit_at project index) (folders_give project indices)
  where
    by : (u : Option Planned) → Gives (flat_map (folder_words_at project) indices) (codes "-L") (map dependency_in (libraries_at project indices))
        → Gives (folder_words_in u ++ flat_map (folder_words_at project) indices) (codes "-L") (map dependency_in (filter (λ (u : Planned). is_library u.unit.what) (cons_option u (filter_map (unit_at project) indices))))
    by None rest = rest
    by (Some u) rest = kind (is_library u.unit.what)
      where
        kind : (r : Bool) → Gives (cond r (folder_words u.out) [] ++ flat_map (folder_words_at project) indices) (codes "-L") (map dependency_in (cond r (u ∷ libraries_at project indices) (libraries_at project indices)))
        kind true = gives_both (folder_words u.out) (flat_map (folder_words_at project) indices) (codes "-L") (dependency_in u ∷ []) (map dependency_in (libraries_at project indices)) (folder_gives u) rest
        kind false = rest

extern_gives : (pair : List ℕ × List ℕ) → Gives (extern_word pair) (codes "--extern") (pair.1 ∷ [])
unfolding option
extern_gives pair = gives_one (codes "--extern") pair.1 refl

pub externs_give : (pairs : List (List ℕ × List ℕ)) → Gives (flat_map extern_word pairs) (codes "--extern") (map (λ (pair : List ℕ × List ℕ). pair.1) pairs)
externs_give pairs =
    gives_same (flat_map extern_word pairs) (codes "--extern") (flat_map (λ (pair : List ℕ × List ℕ). pair.1 ∷ []) pairs) (map (λ (pair : List ℕ × List ℕ). pair.1) pairs) (flat_map_single (λ (pair : List ℕ × List ℕ). pair.1) pairs)
    (gives_each (codes "--extern") extern_word (λ (pair : List ℕ × List ℕ). pair.1 ∷ []) pairs extern_gives)

-- ---- what scripts ask for

search_gives : (d : Directive) → Gives (search_word d) (codes "-L") (folder_searched d)
unfolding option
search_gives (LinkSearch folder) = gives_one (codes "-L") folder refl
search_gives _ = gives_none (codes "-L")

link_gives : (d : Directive) → Gives (link_word d) (codes "-l") (library_linked d)
unfolding option
link_gives (LinkLib name) = gives_one (codes "-l") name refl
link_gives _ = gives_none (codes "-l")

condition_gives : (d : Directive) → Gives (condition_word d) (codes "--cfg") (condition_set d)
unfolding option
condition_gives (Cfg condition) = gives_one (codes "--cfg") condition refl
condition_gives _ = gives_none (codes "--cfg")

check_gives : (d : Directive) → Gives (check_word d) (codes "--check-cfg") (condition_expected d)
unfolding option
check_gives (CheckCfg condition) = gives_one (codes "--check-cfg") condition refl
check_gives _ = gives_none (codes "--check-cfg")

abbrev pub link_arg : List ℕ → List ℕ
link_arg flag = codes "link-arg=" ++ flag

argument_gives : (d : Directive) → Gives (argument_word d) (codes "-C") (map link_arg (flag_for_all d))
argument_gives (LinkArg flag) = setting_gives (codes "link-arg=") flag
argument_gives _ = gives_none (codes "-C")

binaries_gives : (d : Directive) → Gives (binaries_word d) (codes "-C") (map link_arg (flag_for_binaries d))
binaries_gives (LinkArgBins flag) = setting_gives (codes "link-arg=") flag
binaries_gives _ = gives_none (codes "-C")

binary_gives : (name : List ℕ) (d : Directive) → Gives (binary_word name d) (codes "-C") (map link_arg (flag_for name d))
binary_gives name (LinkArgBin binary flag) = by (bytes_eq binary name)
  where
    by : (r : Bool) → Gives (cond r (setting (codes "link-arg=") flag) []) (codes "-C") (map link_arg (cond r (flag ∷ []) []))
    by true = setting_gives (codes "link-arg=") flag
    by false = gives_none (codes "-C")
binary_gives name _ = gives_none (codes "-C")

map_flat : (f : Directive → List (List ℕ)) (said : List Directive) → flat_map (λ d. map link_arg (f d)) said ≡ map link_arg (flat_map f said)
map_flat f [] = refl
map_flat f (d ∷ said) = ap (λ ws. map link_arg (f d) ++ ws) (map_flat f said) ∙ sym (map-append link_arg (f d) (flat_map f said))

flags_give : (word flag : Directive → List (List ℕ)) (said : List Directive) → ((d : Directive) → Gives (word d) (codes "-C") (map link_arg (flag d))) → Gives (flat_map word said) (codes "-C") (map link_arg (flat_map flag said))
flags_give word flag said each =
    gives_same (flat_map word said) (codes "-C") (flat_map (λ d. map link_arg (flag d)) said) (map link_arg (flat_map flag said)) (map_flat flag said) (gives_each (codes "-C") word (λ d. map link_arg (flag d)) said each)

-- the flags of a binary's linker
abbrev pub flags_of : What → List Directive → List (List ℕ)
flags_of (Bin name) said = flat_map flag_for_all said ++ flat_map flag_for_binaries said ++ flat_map (flag_for name) said
flags_of _ said = []

pub flags_are : (what : What) (said : List Directive) → flags_of what said ≡ linker_flags what said
flags_are (Bin name) said = λ i. flags_asked said i ++ binaries_asked said i ++ one_binary_asked name said i
flags_are _ said = refl

arguments_give : (name : List ℕ) (said : List Directive) → Gives (argument_words name said) (codes "-C") (map link_arg (flags_of (Bin name) said))
arguments_give name said =
    let all = flat_map flag_for_all said in
    let binaries = flat_map flag_for_binaries said in
    let one = flat_map (flag_for name) said in
    gives_same (argument_words name said) (codes "-C") (map link_arg all ++ map link_arg binaries ++ map link_arg one) (map link_arg (all ++ binaries ++ one))
    (ap (λ ws. ws ++ map link_arg one) (sym (map-append link_arg all binaries)) ∙ sym (map-append link_arg (all ++ binaries) one))
    (gives_both (flat_map argument_word said ++ flat_map binaries_word said) (flat_map (binary_word name) said) (codes "-C") (map link_arg all ++ map link_arg binaries) (map link_arg one)
    (gives_both (flat_map argument_word said) (flat_map binaries_word said) (codes "-C") (map link_arg all) (map link_arg binaries) (flags_give argument_word flag_for_all said argument_gives) (flags_give binaries_word flag_for_binaries said binaries_gives))
    (flags_give (binary_word name) (flag_for name) said (binary_gives name)))

pub searches_give : (done : List (Option (List Directive))) (indices : List ℕ) → Gives (flat_map (searched_words done) indices) (codes "-L") (flat_map folder_searched (flat_map (said_at done) indices))
searches_give done [] = gives_none (codes "-L")
searches_give done (index ∷ indices) =
    let words = flat_map search_word (said_at done index) in
    let later = flat_map (searched_words done) indices in
    let here = flat_map folder_searched (said_at done index) in
    let there = flat_map folder_searched (flat_map (said_at done) indices) in
    gives_same (words ++ later) (codes "-L") (here ++ there) (flat_map folder_searched (said_at done index ++ flat_map (said_at done) indices)) (sym (flat_map-append folder_searched (said_at done index) (flat_map (said_at done) indices)))
    (gives_both words later (codes "-L") here there (gives_each (codes "-L") search_word folder_searched (said_at done index) search_gives) (searches_give done indices))

-- what the run of the unit's own package asks for
abbrev pub linked_by : What → Option Library → List Directive → List (List ℕ)
linked_by what library said = cond (is_binary what && is_some library) [] (flat_map library_linked said)

abbrev pub own_groups : What → Option Library → List Directive → List Group
own_groups what library said =
    (codes "-l", linked_by what library said) ∷ (codes "--cfg", flat_map condition_set said) ∷ (codes "--check-cfg", flat_map condition_expected said) ∷ (codes "-C", map link_arg (flags_of what said)) ∷ []

conditions_say : (said : List Directive) → Says (condition_words said) ((codes "--cfg", flat_map condition_set said) ∷ (codes "--check-cfg", flat_map condition_expected said) ∷ [])
conditions_say said =
    says_both (flat_map condition_word said) (flat_map check_word said) ((codes "--cfg", flat_map condition_set said) ∷ []) ((codes "--check-cfg", flat_map condition_expected said) ∷ [])
    (says_one (flat_map condition_word said) (codes "--cfg") (flat_map condition_set said) (gives_each (codes "--cfg") condition_word condition_set said condition_gives))
    (says_one (flat_map check_word said) (codes "--check-cfg") (flat_map condition_expected said) (gives_each (codes "--check-cfg") check_word condition_expected said check_gives))

links_give : (said : List Directive) → Gives (flat_map link_word said) (codes "-l") (flat_map library_linked said)
links_give said = gives_each (codes "-l") link_word library_linked said link_gives

binary_links_give : (name : List ℕ) (library : Option Library) (said : List Directive) → Gives (binary_link_words library said) (codes "-l") (linked_by (Bin name) library said)
binary_links_give name None said = links_give said
binary_links_give name (Some library) said = gives_none (codes "-l")

pub own_says : (what : What) (library : Option Library) (said : List Directive) → Says (own_words what library said) (own_groups what library (cond (hears what) said []))
own_says Lib library said =
    says_nothing (flat_map link_word said ++ condition_words said) ((codes "-l", flat_map library_linked said) ∷ (codes "--cfg", flat_map condition_set said) ∷ (codes "--check-cfg", flat_map condition_expected said) ∷ []) (codes "-C")
    (says_both (flat_map link_word said) (condition_words said) ((codes "-l", flat_map library_linked said) ∷ []) ((codes "--cfg", flat_map condition_set said) ∷ (codes "--check-cfg", flat_map condition_expected said) ∷ [])
    (says_one (flat_map link_word said) (codes "-l") (flat_map library_linked said) (links_give said)) (conditions_say said))
own_says (Bin name) library said =
    let links = (codes "-l", linked_by (Bin name) library said) ∷ [] in
    let conditions = (codes "--cfg", flat_map condition_set said) ∷ (codes "--check-cfg", flat_map condition_expected said) ∷ [] in
    says_both (binary_link_words library said ++ condition_words said) (argument_words name said) (links ++ conditions) ((codes "-C", map link_arg (flags_of (Bin name) said)) ∷ [])
    (says_both (binary_link_words library said) (condition_words said) links conditions
    (says_one (binary_link_words library said) (codes "-l") (linked_by (Bin name) library said) (binary_links_give name library said)) (conditions_say said))
    (says_one (argument_words name said) (codes "-C") (map link_arg (flags_of (Bin name) said)) (arguments_give name said))
own_says Script library said = record { reads = λ rest. refl }
own_says Run library said = record { reads = λ rest. refl }
