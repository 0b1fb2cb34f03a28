-- The words of a compile, group by group: the libraries among them are those of the unit.
use Rattle.std.proofs.Common.{◌≡◌, ℕ, ◌&&◌, eqb, Bool, true, false, cond, if◌then◌else◌, codes, List, [], ◌∷◌, ◌++◌, Option, Some, None, refl, sym, ◌∙◌, ap, append_assoc}
use Rattle.std.proofs.lemmas.Bool.Decides.{Decides-eqb}
use Rattle.std.specs.List.{flat_map}
use Rattle.std.specs.Str.{bytes_eq}
use Rattle.pb_directive.specs.declared.directive.Directive.{Directive}
use Rattle.pb_directive.specs.declared.directive.Directive.TheVariants.{LinkSearch, LinkLib, Cfg, CheckCfg, LinkArg, LinkArgBins, LinkArgBin}
use Rattle.pb_feature_types.specs.Features.{features_at}
use Rattle.pb_manifest_types.specs.Library.{crate_type_text}
use Rattle.pb_manifest_types.specs.declared.package.Edition.{Edition}
use Rattle.pb_manifest_types.specs.declared.package.Edition.TheVariants as edition
use Rattle.pb_manifest_types.specs.declared.target.CrateType.{CrateType}
use Rattle.pb_place_types.specs.Paths.{is_path, is_relative}
use Rattle.pb_profile_keys.specs.Keys.{setting_at}
use Rattle.pb_profile_keys.specs.Table.{row, told}
use Rattle.pb_profile_keys.specs.declared.key.ProfileKey.{ProfileKey}
use Rattle.pb_profile_keys.specs.declared.setting.Setting.{Setting}
use Rattle.pb_unit.specs.declared.plan.Planned.{Planned}
use Rattle.pb_unit.specs.declared.unit.What.{What}
use Rattle.pb_unit.specs.declared.unit.What.TheVariants.{Lib, Bin, Script, Run}
use Rattle.pb_workspace_types.specs.declared.package.Library.{Library}
use Rattle.pb_workspace_types.specs.declared.package.Package.{Package}
use Rattle.pb_command_types.specs.declared.project.Project.{Project}
use Rattle.pb_command_types.specs.declared.project.Setup.{Setup}
use Rattle.pb_command.specs.Command.{crate_part, words_of}
use Rattle.pb_command_types.specs.NamedTexts.{in_order}
use Rattle.pb_command_arguments.specs.Externs.{folder_words, folder_words_in, folder_words_at, dependency_words, externs, extern_word, extern_words, library_words}
use Rattle.pb_command_arguments.specs.Said.{search_word, link_word, condition_word, check_word, argument_word, binaries_word, binary_word, searched_words, search_words, condition_words, argument_words, binary_link_words, own_words, said_words}
use Rattle.pb_command_types.specs.Targets.{unit_at, crate_name_of, crate_types, source_by, is_library, said_at, own_said}
use Rattle.pb_command_arguments.specs.Words.{option, name_words, edition_word, format_words, crate_words, type_word, type_words, emit_words, out_words, output_words, setting, value_text, is_untold, key_words, settings_words, feature_text, feature_word, expected_text, active_words, expected_words, feature_words}
use Rattle.pb_mini.specs.CommandLine.{takes_value}
use Rattle.pb_mini_laws.proofs.Parsing.{Brings, brings_none, brings_both, brings_each, brings_option, brings_alone}
use Rattle.pb_mini_laws.proofs.Setting.{HoldValues}

module _ (P : List ℕ → Type 0) where
  abbrev B : List (List ℕ) → Type 0
  B words = Brings P words

  -- ---- the crate

  editions : (e : Edition) → takes_value (edition_word e) ≡ false
  unfolding edition_word
  editions edition.E2015 = refl
  editions edition.E2018 = refl
  editions edition.E2021 = refl
  editions edition.E2024 = refl

  begins : (path : List ℕ) → is_path path ≡ true → (rest : List ℕ) × (path ≡ 47 ∷ rest)
  begins [] is = absurd (cc)
  begins (b ∷ []) is = ([], ap (λ x. x ∷ []) ((Decides-eqb b 47).0 is))
  begins (b ∷ c ∷ rest) is = (c ∷ rest, ap (λ x. x ∷ c ∷ rest) ((Decides-eqb b 47).0 (first (eqb b 47) (is_relative (c ∷ rest)) is)))
    where
      first : (r s : Bool) → (r && s) ≡ true → r ≡ true
      first true s e = refl
      first false s e = absurd (cc)

  absolute_alone : (path : List ℕ) → is_path path ≡ true → takes_value path ≡ false
  absolute_alone path is = let (rest, same) = begins path is in ap takes_value same

  in_crate : (project : Project) (unit : Planned) (p : Package) → is_path (source_by p unit.unit.what) ≡ true → B (crate_words project unit p)
  unfolding name_words option format_words
  in_crate project unit p source =
      brings_both P (codes "--crate-name" ∷ crate_name_of project unit ∷ []) (edition_word p.edition ∷ source_by p unit.unit.what ∷ format_words)
      (brings_option P (codes "--crate-name") (crate_name_of project unit) refl (λ e. cc))
      (brings_both P (edition_word p.edition ∷ []) (source_by p unit.unit.what ∷ format_words) (brings_alone P (edition_word p.edition) (editions p.edition))
      (brings_both P (source_by p unit.unit.what ∷ []) format_words (brings_alone P (source_by p unit.unit.what) (absolute_alone (source_by p unit.unit.what) source)) (brings_alone P (codes "--error-format=json") refl)))

  -- ---- what is made

  in_type : (t : CrateType) → B (type_word t)
  unfolding type_word option
  in_type t = brings_option P (codes "--crate-type") (crate_type_text t) refl (λ e. cc)

  in_output : (unit : Planned) (p : Package) → B (output_words unit p)
  unfolding emit_words out_words option
  in_output unit p =
      brings_both P (type_words (crate_types p.library unit.unit.what) ++ emit_words) (out_words unit.out)
      (brings_both P (type_words (crate_types p.library unit.unit.what)) emit_words (brings_each P type_word (crate_types p.library unit.unit.what) in_type) (brings_alone P (codes "--emit=dep-info,link") refl))
      (brings_option P (codes "--out-dir") unit.out refl (λ e. cc))

  -- ---- settings

  in_setting : (key value : List ℕ) → B (setting key value)
  unfolding setting option
  in_setting key value = brings_option P (codes "-C") (key ++ value) refl (λ e. cc)

  in_key : (what : What) (s : List Setting) (k : ProfileKey) → B (key_words what s k)
  in_key what s k = by (is_untold what k (setting_at s k))
    where
      by : (untold : Bool) → B (if untold then [] else setting (row k).option (value_text (row k).yes (setting_at s k)))
      by true = brings_none P
      by false = in_setting (row k).option (value_text (row k).yes (setting_at s k))

  in_settings : (what : What) (s : List Setting) → B (settings_words what s)
  in_settings what s = brings_each P (key_words what s) told (in_key what s)

  -- ---- features

  in_feature : (name : List ℕ) → B (feature_word name)
  unfolding option
  in_feature name = brings_option P (codes "--cfg") (feature_text name) refl (λ e. cc)

  in_features : (project : Project) (unit : Planned) (p : Package) → B (feature_words project unit p)
  unfolding expected_words option
  in_features project unit p =
      brings_both P (active_words project unit) (expected_words p.features) (brings_each P feature_word (features_at project.features unit.unit.package unit.unit.side) in_feature)
      (brings_option P (codes "--check-cfg") (expected_text p.features) refl (λ e. cc))

  -- ---- libraries

  in_folder : (unit : Option Planned) → B (folder_words_in unit)
  unfolding folder_words option
  in_folder None = brings_none P
  in_folder (Some unit) = by (is_library unit.unit.what)
    where
      by : (r : Bool) → B (cond r (folder_words unit.out) [])
      by true = brings_option P (codes "-L") (codes "dependency=" ++ unit.out) refl (λ e. cc)
      by false = brings_none P

  each_held : (pairs : List (List ℕ × List ℕ)) → HoldValues P pairs → B (flat_map extern_word pairs)
  unfolding option
  each_held [] all = brings_none P
  each_held (pair ∷ pairs) all = brings_both P (extern_word pair) (flat_map extern_word pairs) (brings_option P (codes "--extern") pair.1 refl (λ e. all.0)) (each_held pairs all.1)

  in_libraries : (project : Project) (unit : Planned) (p : Package) → HoldValues P (in_order (externs project unit p)) → B (library_words project unit p)
  in_libraries project unit p all =
      brings_both P (dependency_words project unit) (extern_words project unit p) (brings_each P (folder_words_at project) unit.reaches (λ index. in_folder (unit_at project index))) (each_held (in_order (externs project unit p)) all)

  -- ---- what scripts ask for

  in_search : (d : Directive) → B (search_word d)
  unfolding option
  in_search (LinkSearch folder) = brings_option P (codes "-L") folder refl (λ e. cc)
  in_search _ = brings_none P

  in_link : (d : Directive) → B (link_word d)
  unfolding option
  in_link (LinkLib name) = brings_option P (codes "-l") name refl (λ e. cc)
  in_link _ = brings_none P

  in_condition : (d : Directive) → B (condition_word d)
  unfolding option
  in_condition (Cfg condition) = brings_option P (codes "--cfg") condition refl (λ e. cc)
  in_condition _ = brings_none P

  in_check : (d : Directive) → B (check_word d)
  unfolding option
  in_check (CheckCfg condition) = brings_option P (codes "--check-cfg") condition refl (λ e. cc)
  in_check _ = brings_none P

  in_argument : (d : Directive) → B (argument_word d)
  in_argument (LinkArg flag) = in_setting (codes "link-arg=") flag
  in_argument _ = brings_none P

  in_binaries : (d : Directive) → B (binaries_word d)
  in_binaries (LinkArgBins flag) = in_setting (codes "link-arg=") flag
  in_binaries _ = brings_none P

  in_binary : (name : List ℕ) (d : Directive) → B (binary_word name d)
  in_binary name (LinkArgBin binary flag) = by (bytes_eq binary name)
    where
      by : (r : Bool) → B (cond r (setting (codes "link-arg=") flag) [])
      by true = in_setting (codes "link-arg=") flag
      by false = brings_none P
  in_binary name _ = brings_none P

  in_conditions : (said : List Directive) → B (condition_words said)
  in_conditions said = brings_both P (flat_map condition_word said) (flat_map check_word said) (brings_each P condition_word said in_condition) (brings_each P check_word said in_check)

  in_arguments : (name : List ℕ) (said : List Directive) → B (argument_words name said)
  in_arguments name said =
      brings_both P (flat_map argument_word said ++ flat_map binaries_word said) (flat_map (binary_word name) said)
      (brings_both P (flat_map argument_word said) (flat_map binaries_word said) (brings_each P argument_word said in_argument) (brings_each P binaries_word said in_binaries)) (brings_each P (binary_word name) said (in_binary name))

  in_binary_links : (library : Option Library) (said : List Directive) → B (binary_link_words library said)
  in_binary_links None said = brings_each P link_word said in_link
  in_binary_links (Some library) said = brings_none P

  in_own : (what : What) (library : Option Library) (said : List Directive) → B (own_words what library said)
  in_own Lib library said = brings_both P (flat_map link_word said) (condition_words said) (brings_each P link_word said in_link) (in_conditions said)
  in_own (Bin name) library said =
      brings_both P (binary_link_words library said ++ condition_words said) (argument_words name said) (brings_both P (binary_link_words library said) (condition_words said) (in_binary_links library said) (in_conditions said)) (in_arguments name said)
  in_own Script library said = brings_none P
  in_own Run library said = brings_none P

  in_said : (project : Project) (unit : Planned) (done : List (Option (List Directive))) (p : Package) → B (said_words project unit done p)
  in_said project unit done p =
      brings_both P (search_words unit done) (own_words unit.unit.what p.library (own_said project unit done))
      (brings_each P (searched_words done) unit.reaches (λ index. brings_each P search_word (said_at done index) in_search)) (in_own unit.unit.what p.library (own_said project unit done))

  -- ---- all words of a compile but the user's flags

  abbrev pub fixed_words : Project → Planned → List (Option (List Directive)) → Package → List (List ℕ)
  fixed_words project unit done p = crate_part project unit p ++ library_words project unit p ++ said_words project unit done p

  pub in_fixed : (project : Project) (unit : Planned) (done : List (Option (List Directive))) (p : Package) → is_path (source_by p unit.unit.what) ≡ true → HoldValues P (in_order (externs project unit p)) → B (fixed_words project unit done p)
  in_fixed project unit done p source all =
      brings_both P (crate_part project unit p ++ library_words project unit p) (said_words project unit done p)
      (brings_both P (crate_part project unit p) (library_words project unit p)
      (brings_both P (crate_words project unit p ++ output_words unit p ++ settings_words unit.unit.what unit.settings) (feature_words project unit p)
      (brings_both P (crate_words project unit p ++ output_words unit p) (settings_words unit.unit.what unit.settings)
      (brings_both P (crate_words project unit p) (output_words unit p) (in_crate project unit p source) (in_output unit p)) (in_settings unit.unit.what unit.settings)) (in_features project unit p))
      (in_libraries project unit p all)) (in_said project unit done p)

-- and then the flags
pub with_flags : (setup : Setup) (project : Project) (unit : Planned) (done : List (Option (List Directive))) (p : Package) → words_of setup project unit done p ≡ (crate_part project unit p ++ library_words project unit p ++ said_words project unit done p) ++ setup.flags
with_flags setup project unit done p =
    let crate = crate_part project unit p in
    let libraries = library_words project unit p in
    let said = said_words project unit done p in
    ap (λ ws. crate ++ ws) (append_assoc libraries said setup.flags) ∙ sym (append_assoc crate libraries (said ++ setup.flags)) ∙ sym (append_assoc (crate ++ libraries) said setup.flags)
