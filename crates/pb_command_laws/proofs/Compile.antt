-- What the words of a compile say, all together.
use Rattle.std.proofs.Common.{◌≡◌, ◌&&◌, is_some, cond, ℕ, true, false, codes, List, [], ◌∷◌, ◌++◌, map, Option, Some, refl, sym, ◌∙◌, ap, append_assoc}
use Rattle.std.proofs.lemmas.List.{append-nil}
use Rattle.std.specs.List.{flat_map}
use Rattle.pb_directive.specs.declared.directive.Directive.{Directive}
use Rattle.pb_feature_types.specs.Features.{features_at}
use Rattle.pb_manifest_types.specs.Library.{crate_type_text}
use Rattle.pb_manifest_types.specs.Package.{edition_text}
use Rattle.pb_workspace_types.specs.Settled.{IsSettled}
use Rattle.pb_workspace_types.specs.declared.package.Package.{Package}
use Rattle.pb_place_types.specs.Paths.{is_path}
use Rattle.pb_unit.specs.declared.plan.Planned.{Planned}
use Rattle.pb_unit.specs.declared.unit.What.{What}
use Rattle.pb_unit.specs.declared.unit.What.TheVariants.{Run}
use Rattle.pb_command_types.specs.Targets.{package_of, crate_name_of, crate_types, source_by, is_run, said_at, own_said}
use Rattle.pb_command_types.specs.declared.project.Project.{Project}
use Rattle.pb_command_types.specs.declared.project.Setup.{Setup}
use Rattle.pb_command.specs.Command.{crate_part, words_of, command_by, command_for}
use Rattle.pb_command_types.specs.NamedTexts.{in_order}
use Rattle.pb_command_arguments.specs.Externs.{dependency_words, extern_words, externs, library_words}
use Rattle.pb_command_arguments.specs.Said.{search_words, own_words, said_words}
use Rattle.pb_command_arguments.specs.Words.{crate_words, output_words, settings_words, feature_words}
use Rattle.pb_command_laws.specs.Compiles.{CompileSays, CompilesSay, is_binary, settings_table, heard, feature_is_on, features_there_are, libraries_at}
use Rattle.pb_command_laws.specs.Libraries.{assigned, IsLibrary}
use Rattle.pb_command_laws.specs.Reading.{said_by}
use Rattle.pb_command_laws.proofs.Asking.{folder_searched, searches_asked, links_asked, conditions_asked, checks_asked}
use Rattle.pb_command_laws.proofs.Sayings.{Group, all_under, Says, says_one, says_both, values-groups}
use Rattle.pb_command_laws.proofs.Groups.{crate_groups, crate_says, output_groups, output_says, settings_give, feature_groups, features_say, dependency_in, folders_give, externs_give, searches_give, own_groups, own_says, link_arg, flags_are}
use Rattle.pb_command_laws.proofs.Named.{libraries_of, libraries_told, are_libraries}

module _ (project : Project) (unit : Planned) (done : List (Option (List Directive))) (p : Package) where
  abbrev what : What
  what = unit.unit.what

  abbrev first_groups : List Group
  first_groups =
      crate_groups (crate_name_of project unit) (codes "--edition=" ++ edition_text p.edition) (source_by p what) ++ output_groups (map crate_type_text (crate_types p.library what)) unit.out
      ++ (codes "-C", map assigned (settings_table what unit.settings)) ∷ [] ++ feature_groups (features_at project.features unit.unit.package unit.unit.side) p.features

  abbrev library_groups : List Group
  library_groups = (codes "-L", map dependency_in (libraries_at project unit.reaches)) ∷ (codes "--extern", map (λ (pair : List ℕ × List ℕ). pair.1) (in_order (externs project unit p))) ∷ []

  abbrev said_groups : List Group
  said_groups = (codes "-L", flat_map folder_searched (flat_map (said_at done) unit.reaches)) ∷ own_groups what p.library (heard project unit done)

  first_say : is_path (source_by p what) ≡ true → Says (crate_part project unit p) first_groups
  first_say absolute =
      let crate = crate_groups (crate_name_of project unit) (codes "--edition=" ++ edition_text p.edition) (source_by p what) in
      let output = output_groups (map crate_type_text (crate_types p.library what)) unit.out in
      let settings = (codes "-C", map assigned (settings_table what unit.settings)) ∷ [] in
      let features = feature_groups (features_at project.features unit.unit.package unit.unit.side) p.features in
      says_both (crate_words project unit p ++ output_words unit p ++ settings_words what unit.settings) (feature_words project unit p) (crate ++ output ++ settings) features
      (says_both (crate_words project unit p ++ output_words unit p) (settings_words what unit.settings) (crate ++ output) settings
      (says_both (crate_words project unit p) (output_words unit p) crate output (crate_says project unit p absolute) (output_says unit p))
      (says_one (settings_words what unit.settings) (codes "-C") (map assigned (settings_table what unit.settings)) (settings_give what unit.settings))) (features_say project unit p)

  libraries_say : Says (library_words project unit p) library_groups
  libraries_say =
      let pairs = in_order (externs project unit p) in
      let folders = map dependency_in (libraries_at project unit.reaches) in
      let given = map (λ (pair : List ℕ × List ℕ). pair.1) pairs in
      says_both (dependency_words project unit) (extern_words project unit p) ((codes "-L", folders) ∷ []) ((codes "--extern", given) ∷ [])
      (says_one (dependency_words project unit) (codes "-L") folders (folders_give project unit.reaches))
      (says_one (extern_words project unit p) (codes "--extern") given (externs_give pairs))

  said_say : Says (said_words project unit done p) said_groups
  said_say =
      let searches = flat_map folder_searched (flat_map (said_at done) unit.reaches) in
      says_both (search_words unit done) (own_words what p.library (own_said project unit done)) ((codes "-L", searches) ∷ []) (own_groups what p.library (heard project unit done))
      (says_one (search_words unit done) (codes "-L") searches (searches_give done unit.reaches)) (own_says what p.library (own_said project unit done))

  abbrev groups : List Group
  groups = first_groups ++ (library_groups ++ said_groups)

  all_say : (setup : Setup) → is_path (source_by p what) ≡ true → said_by (words_of setup project unit done p) ≡ all_under groups ++ said_by setup.flags
  all_say setup absolute =
      let asked = library_words project unit p ++ said_words project unit done p in
      ap said_by (sym (append_assoc (crate_part project unit p) asked setup.flags))
      ∙ (says_both (crate_part project unit p) asked first_groups (library_groups ++ said_groups) (first_say absolute)
      (says_both (library_words project unit p) (said_words project unit done p) library_groups said_groups libraries_say said_say)).reads setup.flags

  fields : IsSettled project.workspace → package_of project unit ≡ Some p → is_run what ≡ false → CompileSays project unit done p (heard project unit done) (IsLibrary project unit p) (all_under groups)
  fields settled there compiles = record {
    crate_name = values-groups (codes "--crate-name") groups;
    crate_types = values-groups (codes "--crate-type") groups ∙ append-nil _;
    folder = values-groups (codes "--out-dir") groups;
    alone = values-groups [] groups;
    settings = values-groups (codes "-C") groups ∙ ap (λ vs. map assigned (settings_table what unit.settings) ++ vs) (append-nil _) ∙ ap (λ vs. map assigned (settings_table what unit.settings) ++ map link_arg vs) (flags_are what (heard project unit done));
    conditions = values-groups (codes "--cfg") groups ∙ ap (λ vs. map feature_is_on (features_at project.features unit.unit.package unit.unit.side) ++ vs) (append-nil _ ∙ conditions_asked (heard project unit done));
    expected = values-groups (codes "--check-cfg") groups ∙ append-nil _ ∙ ap (λ vs. features_there_are p.features ∷ vs) (checks_asked (heard project unit done));
    searched = values-groups (codes "-L") groups ∙ ap (λ vs. map dependency_in (libraries_at project unit.reaches) ++ vs) (append-nil _ ∙ searches_asked (flat_map (said_at done) unit.reaches));
    linked = values-groups (codes "-l") groups ∙ append-nil _ ∙ ap (λ vs. cond (is_binary what && is_some p.library) [] vs) (links_asked (heard project unit done));
    libraries = libraries_of project unit p settled there compiles;
    given = values-groups (codes "--extern") groups ∙ append-nil _ ∙ libraries_told project unit p settled there compiles;
    are = are_libraries project unit p settled there compiles;
  }

by_what : (what : What) (setup : Setup) (project : Project) (unit : Planned) (done : List (Option (List Directive))) (p : Package) → is_run what ≡ false → (command_by what setup project unit done p).words ≡ words_of setup project unit done p
by_what Run setup project unit done p compiles = absurd (cc)
by_what _ setup project unit done p compiles = refl

pub compiles_say : CompilesSay
compiles_say setup project unit done p settled there compiles absolute = (
  all_under (groups project unit done p),
  ap (λ owner. said_by (command_for setup project unit done owner).words) there ∙ ap said_by (by_what unit.unit.what setup project unit done p compiles) ∙ all_say project unit done p setup absolute,
  fields project unit done p settled there compiles,
)
