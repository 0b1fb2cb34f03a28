-- What the arguments of a compile say: which values each option has, in order (The Cargo Book,
-- Build Cache, Profiles, Features, Build Scripts).
use Rattle.std.specs.Prelude.{◌≡◌, ℕ, Bool, true, false, ◌&&◌, ◌||◌, if◌then◌else◌, is_some, codes, List, [], ◌∷◌, ◌++◌, map, filter, Option, Some, None}
use Rattle.std.specs.List.{flat_map, filter_map, join_by}
use Rattle.std.specs.Option.{option_map, option_to_list}
use Rattle.pb_directive.specs.declared.directive.Directive.{Directive}
use Rattle.pb_directive.specs.declared.directive.Directive.TheVariants.{LinkSearch, LinkLib, Cfg, CheckCfg, LinkArg, LinkArgBins, LinkArgBin, RerunIfChanged, RerunIfEnvChanged, Error}
use Rattle.pb_manifest_types.specs.Library.{crate_type_text}
use Rattle.pb_manifest_types.specs.Package.{edition_text}
use Rattle.pb_manifest_types.specs.declared.feature.Feature.{Feature}
use Rattle.pb_profile_keys.specs.Keys.{setting_at}
use Rattle.pb_profile_keys.specs.Setting.{same}
use Rattle.pb_profile_keys.specs.declared.key.ProfileKey.TheVariants as key
use Rattle.pb_profile_keys.specs.declared.setting.Setting.{Setting}
use Rattle.pb_profile_keys.specs.declared.setting.Setting.TheVariants.{Truth, Word}
use Rattle.pb_profile_keys.specs.declared.setting.Word.TheVariants as word
use Rattle.pb_feature_types.specs.Features.{features_at}
use Rattle.pb_workspace_types.specs.Settled.{IsSettled}
use Rattle.pb_workspace_types.specs.declared.package.Package.{Package}
use Rattle.pb_place_types.specs.Paths.{is_path}
use Rattle.pb_unit.specs.declared.plan.Planned.{Planned}
use Rattle.pb_unit.specs.declared.unit.What.{What}
use Rattle.pb_unit.specs.declared.unit.What.TheVariants.{Bin}
use Rattle.pb_command_types.specs.Targets.{package_of, unit_at, crate_name_of, crate_types, source_by, is_library, is_run, said_at, own_said}
use Rattle.pb_command_types.specs.declared.project.Project.{Project}
use Rattle.pb_command_types.specs.declared.project.Setup.{Setup}
use Rattle.pb_command.specs.Command.{command_of}
use Rattle.pb_command_arguments.specs.Words.{value_text}
use Rattle.pb_command_laws.specs.Libraries.{AreLibraries, IsLibrary, assigned}
use Rattle.pb_command_laws.specs.Reading.{said_by, values}

abbrev pub binary_name : What → Option (List ℕ)
binary_name (Bin name) = Some name
binary_name _ = None

abbrev pub is_binary : What → Bool
is_binary what = is_some (binary_name what)

-- Settings.

-- a value as the compiler spells it; there is no text if the value is `other`
abbrev pub unless_is : Setting → List ℕ → Setting → Option (List ℕ)
unless_is other shown value = if same other value then None else Some (value_text shown value)

-- a row with this name and this value; there is no row if there is no value
abbrev pub row : List ℕ → Option (List ℕ) → List (List ℕ × List ℕ)
row name value = option_to_list (option_map (λ text. (name, text)) value)

-- The settings with their values. If the compiler gets no option for a setting, the setting has no
-- row.
abbrev pub settings_table : What → List Setting → List (List ℕ × List ℕ)
settings_table what s =
    (codes "opt-level", value_text (codes "on") (setting_at s key.OptLevel))
    ∷ (codes "debuginfo", value_text (codes "on") (setting_at s key.Debug))
    ∷ (codes "debug-assertions", value_text (codes "on") (setting_at s key.DebugAssertions))
    ∷ (codes "overflow-checks", value_text (codes "on") (setting_at s key.OverflowChecks))
    ∷ (codes "codegen-units", value_text (codes "on") (setting_at s key.CodegenUnits))
    ∷ (codes "panic", value_text (codes "on") (setting_at s key.Panic))
    ∷ row (codes "rpath") (unless_is (Truth false) (codes "yes") (setting_at s key.Rpath))
    ++ row (codes "strip") (unless_is (Word word.Nothing) (codes "on") (setting_at s key.Strip))
    ++ row (codes "lto") (if is_binary what then unless_is (Truth false) (codes "on") (setting_at s key.Lto) else None)

-- What the lines of scripts say.

-- A line of a script as its key and its value. The key of `rustc-link-arg-bin=BIN=FLAG` is
-- `rustc-link-arg-bin=BIN`. If no argument depends on a line, the line's key and value are empty
-- here.
abbrev pub as_line : Directive → List ℕ × List ℕ
as_line (LinkSearch folder) = (codes "rustc-link-search", folder)
as_line (LinkLib name) = (codes "rustc-link-lib", name)
as_line (Cfg condition) = (codes "rustc-cfg", condition)
as_line (CheckCfg condition) = (codes "rustc-check-cfg", condition)
as_line (LinkArg flag) = (codes "rustc-link-arg", flag)
as_line (LinkArgBins flag) = (codes "rustc-link-arg-bins", flag)
as_line (LinkArgBin binary flag) = (codes "rustc-link-arg-bin=" ++ binary, flag)
as_line (RerunIfChanged path) = (codes "rerun-if-changed", path)
as_line (RerunIfEnvChanged name) = (codes "rerun-if-env-changed", name)
as_line (Error text) = (codes "error", text)
as_line _ = ([], [])

-- the values of the lines with this key, in printed order
abbrev pub asked : List ℕ → List Directive → List (List ℕ)
asked key said = values key (map as_line said)

-- A unit of this kind hears the run of its package, so the directives of this run count for the
-- unit. Only libraries and binaries hear a run.
abbrev pub hears : What → Bool
hears what = is_library what || is_binary what

-- the directives that a unit hears from the run of its own package
abbrev pub heard : Project → Planned → List (Option (List Directive)) → List Directive
heard project unit done = if hears unit.unit.what then own_said project unit done else []

-- the linker flags of a binary, from the directives that the binary hears
abbrev pub linker_flags : What → List Directive → List (List ℕ)
linker_flags (Bin name) said = asked (codes "rustc-link-arg") said ++ asked (codes "rustc-link-arg-bins") said ++ asked (codes "rustc-link-arg-bin=" ++ name) said
linker_flags _ said = []

-- Features.

abbrev pub quoted : List ℕ → List ℕ
quoted name = codes "\"" ++ name ++ codes "\""

-- the text `feature="F"`
abbrev pub feature_is_on : List ℕ → List ℕ
feature_is_on name = codes "feature=" ++ quoted name

-- the text `cfg(feature, values("F", "G"))`
abbrev pub features_there_are : List Feature → List ℕ
features_there_are features = codes "cfg(feature, values(" ++ join_by (λ (f : Feature). quoted f.name) (codes ", ") features ++ codes "))"

-- Libraries.

-- the libraries among the units at these indices
abbrev pub libraries_at : Project → List ℕ → List Planned
libraries_at project indices = filter (λ (u : Planned). is_library u.unit.what) (filter_map (unit_at project) indices)

-- What the arguments of a compile say. `lines` are the directives that the unit hears. `Is` is true
-- of the libraries that the unit gets.
pub record CompileSays (project : Project) (unit : Planned) (done : List (Option (List Directive))) (p : Package) (lines : List Directive) (Is : List ℕ → List ℕ → Type 0) (said : List (List ℕ × List ℕ)) : Type 0 where
  pub crate_name : values (codes "--crate-name") said ≡ crate_name_of project unit ∷ []
  pub crate_types : values (codes "--crate-type") said ≡ map crate_type_text (crate_types p.library unit.unit.what)
  pub folder : values (codes "--out-dir") said ≡ unit.out ∷ []
  pub alone : values [] said ≡ (codes "--edition=" ++ edition_text p.edition) ∷ source_by p unit.unit.what ∷ codes "--error-format=json" ∷ codes "--emit=dep-info,link" ∷ []
  pub settings : values (codes "-C") said ≡ map assigned (settings_table unit.unit.what unit.settings) ++ map (λ flag. codes "link-arg=" ++ flag) (linker_flags unit.unit.what lines)
  -- The values of `--cfg` are the features that are on, and then the conditions that the script
  -- sets. The values of `--check-cfg` are the features that exist, and then the conditions that the
  -- script expects.
  pub conditions : values (codes "--cfg") said ≡ map feature_is_on (features_at project.features unit.unit.package unit.unit.side) ++ asked (codes "rustc-cfg") lines
  pub expected : values (codes "--check-cfg") said ≡ features_there_are p.features ∷ asked (codes "rustc-check-cfg") lines
  -- the values of `-L` are the folders of the libraries that the unit reaches, and then the folders
  -- that the reached runs have named
  pub searched : values (codes "-L") said ≡ map (λ (library : Planned). codes "dependency=" ++ library.out) (libraries_at project unit.reaches) ++ asked (codes "rustc-link-search") (flat_map (said_at done) unit.reaches)
  -- The values of `-l` are what the script links. A binary has these values only if its package has
  -- no library.
  pub linked : values (codes "-l") said ≡ (if is_binary unit.unit.what && is_some p.library then [] else asked (codes "rustc-link-lib") lines)
  pub libraries : List (List ℕ × List ℕ)
  pub given : values (codes "--extern") said ≡ map assigned libraries
  pub are : AreLibraries Is libraries

-- Law: the arguments of a compile say what `CompileSays` states, followed by what the user's flags
-- say. The unit's package must belong to a workspace that was read, and the unit's source must have
-- a normalised absolute path.
abbrev pub CompilesSay : Type 0
CompilesSay = (setup : Setup) (project : Project) (unit : Planned) (done : List (Option (List Directive))) (p : Package)
    → IsSettled project.workspace → package_of project unit ≡ Some p → is_run unit.unit.what ≡ false → is_path (source_by p unit.unit.what) ≡ true
    → (said : List (List ℕ × List ℕ)) × (said_by (command_of setup project unit done).words ≡ said ++ said_by setup.flags) × CompileSays project unit done p (heard project unit done) (IsLibrary project unit p) said
