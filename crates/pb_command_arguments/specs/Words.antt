-- The arguments of a compile, group by group. The sources are The Cargo Book (Build Cache,
-- Profiles, Features) and the compiler's own command line.
use Rattle.std.specs.Prelude.{ℕ, Bool, true, false, not, ◌&&◌, ◌||◌, if◌then◌else◌, codes, List, [], ◌∷◌, ◌++◌, Option, Some, None}
use Rattle.std.specs.Fmt.{decimal}
use Rattle.std.specs.List.{flat_map, join_by}
use Rattle.pb_manifest_types.specs.Library.{crate_type_text}
use Rattle.pb_manifest_types.specs.Package.{edition_text}
use Rattle.pb_manifest_types.specs.declared.package.Edition.{Edition}
use Rattle.pb_manifest_types.specs.declared.feature.Feature.{Feature}
use Rattle.pb_manifest_types.specs.declared.target.CrateType.{CrateType}
use Rattle.pb_profile_keys.specs.Keys.{setting_at}
use Rattle.pb_profile_keys.specs.Setting.{same, spelled}
use Rattle.pb_profile_keys.specs.Table.{row, told}
use Rattle.pb_profile_keys.specs.declared.key.ProfileKey.{ProfileKey}
use Rattle.pb_profile_keys.specs.declared.setting.Setting.{Setting}
use Rattle.pb_profile_keys.specs.declared.setting.Setting.TheVariants.{Truth, Number, Word}
use Rattle.pb_feature_types.specs.Features.{features_at}
use Rattle.pb_unit.specs.declared.plan.Planned.{Planned}
use Rattle.pb_unit.specs.declared.unit.What.{What}
use Rattle.pb_unit.specs.declared.unit.What.TheVariants.{Bin}
use Rattle.pb_workspace_types.specs.declared.package.Package.{Package}
use Rattle.pb_command_types.specs.declared.project.Project.{Project}
use Rattle.pb_command_types.specs.Targets.{crate_name_of, crate_types, source_by}

-- an option and its value, as two arguments
unfoldable pub option : List ℕ → List ℕ → List (List ℕ)
option name value = name ∷ value ∷ []

-- The crate.

unfoldable pub name_words : List ℕ → List (List ℕ)
name_words name = option (codes "--crate-name") name

unfoldable pub edition_word : Edition → List ℕ
edition_word edition = codes "--edition=" ++ edition_text edition

-- the option that makes the compiler report diagnostics as JSON
unfoldable pub format_words : List (List ℕ)
format_words = codes "--error-format=json" ∷ []

-- the arguments for the crate's name, its edition, its source, and the form of its diagnostics
abbrev pub crate_words : Project → Planned → Package → List (List ℕ)
crate_words project unit p = name_words (crate_name_of project unit) ++ edition_word p.edition ∷ source_by p unit.unit.what ∷ format_words

-- The output, and its folder.

-- the option `--crate-type` with a crate type
unfoldable pub type_word : CrateType → List (List ℕ)
type_word t = option (codes "--crate-type") (crate_type_text t)

-- the option `--crate-type` with each of these crate types
abbrev pub type_words : List CrateType → List (List ℕ)
type_words types = flat_map type_word types

-- the option that says what the compiler writes: dep-info and the linked file
unfoldable pub emit_words : List (List ℕ)
emit_words = codes "--emit=dep-info,link" ∷ []

unfoldable pub out_words : List ℕ → List (List ℕ)
out_words folder = option (codes "--out-dir") folder

abbrev pub output_words : Planned → Package → List (List ℕ)
output_words unit p = type_words (crate_types p.library unit.unit.what) ++ emit_words ++ out_words unit.out

-- Settings.

-- the option `-C` with the setting of a key
unfoldable pub setting : List ℕ → List ℕ → List (List ℕ)
setting key value = option (codes "-C") (key ++ value)

-- a setting as the compiler spells it; `shown` is the spelling of `true`
abbrev pub value_text : List ℕ → Setting → List ℕ
value_text shown (Truth true) = shown
value_text shown (Truth false) = codes "off"
value_text shown (Number n) = decimal n
value_text shown (Word w) = spelled w

abbrev pub is_binary : What → Bool
is_binary (Bin name) = true
is_binary _ = false

abbrev pub is_value : Option Setting → Setting → Bool
is_value None value = false
is_value (Some other) value = same other value

-- The key needs no option for this unit. Either the compiler uses this value if there is no option.
-- Or only binaries have the option, and the unit is not a binary.
abbrev pub is_untold : What → ProfileKey → Setting → Bool
is_untold what k value = ((row k).of_binaries && not (is_binary what)) || is_value (row k).untold value

-- the option of a key, or no argument if the key needs no option
abbrev pub key_words : What → List Setting → ProfileKey → List (List ℕ)
key_words what s k = if is_untold what k (setting_at s k) then [] else setting (row k).option (value_text (row k).yes (setting_at s k))

abbrev pub settings_words : What → List Setting → List (List ℕ)
settings_words what s = flat_map (key_words what s) told

-- Features.

unfoldable pub quoted : List ℕ → List ℕ
quoted name = codes "\"" ++ name ++ codes "\""

unfoldable pub feature_text : List ℕ → List ℕ
feature_text name = codes "feature=" ++ quoted name

-- the option `--cfg` with `feature="F"`
abbrev pub feature_word : List ℕ → List (List ℕ)
feature_word name = option (codes "--cfg") (feature_text name)

-- the text `cfg(feature, values("F", "G"))`, which names all features of the package
unfoldable pub expected_text : List Feature → List ℕ
expected_text features = codes "cfg(feature, values(" ++ join_by (λ (f : Feature). quoted f.name) (codes ", ") features ++ codes "))"

-- the options for those features of the unit's package that are on
abbrev pub active_words : Project → Planned → List (List ℕ)
active_words project unit = flat_map feature_word (features_at project.features unit.unit.package unit.unit.side)

unfoldable pub expected_words : List Feature → List (List ℕ)
expected_words features = option (codes "--check-cfg") (expected_text features)

-- the options for the features that are on, followed by the option that names all features of the
-- package
abbrev pub feature_words : Project → Planned → Package → List (List ℕ)
feature_words project unit p = active_words project unit ++ expected_words p.features
