-- Which variables a command sets (The Cargo Book, Environment Variables). The definitions are
-- tables of names and values. In a table the last value of a name counts.
use Rattle.std.specs.Prelude.{◌≡◌, ℕ, true, false, if◌then◌else◌, codes, List, [], ◌∷◌, ◌++◌, map, reverse, Option, Some, None}
use Rattle.std.specs.Fmt.{decimal}
use Rattle.std.specs.List.{flat_map, list_any, join_by}
use Rattle.std.specs.Option.{option_and_then, option_map, option_map_or}
use Rattle.std.specs.Result.{result_unwrap_or}
use Rattle.std.specs.Str.{bytes_eq}
use Rattle.semver.specs.Parse.{version_parts}
use Rattle.pb_data.specs.Table.{value_at}
use Rattle.pb_directive.specs.Metadata.{in_capitals, passed}
use Rattle.pb_directive.specs.declared.directive.Directive.{Directive}
use Rattle.pb_directive.specs.declared.directive.Directive.TheVariants.{Env}
use Rattle.pb_feature_types.specs.Features.{features_at}
use Rattle.pb_workspace_types.specs.declared.package.Package.{Package}
use Rattle.pb_place_types.specs.declared.command.Command.{Command}
use Rattle.pb_profile.specs.Line.{Seen, checked_line}
use Rattle.pb_profile_keys.specs.Keys.{setting_at, word_in}
use Rattle.pb_profile_keys.specs.Setting.{spelled}
use Rattle.pb_profile_keys.specs.declared.key.ProfileKey.TheVariants as key
use Rattle.pb_profile_keys.specs.declared.setting.Word.{Word}
use Rattle.pb_profile_keys.specs.declared.setting.Word.TheVariants as word
use Rattle.pb_unit.specs.declared.plan.Planned.{Planned}
use Rattle.pb_command_types.specs.Targets.{package_of, unit_at, crate_name_of, is_run, own_run, said_at}
use Rattle.pb_command_types.specs.declared.project.Project.{Project}
use Rattle.pb_command_types.specs.declared.project.Setup.{Setup}
use Rattle.pb_command.specs.Command.{command_of}
use Rattle.pb_command_environment.specs.Pairs.{triple_of}
use Rattle.pb_command_laws.specs.Compiles.{binary_name, row, hears, heard}

-- The command sets exactly the variables of the table. If the table has several values for a name,
-- the last of them is the variable's value.
abbrev pub HasVariables : Command → List (List ℕ × List ℕ) → Type 0
HasVariables command table = (name : List ℕ) → value_at name command.pairs ≡ value_at name (reverse table)

-- For every unit.

-- The parts of a version: three numbers, and the texts after `-` and after `+`. The version of each
-- package has these parts.
abbrev pub parts_of : List ℕ → ℕ × ℕ × ℕ × List ℕ × List ℕ
parts_of version = result_unwrap_or (version_parts version) (0, 0, 0, [], [])

-- the variables about the builder and the unit's package, such as the package's version and authors
abbrev pub package_table : Setup → Package → List (List ℕ × List ℕ)
package_table setup p =
    (codes "CARGO", setup.tool) ∷ (codes "CARGO_MANIFEST_DIR", p.folder) ∷ (codes "CARGO_MANIFEST_PATH", p.manifest) ∷ (codes "CARGO_PKG_NAME", p.name)
    ∷ (codes "CARGO_PKG_AUTHORS", p.about.authors) ∷ (codes "CARGO_PKG_DESCRIPTION", p.about.description) ∷ (codes "CARGO_PKG_HOMEPAGE", p.about.homepage)
    ∷ (codes "CARGO_PKG_LICENSE", p.about.license) ∷ (codes "CARGO_PKG_LICENSE_FILE", p.about.license_file) ∷ (codes "CARGO_PKG_README", p.about.readme)
    ∷ (codes "CARGO_PKG_REPOSITORY", p.about.repository) ∷ (codes "CARGO_PKG_RUST_VERSION", p.about.rust_version)
    ∷ (codes "CARGO_PKG_VERSION", p.version)
    ∷ (codes "CARGO_PKG_VERSION_MAJOR", decimal (parts_of p.version).0) ∷ (codes "CARGO_PKG_VERSION_MINOR", decimal (parts_of p.version).1)
    ∷ (codes "CARGO_PKG_VERSION_PATCH", decimal (parts_of p.version).2) ∷ (codes "CARGO_PKG_VERSION_PRE", (parts_of p.version).3) ∷ []

-- For compiles.

abbrev pub variable_set : Directive → List (List ℕ × List ℕ)
variable_set (Env name value) = (name, value) ∷ []
variable_set _ = []

-- The variables of a compile. First come the variables of every unit, then the crate's name and,
-- for a binary, the binary's own name. `ran` is the output folder of the run that the unit hears,
-- if there is one. `said` are the lines of this run. Their variables come last, and so replace
-- earlier variables.
abbrev pub compile_table : Setup → Project → Planned → Package → List Directive → Option (List ℕ) → List (List ℕ × List ℕ)
compile_table setup project unit p said ran =
    package_table setup p ++ (codes "CARGO_CRATE_NAME", crate_name_of project unit) ∷ row (codes "CARGO_BIN_NAME") (binary_name unit.unit.what) ++ row (codes "OUT_DIR") ran ++ flat_map variable_set said

-- the output folder of the unit at an index, if there is such a unit
abbrev pub folder_at : Project → Option ℕ → Option (List ℕ)
folder_at project None = None
folder_at project (Some index) = option_map (λ (u : Planned). u.out) (unit_at project index)

-- The law about the variables of compiles.
abbrev pub CompilesHave : Type 0
CompilesHave = (setup : Setup) (project : Project) (unit : Planned) (done : List (Option (List Directive))) (p : Package)
    → package_of project unit ≡ Some p → is_run unit.unit.what ≡ false → HasVariables (command_of setup project unit done) (compile_table setup project unit p (heard project unit done) (if hears unit.unit.what then folder_at project (own_run project unit) else None))

-- For runs.

-- the text `true` if there is any debug information, and `false` otherwise
abbrev pub debug_text : Word → List ℕ
debug_text word.Zero = codes "false"
debug_text _ = codes "true"

-- the native library that the package of a run links, if the package links one
abbrev pub links_of_run : Project → Planned → Option (List ℕ)
links_of_run project u = if is_run u.unit.what then option_and_then (λ (p : Package). p.links) (package_of project u) else None

-- the metadata of the run at an index, as variables that are named after the native library of the
-- run's package
abbrev pub handed_on : Project → List (Option (List Directive)) → ℕ → List (List ℕ × List ℕ)
handed_on project done index = option_map_or (λ links. passed links (said_at done index)) (option_and_then (links_of_run project) (unit_at project index)) []

-- The variables of a run. First come the variables of every unit, then what the run's package
-- links, and `1` for each feature that is on. Then come the run's folder, the platform, the
-- settings of the package, the compiler and the compiler's flags. Last comes the metadata of the
-- runs that this run needs, in plan order. `PROFILE` is `release` if the profile is `release` or
-- inherits from `release`.
abbrev pub run_table : Setup → Project → Planned → List (Option (List Directive)) → Package → List (List ℕ × List ℕ)
run_table setup project unit done p =
    package_table setup p ++ row (codes "CARGO_MANIFEST_LINKS") p.links
    ++ map (λ name. (codes "CARGO_FEATURE_" ++ in_capitals name, codes "1")) (features_at project.features unit.unit.package unit.unit.side)
    ++ (codes "OUT_DIR", unit.out) ∷ (codes "TARGET", triple_of setup.toolchain) ∷ (codes "HOST", triple_of setup.toolchain) ∷ (codes "NUM_JOBS", codes "1")
    ∷ (codes "OPT_LEVEL", spelled (word_in (setting_at unit.settings key.OptLevel))) ∷ (codes "DEBUG", debug_text (word_in (setting_at unit.settings key.Debug)))
    ∷ (codes "PROFILE", if list_any (λ (s : Seen). bytes_eq s.name (codes "release")) (result_unwrap_or (checked_line project.workspace.profiles project.profile) []) then codes "release" else codes "debug")
    ∷ (codes "RUSTC", setup.rustc) ∷ (codes "CARGO_ENCODED_RUSTFLAGS", join_by (λ flag. flag) (31 ∷ []) setup.flags) ∷ flat_map (handed_on project done) unit.needs

-- The law about the variables of runs.
abbrev pub RunsHave : Type 0
RunsHave = (setup : Setup) (project : Project) (unit : Planned) (done : List (Option (List Directive))) (p : Package)
    → package_of project unit ≡ Some p → is_run unit.unit.what ≡ true → HasVariables (command_of setup project unit done) (run_table setup project unit done p)
