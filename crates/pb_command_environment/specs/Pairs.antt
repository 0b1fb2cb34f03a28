-- Which variables the command of a unit sets (The Cargo Book, Environment Variables).
use Rattle.std.specs.Prelude.{ℕ, Bool, true, false, if◌then◌else◌, codes, List, [], ◌∷◌, ◌++◌, map, Option, Some, None, Result, Ok, Err}
use Rattle.std.specs.Fmt.{decimal}
use Rattle.std.specs.List.{flat_map, list_any, join_by}
use Rattle.std.specs.Str.{bytes_eq}
use Rattle.pb_data.specs.Truth.{truth_text}
use Rattle.semver.specs.Parse.{version_parts}
use Rattle.pb_directive.specs.Lines.{lines_of, text_of, after_prefix}
use Rattle.pb_directive.specs.Metadata.{in_capitals, dep_pairs}
use Rattle.pb_directive.specs.declared.directive.Directive.{Directive}
use Rattle.pb_directive.specs.declared.directive.Directive.TheVariants.{Env}
use Rattle.pb_feature_types.specs.Features.{features_at}
use Rattle.pb_profile.specs.Line.{Seen, checked_line}
use Rattle.pb_profile.specs.declared.fault.ProfileFault.{ProfileFault}
use Rattle.pb_profile_keys.specs.Keys.{opt_level, debug}
use Rattle.pb_profile_keys.specs.Setting.{spelled}
use Rattle.pb_profile_keys.specs.declared.setting.Setting.{Setting}
use Rattle.pb_profile_keys.specs.declared.setting.Word.{Word}
use Rattle.pb_profile_keys.specs.declared.setting.Word.TheVariants as word
use Rattle.pb_unit.specs.declared.plan.Planned.{Planned}
use Rattle.pb_unit.specs.declared.unit.What.{What}
use Rattle.pb_unit.specs.declared.unit.What.TheVariants.{Lib, Bin, Script, Run}
use Rattle.pb_workspace_types.specs.declared.package.About.{About}
use Rattle.pb_workspace_types.specs.declared.package.Package.{Package}
use Rattle.pb_command_types.specs.declared.project.Project.{Project}
use Rattle.pb_command_types.specs.declared.project.Setup.{Setup}
use Rattle.pb_command_types.specs.Targets.{package_of, unit_at, crate_name_of, is_run, own_run, said_at}
use Rattle.pb_command_types.specs.NamedTexts.{in_order}

-- For all units.

-- the variables that name the builder and the package
abbrev pub package_pairs : Setup → Package → List (List ℕ × List ℕ)
package_pairs setup p =
    (codes "CARGO", setup.tool) ∷ (codes "CARGO_MANIFEST_DIR", p.folder) ∷ (codes "CARGO_MANIFEST_PATH", p.manifest) ∷ (codes "CARGO_PKG_NAME", p.name) ∷ []

-- the variables with the package's texts for people: its authors, its description and so on
abbrev pub about_pairs : About → List (List ℕ × List ℕ)
about_pairs a =
    (codes "CARGO_PKG_AUTHORS", a.authors) ∷ (codes "CARGO_PKG_DESCRIPTION", a.description) ∷ (codes "CARGO_PKG_HOMEPAGE", a.homepage) ∷ (codes "CARGO_PKG_LICENSE", a.license)
    ∷ (codes "CARGO_PKG_LICENSE_FILE", a.license_file) ∷ (codes "CARGO_PKG_README", a.readme) ∷ (codes "CARGO_PKG_REPOSITORY", a.repository) ∷ (codes "CARGO_PKG_RUST_VERSION", a.rust_version) ∷ []

-- The three numbers of a version, and the version's other parts. If the version cannot be read, the
-- numbers are 0 and the other parts are empty.
abbrev pub numbers_in : {E : Type 0} → Result (ℕ × ℕ × ℕ × List ℕ × List ℕ) E → ℕ × ℕ × ℕ × List ℕ × List ℕ
numbers_in (Ok parts) = parts
numbers_in (Err e) = (0, 0, 0, [], [])

abbrev pub version_numbers : List ℕ → ℕ × ℕ × ℕ × List ℕ × List ℕ
version_numbers text = numbers_in (version_parts text)

abbrev pub version_texts : List ℕ → List ℕ → List ℕ → List ℕ → List ℕ → List (List ℕ × List ℕ)
version_texts version major minor patch pre =
    (codes "CARGO_PKG_VERSION", version) ∷ (codes "CARGO_PKG_VERSION_MAJOR", major) ∷ (codes "CARGO_PKG_VERSION_MINOR", minor) ∷ (codes "CARGO_PKG_VERSION_PATCH", patch) ∷ (codes "CARGO_PKG_VERSION_PRE", pre) ∷ []

-- the variables for the version and its parts
abbrev pub version_pairs : List ℕ → List (List ℕ × List ℕ)
version_pairs v = version_texts v (decimal (version_numbers v).0) (decimal (version_numbers v).1) (decimal (version_numbers v).2) (version_numbers v).3

-- For compiles.

abbrev pub crate_pairs : Project → Planned → List (List ℕ × List ℕ)
crate_pairs project unit = (codes "CARGO_CRATE_NAME", crate_name_of project unit) ∷ []

abbrev pub binary_pairs : List ℕ → List (List ℕ × List ℕ)
binary_pairs name = (codes "CARGO_BIN_NAME", name) ∷ []

abbrev pub env_pair : Directive → List (List ℕ × List ℕ)
env_pair (Env name value) = (name, value) ∷ []
env_pair _ = []

-- the variable `OUT_DIR` with the output folder of a run, if there is a run
abbrev pub out_pairs : Option Planned → List (List ℕ × List ℕ)
out_pairs None = []
out_pairs (Some unit) = (codes "OUT_DIR", unit.out) ∷ []

-- `OUT_DIR` of the run at an index, followed by the variables that this run has set
abbrev pub run_at : Project → List (Option (List Directive)) → ℕ → List (List ℕ × List ℕ)
run_at project done index = out_pairs (unit_at project index) ++ flat_map env_pair (said_at done index)

abbrev pub run_there : Project → List (Option (List Directive)) → Option ℕ → List (List ℕ × List ℕ)
run_there project done None = []
run_there project done (Some index) = run_at project done index

-- `OUT_DIR` of the run of the unit's own package, followed by the variables that this run has set
abbrev pub own_run_pairs : Project → Planned → List (Option (List Directive)) → List (List ℕ × List ℕ)
own_run_pairs project unit done = run_there project done (own_run project unit)

-- For runs.

abbrev pub links_pairs : Option (List ℕ) → List (List ℕ × List ℕ)
links_pairs None = []
links_pairs (Some links) = (codes "CARGO_MANIFEST_LINKS", links) ∷ []

unfoldable pub feature_name : List ℕ → List ℕ
feature_name name = codes "CARGO_FEATURE_" ++ in_capitals name

-- the variable `CARGO_FEATURE_NAME` for a feature that is on
abbrev pub feature_pair : List ℕ → List ℕ × List ℕ
feature_pair name = (feature_name name, codes "1")

-- the variables for what the package links, and for the features that are on
abbrev pub described_pairs : Project → Planned → Package → List (List ℕ × List ℕ)
described_pairs project unit p = links_pairs p.links ++ map feature_pair (features_at project.features unit.unit.package unit.unit.side)

-- the text, if there is a text and the text is not empty
abbrev pub unless_empty : Option (List ℕ) → Option (List ℕ)
unless_empty None = None
unless_empty (Some []) = None
unless_empty (Some (b ∷ bytes)) = Some (b ∷ bytes)

abbrev pub host_in_text : Option (List ℕ) → Option (List ℕ)
host_in_text None = None
host_in_text (Some line) = unless_empty (after_prefix (codes "host: ") line)

-- the host that a line names after `host: `, if the line is UTF-8 and the host is not empty
abbrev pub host_in : List ℕ → Option (List ℕ)
host_in line = host_in_text (text_of line)

abbrev pub or_else : Option (List ℕ) → List ℕ → List ℕ
or_else None other = other
or_else (Some text) other = text

abbrev pub first_host : List (List ℕ) → List ℕ
first_host [] = []
first_host (line ∷ lines) = or_else (host_in line) (first_host lines)

-- the host triple of the compiler: the host in the first line that names a host
abbrev pub triple_of : List ℕ → List ℕ
triple_of toolchain = first_host (lines_of toolchain)

abbrev pub is_debugged : Word → Bool
is_debugged word.Zero = false
is_debugged _ = true

abbrev pub is_released : List Seen → Bool
is_released line = list_any (λ (s : Seen). bytes_eq s.name (codes "release")) line

abbrev pub released_text : Result (List Seen) ProfileFault → List ℕ
released_text (Ok line) = if is_released line then codes "release" else codes "debug"
released_text (Err fault) = codes "debug"

-- `release` if the profile is `release` or inherits from `release`; `debug` for any other profile
abbrev pub profile_word : Project → List ℕ
profile_word project = released_text (checked_line project.workspace.profiles project.profile)

-- the variables for the target platform, for the host, and for the number of jobs
abbrev pub platform_pairs : List ℕ → List (List ℕ × List ℕ)
platform_pairs triple = (codes "TARGET", triple) ∷ (codes "HOST", triple) ∷ (codes "NUM_JOBS", codes "1") ∷ []

-- the variables for the settings that the run's package has in the role of the run's side
abbrev pub settings_pairs : List Setting → List ℕ → List (List ℕ × List ℕ)
settings_pairs s profile = (codes "OPT_LEVEL", spelled (opt_level s)) ∷ (codes "DEBUG", truth_text (is_debugged (debug s))) ∷ (codes "PROFILE", profile) ∷ []

-- the arguments as one text, with byte 0x1f between them
abbrev pub encoded : List (List ℕ) → List ℕ
encoded flags = join_by (λ flag. flag) (31 ∷ []) flags

-- the variables for the compiler and its flags
abbrev pub compiler_pairs : Setup → List (List ℕ × List ℕ)
compiler_pairs setup = (codes "RUSTC", setup.rustc) ∷ (codes "CARGO_ENCODED_RUSTFLAGS", encoded setup.flags) ∷ []

-- the variables for the run's output folder, and for how the run's package is compiled
abbrev pub building_pairs : Setup → Project → Planned → List (List ℕ × List ℕ)
building_pairs setup project unit =
    (codes "OUT_DIR", unit.out) ∷ platform_pairs (triple_of setup.toolchain) ++ settings_pairs unit.settings (profile_word project) ++ compiler_pairs setup

abbrev pub linked_pairs : Option (List ℕ) → List Directive → List (List ℕ × List ℕ)
linked_pairs None said = []
linked_pairs (Some links) said = dep_pairs links said

abbrev pub links_in : Option Package → Option (List ℕ)
links_in None = None
links_in (Some p) = p.links

abbrev pub passed_by : Project → Option Planned → List Directive → List (List ℕ × List ℕ)
passed_by project None said = []
passed_by project (Some unit) said = if is_run unit.unit.what then linked_pairs (links_in (package_of project unit)) said else []

-- the variables for the metadata that the run at an index passes on
unfoldable pub passed_at : Project → List (Option (List Directive)) → ℕ → List (List ℕ × List ℕ)
passed_at project done index = passed_by project (unit_at project index) (said_at done index)

-- the variables for the metadata of each run that the unit needs, in plan order
abbrev pub passed_pairs : Project → Planned → List (Option (List Directive)) → List (List ℕ × List ℕ)
passed_pairs project unit done = flat_map (passed_at project done) unit.needs

abbrev pub run_pairs : Setup → Project → Planned → List (Option (List Directive)) → Package → List (List ℕ × List ℕ)
run_pairs setup project unit done p = described_pairs project unit p ++ building_pairs setup project unit ++ passed_pairs project unit done

-- By the kind of unit.

abbrev pub own_pairs : Setup → Project → Planned → List (Option (List Directive)) → Package → What → List (List ℕ × List ℕ)
own_pairs setup project unit done p Lib = crate_pairs project unit ++ own_run_pairs project unit done
own_pairs setup project unit done p (Bin name) = crate_pairs project unit ++ binary_pairs name ++ own_run_pairs project unit done
own_pairs setup project unit done p Script = crate_pairs project unit
own_pairs setup project unit done p Run = run_pairs setup project unit done p

-- all variables that a command sets; a later variable replaces an earlier variable of the same name
abbrev pub composed : Setup → Project → Planned → List (Option (List Directive)) → Package → List (List ℕ × List ℕ)
composed setup project unit done p = package_pairs setup p ++ about_pairs p.about ++ version_pairs p.version ++ own_pairs setup project unit done p unit.unit.what

-- the variables that the command sets, sorted by name, each name once; the child also inherits
-- variables
abbrev pub pairs_of : Setup → Project → Planned → List (Option (List Directive)) → Package → List (List ℕ × List ℕ)
pairs_of setup project unit done p = in_order (composed setup project unit done p)
