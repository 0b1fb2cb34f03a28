-- What the words of a command line request, or why they request nothing.
use Rattle.std.specs.Prelude.{◌≡◌, ◌≢◌, ◌⊎◌, ◌<◌, ◌^◌, ℕ, Bool, true, false, codes, List, [], ◌∷◌, Option, Some, None, Ok, Err, is_some, unwrap_or, option_map, not, ◌&&◌, ◌||◌, if◌then◌else◌}
use Rattle.std.specs.Str.Parse.{IsNumeral, digits_value}
use Rattle.clap.specs.Faults.{fault_of}
use Rattle.clap.specs.Kinds.{IsAmong}
use Rattle.clap.specs.Walk.{Row, Text, first_of, one_of, all_of}
use Rattle.clap.specs.Simple.{subcommand_of}
use Rattle.clap.specs.declared.error.kind.ErrorKind.{ErrorKind}
use Rattle.clap.specs.declared.error.kind.ErrorKind.TheVariants as kind
use Rattle.pb_directive.specs.Directives.{words_of}
use Rattle.pb_place_types.specs.Paths.{joined}
use Rattle.pb_place_types.specs.declared.path.PathFault.{PathFault}
use Rattle.pb_workspace_types.specs.declared.options.Options.{Options}
use Rattle.pb_tool_arguments.specs.Description.{AreChoices, Choices, program}
use Rattle.pb_tool_arguments.specs.declared.invocation.Invocation.{Invocation}
use Rattle.pb_tool_arguments.specs.declared.invocation.Invocation.TheVariants.{Session, Build, Explain, Plan, Clean, Preview}
use Rattle.pb_tool_arguments.specs.declared.invocation.PlanForm.{PlanForm}
use Rattle.pb_tool_arguments.specs.declared.invocation.PlanForm.TheVariants.{Lines, Json, Dot}
use Rattle.pb_tool_arguments.specs.declared.invocation.Shown.{Shown}
use Rattle.pb_tool_arguments.specs.declared.here.Here.{Here}
use Rattle.pb_tool_arguments.specs.declared.invocation.ArgumentsError.{ArgumentsError}
use Rattle.pb_tool_arguments.specs.declared.invocation.ArgumentsError.TheVariants.{Help, Wrong, OutOfMemory}

-- `given` is true if this option, which has no value, was given
pub record IsFlag (name : Text) (rows : List Row) (given : Bool) : Type 0 where
  pub absent : one_of name rows ≡ None → given ≡ false
  pub on : one_of name rows ≡ Some (codes "true") → given ≡ true
  pub off : one_of name rows ≡ Some (codes "false") → given ≡ false

-- the values that were given for an option, in order
abbrev pub values_of : Text → List Row → List Text
values_of name rows = unwrap_or (all_of name rows) []

-- `release` if `--release` was given, or else the given profile, or else `dev`
abbrev pub profile_of : Bool → List Row → Text
profile_of release rows = if release then codes "release" else unwrap_or (first_of (codes "profile") rows) (codes "dev")

-- both `--release` and `--profile` were given
abbrev pub HasTwoProfiles : List Row → Type 0
HasTwoProfiles rows = IsFlag (codes "release") rows true × ((profile : Text) × (first_of (codes "profile") rows ≡ Some profile))

-- the profile is the one of `profile_of`, and `--release` and `--profile` were not both given
abbrev pub IsProfile : List Row → Text → Type 0
IsProfile rows profile =
    (release : Bool) × IsFlag (codes "release") rows release × (release ≡ true → first_of (codes "profile") rows ≡ None) × (profile ≡ profile_of release rows)

-- the text has only digits, `n` is its number, and the number is below 2 ^ 64
abbrev pub IsNumber : Text → ℕ → Type 0
IsNumber text n = IsNumeral 10 text × (digits_value 10 text < 2 ^ 64) × (n ≡ digits_value 10 text)

-- How many units may be in flight at a time: the given number, or the number of processors if
-- `default` was given. Without `--jobs` the number is 1.
abbrev pub IsJobs : ℕ → Option Text → ℕ → Type 0
IsJobs processors None n = n ≡ 1
IsJobs processors (Some text) n = (text ≡ codes "default") × (n ≡ processors) ⊎ IsNumber text n

-- `--jobs` was given with a value that is neither a number nor `default`
abbrev pub HasBadJobs : List Row → Type 0
HasBadJobs rows = (text : Text) × (first_of (codes "jobs") rows ≡ Some text) × (text ≢ codes "default") × ((n : ℕ) → ¬ IsNumber text n)

-- the path of a build's manifest, or `Cargo.toml` if no path was given
abbrev pub manifest_of : List Row → Text
manifest_of rows = unwrap_or (first_of (codes "manifest-path") rows) (codes "Cargo.toml")

-- the path of a session's file, or the empty text if no path was given
abbrev pub file_of : List Row → Text
file_of rows = unwrap_or (first_of (codes "FILE") rows) []

-- the name that is to be explained, or the empty text if no name was given
abbrev pub name_of : List Row → Text
name_of rows = unwrap_or (first_of (codes "NAME") rows) []

-- the build has the options that these values express
pub record IsOptions (called : Text) (here : Here) (rows : List Row) (options : Options) : Type 0 where
  pub manifest : joined here.folder (manifest_of rows) ≡ Ok options.manifest
  pub packages : options.packages ≡ values_of (codes "package") rows
  pub workspace : IsFlag (codes "workspace") rows options.workspace
  pub features : options.features ≡ values_of (codes "features") rows
  pub all_features : IsFlag (codes "all-features") rows options.all_features
  pub no_default_features : IsFlag (codes "no-default-features") rows options.no_default_features
  pub profile : IsProfile rows options.profile
  pub lib : IsFlag (codes "lib") rows options.lib
  pub bins : IsFlag (codes "bins") rows options.bins
  pub bin : options.bin ≡ values_of (codes "bin") rows
  pub target_dir : options.target_dir ≡ first_of (codes "target-dir") rows
  pub runner : options.runner ≡ words_of (unwrap_or (first_of (codes "runner") rows) [])
  pub tool : options.tool ≡ unwrap_or (first_of (codes "tool") rows) called
  pub jobs : IsJobs here.processors (first_of (codes "jobs") rows) options.jobs

-- A status line is shown if standard error is a terminal or `--progress` was given, and `--quiet`
-- was not given.
abbrev pub ShowsProgress : Here → List Row → Bool → Type 0
ShowsProgress here rows progress =
    (asked quiet : Bool) × IsFlag (codes "progress") rows asked × IsFlag (codes "quiet") rows quiet × (progress ≡ ((here.is_terminal || asked) && not quiet))

-- the counts are shown at the end if standard error is a terminal and `--quiet` was not given
abbrev pub ShowsCounts : Here → List Row → Bool → Type 0
ShowsCounts here rows counts = (quiet : Bool) × IsFlag (codes "quiet") rows quiet × (counts ≡ (here.is_terminal && not quiet))

-- `colors` is true if levels have colours. Levels always have colours if the option's value is
-- `always`, and never if the value is `never`. With any other value, or without the option, levels
-- have colours if `shows` is true.
abbrev pub IsColored : Bool → Option Text → Bool → Type 0
IsColored shows None colors = colors ≡ shows
IsColored shows (Some text) colors =
    (text ≡ codes "always" → colors ≡ true) × (text ≡ codes "never" → colors ≡ false)
    × (text ≢ codes "always" → text ≢ codes "never" → colors ≡ shows)

-- these values say what is shown of a build besides the build's message lines
pub record IsShown (here : Here) (rows : List Row) (shown : Shown) : Type 0 where
  pub explain : IsFlag (codes "explain") rows shown.explain
  pub render : IsFlag (codes "render") rows shown.render
  pub verbose : IsFlag (codes "verbose") rows shown.verbose
  pub progress : ShowsProgress here rows shown.progress
  pub counts : ShowsCounts here rows shown.counts
  pub colors : IsColored here.shows_colors (first_of (codes "color") rows) shown.colors

-- the form in which a plan is printed: JSON if `--json` was given, Graphviz if `--dot` was given,
-- and otherwise lines
abbrev pub IsForm : List Row → PlanForm → Type 0
IsForm rows Lines = IsFlag (codes "json") rows false × IsFlag (codes "dot") rows false
IsForm rows Json = IsFlag (codes "json") rows true × IsFlag (codes "dot") rows false
IsForm rows Dot = IsFlag (codes "json") rows false × IsFlag (codes "dot") rows true

-- both forms of a plan were given
abbrev pub HasTwoForms : List Row → Type 0
HasTwoForms rows = IsFlag (codes "json") rows true × IsFlag (codes "dot") rows true

-- `named` is true if a profile was given, by `--release` or by `--profile`
abbrev pub NamesProfile : List Row → Bool → Type 0
NamesProfile rows named = (release : Bool) × IsFlag (codes "release") rows release × (named ≡ (release || is_some (first_of (codes "profile") rows)))

-- the given subcommand, with its values, requests this invocation
abbrev pub AsksBy : Text → Here → Option (Text × List Row) → Invocation → Type 0
AsksBy tool here given (Build options shown) = (rows : List Row) × (given ≡ Some (codes "build", rows)) × IsFlag (codes "dry-run") rows false × IsOptions tool here rows options × IsShown here rows shown
AsksBy tool here given (Preview options) = (rows : List Row) × (given ≡ Some (codes "build", rows)) × IsFlag (codes "dry-run") rows true × IsOptions tool here rows options
AsksBy tool here given (Session path) = (rows : List Row) × (given ≡ Some (codes "session", rows)) × (joined here.folder (file_of rows) ≡ Ok path)
AsksBy tool here given (Plan options form) = (rows : List Row) × (given ≡ Some (codes "plan", rows)) × IsOptions tool here rows options × IsForm rows form
AsksBy tool here given (Clean options one_profile) = (rows : List Row) × (given ≡ Some (codes "clean", rows)) × IsOptions tool here rows options × NamesProfile rows one_profile
AsksBy tool here given (Explain name) = (rows : List Row) × (given ≡ Some (codes "explain", rows)) × (name ≡ name_of rows)

-- the first word of a command line; this word says how the program was called
abbrev pub tool_of : List Text → Text
tool_of [] = []
tool_of (word ∷ words) = word

-- The description of the command line accepts the words. `clap` finds no fault with the words, and
-- the words do not request help.
abbrev pub IsTaken : Choices → List Text → Type 0
IsTaken choices words = fault_of (program choices) words ≡ []

-- the words request this, according to the description of the command line
abbrev pub Requests : List Text → Here → Invocation → Type 0
Requests words here asked = (choices : Choices) × AreChoices choices × IsTaken choices words × AsksBy (tool_of words) here (subcommand_of (program choices) words) asked

-- Why words request nothing.

-- The texts that are reported for wrong words. These texts are about byte 0 in a path, two
-- profiles, wrong jobs, two forms of a plan, and an unknown command.
abbrev pub path_told : Text
path_told = codes "error: a path contains byte 0\n"

abbrev pub profiles_told : Text
profiles_told = codes "error: the argument '--release' cannot be used with '--profile <NAME>'\n"

abbrev pub jobs_told : Text
jobs_told = codes "error: the value of '--jobs <N>' must be `default` or a number of at most 18446744073709551615\n"

abbrev pub forms_told : Text
forms_told = codes "error: the argument '--json' cannot be used with '--dot'\n"

abbrev pub command_told : Text
command_told = codes "error: the command must be `build`, `plan`, `clean`, `session` or `explain`\n"

-- Why a build with these values requests nothing, and the text that is reported. The reasons are
-- checked in this order: byte 0 in the manifest's path, two profiles, a wrong value of `--jobs`.
pub data BuildsWrongly (folder : Text) (rows : List Row) (text : Text) : Type 0 where
  bad_manifest : (fault : PathFault) (bad : joined folder (manifest_of rows) ≡ Err fault) (told : text ≡ path_told) → BuildsWrongly folder rows text
  two_profiles : (path : Text) (good : joined folder (manifest_of rows) ≡ Ok path) (both : HasTwoProfiles rows) (told : text ≡ profiles_told) → BuildsWrongly folder rows text
  bad_jobs : (path profile : Text) (good : joined folder (manifest_of rows) ≡ Ok path) (one : IsProfile rows profile) (bad : HasBadJobs rows) (told : text ≡ jobs_told) → BuildsWrongly folder rows text

-- Why a plan with these values requests nothing, and the text that is reported. First both forms of
-- a plan may be given. Then a value may be one with which a build would request nothing.
pub data PlansWrongly (folder : Text) (rows : List Row) (text : Text) : Type 0 where
  two_forms : (both : HasTwoForms rows) (told : text ≡ forms_told) → PlansWrongly folder rows text
  bad_options : (form : PlanForm) (one : IsForm rows form) (wrong : BuildsWrongly folder rows text) → PlansWrongly folder rows text

-- Why a subcommand with these values requests nothing, and the text that is reported. The values of
-- a build, plan or removal may be wrong. A session's path may have byte 0. Or the subcommand is not
-- one of the five.
pub data AsksWrongly (folder : Text) (given : Option (Text × List Row)) (text : Text) : Type 0 where
  bad_build : (rows : List Row) (build : given ≡ Some (codes "build", rows)) (wrong : BuildsWrongly folder rows text) → AsksWrongly folder given text
  bad_plan : (rows : List Row) (plan : given ≡ Some (codes "plan", rows)) (wrong : PlansWrongly folder rows text) → AsksWrongly folder given text
  bad_clean : (rows : List Row) (clean : given ≡ Some (codes "clean", rows)) (wrong : BuildsWrongly folder rows text) → AsksWrongly folder given text
  bad_file : (rows : List Row) (fault : PathFault) (session : given ≡ Some (codes "session", rows)) (bad : joined folder (file_of rows) ≡ Err fault) (told : text ≡ path_told) → AsksWrongly folder given text
  no_command : (no_build : option_map (λ p. p.0) given ≢ Some (codes "build")) (no_plan : option_map (λ p. p.0) given ≢ Some (codes "plan")) (no_clean : option_map (λ p. p.0) given ≢ Some (codes "clean"))
      (no_session : option_map (λ p. p.0) given ≢ Some (codes "session")) (no_explain : option_map (λ p. p.0) given ≢ Some (codes "explain")) (told : text ≡ command_told) → AsksWrongly folder given text

-- an error of this kind reports no wrong words: help or the version is requested, or there are no
-- words
abbrev pub is_help : ErrorKind → Bool
is_help kind.DisplayHelp = true
is_help kind.DisplayVersion = true
is_help kind.DisplayHelpOnMissingArgumentOrSubcommand = true
is_help _ = false

-- the words request help or the version, or there are no words
abbrev pub AsksForHelp : Choices → List Text → Type 0
AsksForHelp choices words = (found : ErrorKind) × (is_help found ≡ true) × IsAmong found (fault_of (program choices) words)

-- `clap` finds a fault with the words
abbrev pub ClapRefuses : Choices → List Text → Type 0
ClapRefuses choices words = (found : ErrorKind) × (is_help found ≡ false) × IsAmong found (fault_of (program choices) words)

-- Why the words request nothing, and the text that is reported. We promise nothing about the texts
-- of `clap`. Wrong values are reported only for words that `clap` accepts, so wrong values are
-- never reported if help is requested.
abbrev pub Unasks : List Text → Text → ArgumentsError → Type 0
Unasks words folder (Help text) = (choices : Choices) × AreChoices choices × AsksForHelp choices words
Unasks words folder (Wrong text) = (choices : Choices) × AreChoices choices × (ClapRefuses choices words ⊎ IsTaken choices words × AsksWrongly folder (subcommand_of (program choices) words) text)
Unasks words folder OutOfMemory = Unit {0}
