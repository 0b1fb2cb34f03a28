-- How the options of `pb_tool` are described to `clap`.
use Rattle.std.specs.Prelude.{◌≡◌, codes, List, [], ◌∷◌, Some, map, true}
use Rattle.clap.specs.Walk.{Rule, Text}
use Rattle.clap.specs.Simple.{App, new_app, new_rule, with_rule, with_subcommand}
use Rattle.clap.specs.declared.builder.action.ArgAction.TheVariants.{SetTrue, Append}
use Rattle.clap.specs.declared.builder.value_parser.ValueParser.{ValueParser}
use Rattle.clap.specs.declared.builder.value_parser.ValueParser.TheVariants.{Names}

-- an option that has no value
abbrev pub flag : Text → Rule
flag name = record (new_rule name) { long = Some name; action = Some SetTrue }

-- an option that has a value
abbrev pub option : Text → Rule
option name = record (new_rule name) { long = Some name; value_names = 1 }

-- an option that has a value and may be given more than once
abbrev pub options : Text → Rule
options name = record (option name) { action = Some Append }

-- the options that choose which packages and targets are built
abbrev pub selection : List Rule
selection =
    record (options (codes "package")) { short = Some 112 }
    ∷ flag (codes "workspace") ∷ flag (codes "lib") ∷ flag (codes "bins") ∷ options (codes "bin") ∷ []

-- the options that choose the features, and the profile
abbrev pub features : List Rule
features =
    record (options (codes "features")) { short = Some 70 }
    ∷ flag (codes "all-features") ∷ flag (codes "no-default-features")
    ∷ record (flag (codes "release")) { short = Some 114 } ∷ option (codes "profile") ∷ []

-- the option that says how many units may be in flight at a time
abbrev pub at_one_time : List Rule
at_one_time = record (option (codes "jobs")) { short = Some 106 } ∷ []

-- the options that say what is shown besides the message lines
abbrev pub telling : ValueParser → List Rule
telling colors =
    flag (codes "explain") ∷ flag (codes "dry-run") ∷ flag (codes "render") ∷ record (flag (codes "verbose")) { short = Some 118 }
    ∷ flag (codes "progress") ∷ record (flag (codes "quiet")) { short = Some 113 }
    ∷ record (option (codes "color")) { parser = Some colors } ∷ []

-- the options for the manifest and for the target folder
abbrev pub paths : List Rule
paths = option (codes "manifest-path") ∷ option (codes "target-dir") ∷ []

-- the options for the form of messages, for the runner, and for the text of `CARGO` that children
-- see
abbrev pub children : ValueParser → List Rule
children formats = record (option (codes "message-format")) { parser = Some formats } ∷ option (codes "runner") ∷ option (codes "tool") ∷ []

-- Options of cargo that have no effect here. Nothing is downloaded, and there is no lock file.
abbrev pub without_effect : List Rule
without_effect = flag (codes "locked") ∷ flag (codes "offline") ∷ flag (codes "frozen") ∷ []

-- Which values the options for the form of messages and for colours may have.
pub record Choices : Type 0 where
  -- the forms that messages may have
  pub formats : ValueParser
  -- the values that say when colours are used
  pub colors : ValueParser

-- the option's value must be one of these texts
abbrev pub IsOneOf : List Text → ValueParser → Type 0
IsOneOf texts (Names names) = map (λ name. name.now) names.now ≡ texts
IsOneOf texts _ = ⊥

-- The only form of messages is JSON. Colours are used always, never, or automatically.
pub record AreChoices (choices : Choices) : Type 0 where
  pub formats : IsOneOf (codes "json" ∷ []) choices.formats
  pub colors : IsOneOf (codes "auto" ∷ codes "always" ∷ codes "never" ∷ []) choices.colors

-- the command that results if these rules are added to a command, one by one
abbrev pub with_rules : List Rule → App → App
with_rules [] app = app
with_rules (rule ∷ rules) app = with_rules rules (with_rule app rule)

-- the command with further options, which choose what is built, and how
abbrev pub choosing : App → App
choosing app = with_rules features (with_rules selection app)

-- the subcommand `pb_tool build`
abbrev pub build : Choices → App
build choices = with_rules without_effect (with_rules (children choices.formats) (with_rules paths (with_rules (telling choices.colors) (with_rules at_one_time (choosing (new_app (codes "build")))))))

-- the options for the form of a plan
abbrev pub forms : List Rule
forms = flag (codes "json") ∷ flag (codes "dot") ∷ []

-- the subcommand `pb_tool plan`
abbrev pub plan : App
plan = with_rules forms (with_rules paths (choosing (new_app (codes "plan"))))

-- the options that choose which packages and which profile are removed from a target folder
abbrev pub removal : List Rule
removal =
    record (options (codes "package")) { short = Some 112 }
    ∷ record (flag (codes "release")) { short = Some 114 } ∷ option (codes "profile") ∷ []

-- the subcommand `pb_tool clean`
abbrev pub clean : App
clean = with_rules paths (with_rules removal (new_app (codes "clean")))

-- the subcommand `pb_tool session FILE`
abbrev pub session : App
session = with_rule (new_app (codes "session")) record (new_rule (codes "FILE")) { required = true }

-- the subcommand `pb_tool explain NAME`
abbrev pub explain : App
explain = with_rule (new_app (codes "explain")) record (new_rule (codes "NAME")) { required = true }

-- the command with three changes: it has a version, requires a subcommand, and shows help if there
-- are no words
abbrev pub wanting : App → App
wanting app = record app { top = record app.top { has_version = true; arg_required_else_help = true; subcommand_required = true } }

-- the program, which requires one of its five subcommands
abbrev pub program : Choices → App
program choices =
    with_subcommand (with_subcommand (with_subcommand (with_subcommand (with_subcommand (wanting (new_app (codes "pb_tool"))) (build choices).top) plan.top) clean.top) session.top) explain.top
