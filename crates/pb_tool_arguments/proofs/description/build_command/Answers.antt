use Rattle.std.proofs.Common.{◌≡◌, ◌∙◌, ap, ap₂, codes, refl, List, [], ◌∷◌}
use Rattle.std.proofs.lemmas.Result.{IfOk-weaker}
use Rattle.std.specs.Option.{option_map_or}
use Rattle.clap.specs.Simple.{App, app_of, app_of_fields, new_app}
use Rattle.clap.specs.Walk.{Rule}
use Rattle.clap.specs.declared.builder.value_parser.ValueParser.{ValueParser}
use Rattle.clap.specs.declared.builder.value_parser.ValueParser.TheVariants.{String}
use Rattle.pb_tool_arguments.specs.Description.{AreChoices, Choices, IsOneOf, at_one_time, build, choosing, paths, telling, with_rules}
use Rattle.pb_tool_arguments.proofs.Adding.{added}
use Rattle.pb_tool_arguments.proofs.description.build_command.Goals as goal

-- what a value may be by the first rule that says so
abbrev parser_of : List Rule → ValueParser
parser_of [] = String
parser_of (rule ∷ rules) = option_map_or (λ parser. parser) rule.parser (parser_of rules)

-- a build before its last options
abbrev before : ValueParser → App
before colors = with_rules paths (with_rules (telling colors) (with_rules at_one_time (choosing (new_app (codes "build")))))

-- a command with the last rules of a build, after those for what it shows
described : (command start : App) (shown shows rules all : List Rule) → shown ≡ shows → rules ≡ all
    → IsOneOf (codes "auto" ∷ codes "always" ∷ codes "never" ∷ []) (parser_of shows) → IsOneOf (codes "json" ∷ []) (parser_of all)
    → with_rules all (before (parser_of shows)) ≡ build record { formats = parser_of all; colors = parser_of shows }
    → command ≡ with_rules rules start → start ≡ before (parser_of shows) → (choices : Choices) × AreChoices choices × (command ≡ build choices)
described command start shown shows rules all so same colors json whole is started =
    (record { formats = parser_of all; colors = parser_of shows }, record { formats = json; colors = colors }, is ∙ ap₂ with_rules same started ∙ whole)

pub returns : goal.returns
returns c =
    let start_is : app_of c.after_help-command.result ≡ new_app (codes "build") = ap app_of_fields c.after_help-command.ensures ∙ ap app_of_fields c.about.ensures ∙ c.new.ensures.app in
    let chosen : app_of c.in_ok-command.command ≡ choosing (new_app (codes "build")) = c.in_ok-command.ensures ∙ ap choosing start_is in
    let telling = c.in_ok-command-2.ensures in
    let told = added (app_of c.in_ok-command-2.command) (app_of c.in_ok-command.command) (choosing (new_app (codes "build"))) telling.0 _ telling.1 telling.2 chosen in
    let paths = c.in_ok-command-3.ensures in
    let placed = added (app_of c.in_ok-command-3.command) (app_of c.in_ok-command-2.command) _ paths.0 _ paths.1 paths.2 told in
    IfOk-weaker c.with_options-3.result _ _ (λ new it. described (app_of new) _ telling.0 _ it.0 _ telling.1 it.1 refl refl refl it.2 placed) c.with_options-3.ensures
