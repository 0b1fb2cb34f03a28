use Rattle.std.proofs.Common.{◌≡◌, Some, drop, length, map, option_map}
use Rattle.clap.specs.Simple.{app_of, new_rule}
use Rattle.clap.specs.Walk.{Rule}
use Rattle.clap.specs.declared.builder.value_parser.ValueParser.TheVariants.{Names}
use Rattle.pb_tool_arguments.specs.Description.{with_rules}
use Rattle.pb_tool_arguments.specs.declared.options.Described.{Described}
use Rattle.pb_tool_arguments.proofs.description.with_options.Given as goal

abbrev pub rule_for : Described → Rule
rule_for option =
    record (new_rule option.name.now) { long = Some option.name.now; short = option.short; action = option.action; value_names = length option.value.now; parser = option_map Names option.among }

abbrev pub invariant-loop-option : goal.invariant-loop-option
invariant-loop-option l = with_rules (map rule_for (drop l.option-index l.options)) (app_of l.command) ≡ with_rules (map rule_for l.options) (app_of l.fn.command)
