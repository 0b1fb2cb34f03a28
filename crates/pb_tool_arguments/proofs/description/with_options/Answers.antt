use Rattle.std.proofs.Common.{◌≡◌, ◌∙◌, ◌+◌, ◌<◌, ◌≤◌, ℕ, List, length, get_or, drop, map, ap, refl, sym}
use Rattle.std.proofs.lemmas.List.{drop_all, drop_more}
use Rattle.clap.specs.Simple.{App, app_of, with_rule}
use Rattle.clap.specs.Walk.{Rule, rule_of}
use Rattle.pb_tool_arguments.specs.Description.{with_rules}
use Rattle.pb_tool_arguments.specs.declared.options.Described.{Described}
use Rattle.pb_tool_arguments.proofs.description.with_options.Invariants.{rule_for}
use Rattle.pb_tool_arguments.proofs.description.with_options.Goals as goal

-- one option is added, and those behind it are left
one_more : (options : List Described) (i : ℕ) (d : Described) (old new : App) (rule : Rule) → i < length options → new ≡ with_rule old rule → rule ≡ rule_for (get_or options i d)
    → with_rules (map rule_for (drop (i + 1) options)) new ≡ with_rules (map rule_for (drop i options)) old
one_more options i d old new rule below is same =
    ap (with_rules (map rule_for (drop (i + 1) options))) (is ∙ ap (with_rule old) same) ∙ sym (ap (λ left. with_rules (map rule_for left) old) (drop_more options i d below))

-- none is left
no_more : (options : List Described) (i : ℕ) (app : App) → length options ≤ i → app ≡ with_rules (map rule_for (drop i options)) app
no_more options i app end = sym (ap (λ left. with_rules (map rule_for left) app) (drop_all i options end))

pub loop-option-preserved : goal.loop-option-preserved
loop-option-preserved c =
    one_more c.args.options.now c.loop-option.option-index _ (app_of c.loop-option.command) (app_of c.in_ok-command.command) (rule_of c.arg_of.result) c.loop-option-test.true
    (c.in_ok-command.ensures.shape c.arg_of.ensures.local) c.arg_of.ensures.rule
    ∙ c.loop-option.invariant

pub returns : goal.returns
returns c = (_, refl, no_more c.args.options.now c.loop-option.option-index (app_of c.loop-option.command) c.loop-option-test.false ∙ c.loop-option.invariant)
