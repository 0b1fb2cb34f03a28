use Rattle.std.proofs.Common.{◌≡◌, ◌∙◌, ap, subst, sym, true, IsOkAnd}
use Rattle.std.proofs.lemmas.Result.{IfOk-weaker}
use Rattle.clap.specs.Simple.{app_of, shape_of, with_subcommand}
use Rattle.clap.proofs.SimpleLemmas.{plain_fields}
use Rattle.pb_tool_arguments.proofs.description.with_subcommand.Goals as goal

pub returns : goal.returns
returns c =
    let both = c.in_ok-command.ensures.both in
    let below = c.in_ok-command.below in
    IfOk-weaker c.subcommand.result _ _ (λ new adds.
    subst (λ r. IsOkAnd r (λ below. (shape_of below).is_plain ≡ true → app_of new ≡ with_subcommand (app_of c.args.command) (shape_of below))) (sym both.1)
    (λ plain. adds.shape (plain_fields below plain).globals ∙ ap (λ command. with_subcommand (app_of command) (shape_of below)) both.0)) c.subcommand.ensures
