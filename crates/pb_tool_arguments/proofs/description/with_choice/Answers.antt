use Rattle.std.proofs.Common.{refl}
use Rattle.std.proofs.lemmas.Result.{IfOk-weaker}
use Rattle.clap.specs.Simple.{app_of}
use Rattle.pb_tool_arguments.proofs.Adding.{added}
use Rattle.pb_tool_arguments.proofs.description.with_choice.Goals as goal

pub returns : goal.returns
returns c =
    let first = c.in_ok-command.ensures in
    let selected = added (app_of c.in_ok-command.command) (app_of c.args.command) (app_of c.args.command) first.0 _ first.1 first.2 refl in
    IfOk-weaker c.with_options-2.result _ _ (λ new it. added (app_of new) (app_of c.in_ok-command.command) _ it.0 _ it.1 it.2 selected) c.with_options-2.ensures
