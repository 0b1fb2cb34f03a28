use Rattle.std.proofs.Common.{◌≡◌, ◌∙◌, ap, codes}
use Rattle.std.proofs.lemmas.Result.{IfOk-weaker}
use Rattle.clap.specs.Simple.{app_of, app_of_fields, new_app}
use Rattle.pb_tool_arguments.proofs.Adding.{added}
use Rattle.pb_tool_arguments.proofs.description.clean_command.Goals as goal

pub returns : goal.returns
returns c =
    let start_is : app_of c.after_help-command.result ≡ new_app (codes "clean") = ap app_of_fields c.after_help-command.ensures ∙ ap app_of_fields c.about.ensures ∙ c.new.ensures.app in
    let removal = c.in_ok-command.ensures in
    let removing = added (app_of c.in_ok-command.command) (app_of c.after_help-command.result) (new_app (codes "clean")) removal.0 _ removal.1 removal.2 start_is in
    IfOk-weaker c.with_options-2.result _ _ (λ new it. added (app_of new) (app_of c.in_ok-command.command) _ it.0 _ it.1 it.2 removing) c.with_options-2.ensures
