use Rattle.std.proofs.Common.{◌≡◌, ◌∙◌, ap, codes}
use Rattle.std.proofs.lemmas.Result.{IfOk-weaker}
use Rattle.clap.specs.Simple.{app_of, app_of_fields, new_app}
use Rattle.pb_tool_arguments.specs.Description.{choosing}
use Rattle.pb_tool_arguments.proofs.Adding.{added}
use Rattle.pb_tool_arguments.proofs.description.plan_command.Goals as goal

pub returns : goal.returns
returns c =
    let start_is : app_of c.after_help-command.result ≡ new_app (codes "plan") = ap app_of_fields c.after_help-command.ensures ∙ ap app_of_fields c.about.ensures ∙ c.new.ensures.app in
    let chosen : app_of c.in_ok-command.command ≡ choosing (new_app (codes "plan")) = c.in_ok-command.ensures ∙ ap choosing start_is in
    let paths = c.in_ok-command-2.ensures in
    let placed = added (app_of c.in_ok-command-2.command) (app_of c.in_ok-command.command) (choosing (new_app (codes "plan"))) paths.0 _ paths.1 paths.2 chosen in
    IfOk-weaker c.with_options-2.result _ _ (λ new it. added (app_of new) (app_of c.in_ok-command-2.command) _ it.0 _ it.1 it.2 placed) c.with_options-2.ensures
