use Rattle.std.proofs.Common.{◌≡◌, ◌∙◌, ap, ap₂, codes, true, IfOk, IsOkAnd, Result, Ok, Err}
use Rattle.std.proofs.lemmas.Result.{IfOk-weaker}
use Rattle.clap.specs.Simple.{App, app_of, app_of_fields, new_app, with_subcommand}
use Rattle.pb_tool_arguments.proofs.description.program.Goals as goal

-- what holds of the value, and what it has where there is one
both : {T E : Type 0} (r : Result T E) (P Q : T → Type 0) → IsOkAnd r P → IfOk r Q → (t : T) × P t × Q t
both (Ok t) P Q holds has = (t, holds, has)
both (Err e) P Q holds has = absurd holds

pub returns : goal.returns
returns c =
    let about_is : app_of c.about.result ≡ new_app (codes "pb_tool") = ap app_of_fields c.about.ensures ∙ c.new.ensures.app in
    let version_is = ap app_of_fields c.version.ensures ∙ ap (λ (a : App). record a { top = record a.top { has_version = true } }) about_is in
    let help_is = ap app_of_fields c.arg_required_else_help.ensures ∙ ap (λ (a : App). record a { top = record a.top { arg_required_else_help = true } }) version_is in
    let start_is = ap app_of_fields c.subcommand_required-command.ensures ∙ ap (λ (a : App). record a { top = record a.top { subcommand_required = true } }) help_is in
    let (build, adds_build, (choices, are, build_is)) = both c.build_command.result _ _ c.in_ok-command.ensures c.build_command.ensures in
    let first = adds_build (ap (λ (a : App). a.top.is_plain) build_is) ∙ ap₂ with_subcommand start_is (ap (λ (a : App). a.top) build_is) in
    let (plan, adds_plan, plan_is) = both c.plan_command.result _ _ c.in_ok-command-2.ensures c.plan_command.ensures in
    let second = adds_plan (ap (λ (a : App). a.top.is_plain) plan_is) ∙ ap₂ with_subcommand first (ap (λ (a : App). a.top) plan_is) in
    let (clean, adds_clean, clean_is) = both c.clean_command.result _ _ c.in_ok-command-3.ensures c.clean_command.ensures in
    let third = adds_clean (ap (λ (a : App). a.top.is_plain) clean_is) ∙ ap₂ with_subcommand second (ap (λ (a : App). a.top) clean_is) in
    let (session, adds_session, session_is) = both c.session_command.result _ _ c.in_ok-command-4.ensures c.session_command.ensures in
    let fourth = adds_session (ap (λ (a : App). a.top.is_plain) session_is) ∙ ap₂ with_subcommand third (ap (λ (a : App). a.top) session_is) in
    IfOk-weaker c.with_subcommand-5.result _ _ (λ new adds.
    let (explain, adds_explain, explain_is) = both c.explain_command.result _ _ adds c.explain_command.ensures in
    (choices, are, adds_explain (ap (λ (a : App). a.top.is_plain) explain_is) ∙ ap₂ with_subcommand fourth (ap (λ (a : App). a.top) explain_is))) c.with_subcommand-5.ensures
