use Rattle.std.proofs.Common.{◌≡◌, ◌∙◌, ℕ, List, Option, None, ap, codes}
use Rattle.std.proofs.lemmas.Result.{IfOk-weaker}
use Rattle.serde_json.specs.View.{view}
use Rattle.pb_tool_screen.specs.Rendering.{rendered_or, text_at}
use Rattle.pb_tool_screen.proofs.rendering.diagnostic_shown.Goals as goal

pub returns-in-None : goal.returns-in-None
returns-in-None c =
    let value = view c.args.value.now in
    let none : None ≡ text_at (codes "/message/rendered") value = c.in-None.ensures in
    IfOk-weaker c.told_at.result _ _ (λ line is. is ∙ ap (λ (rendered : Option (List ℕ)). rendered_or rendered value) none) c.told_at.ensures
