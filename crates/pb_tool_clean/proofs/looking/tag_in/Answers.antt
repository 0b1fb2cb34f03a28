use Rattle.std.proofs.Common.{◌∙◌, ap}
use Rattle.std.proofs.lemmas.Result.{IfOk-weaker}
use Rattle.pb_place_types.specs.Paths.{below}
use Rattle.pb_tool_clean.proofs.looking.tag_in.Goals as goal

pub returns : goal.returns
returns c = IfOk-weaker c.below.result _ _ (λ tag is. is ∙ ap (below c.args.folder.now) c.in_ok-name.ensures) c.below.ensures.path
