use Rattle.std.proofs.Common.{Ok, map, refl, subst}
use Rattle.pb_tool_arguments.specs.Asking.{Requests}
use Rattle.pb_tool_arguments.specs.declared.invocation.Invocation.{Invocation}
use Rattle.pb_tool_arguments.specs.declared.invocation.Invocation.TheVariants.{Clean, Preview}
use Rattle.pb_tool_program.proofs.running.run.Goals as goal

pub returns-in-Ok-Clean : goal.returns-in-Ok-Clean
returns-in-Ok-Clean g c = (
  Ok (Clean c.in-Ok-Clean.options c.in-Ok-Clean.one_profile),
  subst (λ (asked : Invocation). Requests (map g.S.AsStr.text c.args.words.now) c.args.here.now asked) c.in-Ok-Clean.field-0-is c.in-Ok-Clean.ensures.asked,
  c.clean_options.ensures (g.O.Out.heard c.args.out.now),
)

pub returns-in-Ok-Preview : goal.returns-in-Ok-Preview
returns-in-Ok-Preview g c = (
  Ok (Preview c.in-Ok-Preview.options),
  subst (λ (asked : Invocation). Requests (map g.S.AsStr.text c.args.words.now) c.args.here.now asked) c.in-Ok-Preview.field-0-is c.in-Ok-Preview.ensures.asked,
  (c.preview_options.ensures (g.O.Out.heard c.args.out.now), (refl, refl)),
)
