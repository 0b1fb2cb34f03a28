use Rattle.std.proofs.Common.{◌∙◌, ap, not, filter}
use Rattle.pb_data.specs.OrderedSet.{is_mentioned}
use Rattle.pb_command_reply.proofs.Naming.{but_mentioned}
use Rattle.pb_command_reply.proofs.input_names.variables_not_set.Goals as goal

pub returns : goal.returns
returns c = c.in_ok-left.ensures ∙ ap (λ others. filter (λ name. not (is_mentioned others name)) c.args.names.now) c.in_ok-others.ensures ∙ but_mentioned _ c.args.names.now
