use Rattle.std.proofs.Common.{◌∙◌, ap}
use Rattle.std.specs.List.{flat_map}
use Rattle.pb_data.specs.OrderedSet.{mentioned_all}
use Rattle.pb_workspace_package.specs.Enabling.{named_in}
use Rattle.pb_workspace_package.proofs.EnabledNames.{enabled_names}
use Rattle.pb_workspace_package.proofs.features.enabled_names.Goals as goal

pub returns : goal.returns
returns c = enabled_names _ c.args.features.now (c.in_ok-mention_features.ensures ∙ ap (λ seen. mentioned_all seen (flat_map named_in c.args.features.now)) c.new-names.ensures)
