use Rattle.std.proofs.Common.{◌∙◌, ap}
use Rattle.pb_workspace_package.specs.Features.{with_made}
use Rattle.pb_workspace_package.proofs.features.add_all_made.Goals as goal

pub returns : goal.returns
returns c = λ written named. c.in_ok-add_made-2.ensures written named ∙ ap (λ es. with_made written es c.args.build.now) (c.in_ok-add_made.ensures written named)
