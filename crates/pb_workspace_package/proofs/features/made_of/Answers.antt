use Rattle.std.proofs.Common.{◌≡◌, ◌∙◌, List, OnOk, Result, ap, subst}
use Rattle.std.specs.declared.alloc.AllocError.{AllocError}
use Rattle.pb_manifest_types.specs.declared.feature.Feature.{Feature}
use Rattle.pb_workspace_package.specs.Enabling.{AreEnabledNames}
use Rattle.pb_workspace_package.specs.Features.{with_made}
use Rattle.pb_workspace_package.proofs.features.made_of.Goals as goal

pub returns : goal.returns
returns c =
    c.in_ok-made.ensures.both.0
    ∙ subst (λ (r : Result (Unit {0}) AllocError). OnOk r ((written : List Feature) → AreEnabledNames c.in_ok-names.names written → c.add_all_made-added.new.made ≡ with_made written (with_made written c.new-made.result c.args.dependencies.now) c.args.build.now))
    c.in_ok-made.ensures.both.1 c.add_all_made-added.ensures c.args.written.now c.in_ok-names.ensures
    ∙ ap (λ es. with_made c.args.written.now (with_made c.args.written.now es c.args.dependencies.now) c.args.build.now) c.new-made.ensures
