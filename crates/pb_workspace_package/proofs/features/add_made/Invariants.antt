use Rattle.std.proofs.Common.{◌≡◌, List, drop}
use Rattle.pb_manifest_types.specs.declared.feature.Feature.{Feature}
use Rattle.pb_workspace_package.specs.Enabling.{AreEnabledNames}
use Rattle.pb_workspace_package.specs.Features.{with_made}
use Rattle.pb_workspace_package.proofs.features.add_made.Given as goal

abbrev pub invariant-loop-entry : goal.invariant-loop-entry
invariant-loop-entry l = (written : List Feature) → AreEnabledNames l.names written → with_made written l.made (drop l.entry-index l.entries) ≡ with_made written l.fn.made l.entries
