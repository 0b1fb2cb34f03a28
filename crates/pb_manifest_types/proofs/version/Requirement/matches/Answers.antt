use Rattle.std.proofs.Common.{◌∙◌}
use Rattle.pb_manifest_types.specs.Versions.{matches}
use Rattle.pb_manifest_types.proofs.Matching.{decided}
use Rattle.pb_manifest_types.proofs.version.Requirement.matches.Goals as goal

pub returns : goal.returns
returns c = c.matches.ensures ∙ decided _ _ _ _ c.self.invariant c.version.invariant ∙ (λ i. matches (c.self.view_is i) (c.version.view_is i))
