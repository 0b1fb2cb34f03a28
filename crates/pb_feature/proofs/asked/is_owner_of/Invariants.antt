use Rattle.std.proofs.Common.{◌≡◌, drop}
use Rattle.std.specs.List.{list_any}
use Rattle.pb_manifest_types.specs.declared.feature.Feature.{Feature}
use Rattle.pb_feature.specs.Rules.{is_text_of}
use Rattle.pb_feature.specs.Answered.{is_owner_of}
use Rattle.pb_feature.proofs.asked.is_owner_of.Given as goal

abbrev pub invariant-loop-feature : goal.invariant-loop-feature
invariant-loop-feature l = list_any (λ (f : Feature). is_text_of l.owner.name f.name l.text) (drop l.feature-index l.owner.features) ≡ is_owner_of l.owner l.text
