use Rattle.std.proofs.Common.{◌∙◌, ap, not, nat_eq}
use Rattle.pb_feature.proofs.Finding.{has_slot}
use Rattle.pb_feature.proofs.items.has_feature_named.Goals as goal

pub returns : goal.returns
returns c = ap (λ k. not (nat_eq k 0)) c.slot.ensures ∙ has_slot c.args.features.now c.args.name.now
