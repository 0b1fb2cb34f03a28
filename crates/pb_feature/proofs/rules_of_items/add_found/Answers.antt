use Rattle.std.proofs.Common.{◌++◌, append-nil, sym, ◌∙◌, ap}
use Rattle.pb_feature.specs.Rules.{both_item_rules}
use Rattle.pb_feature.proofs.Finding.{found_past}
use Rattle.pb_feature.proofs.rules_of_items.add_found.Goals as goal

pub returns-in-None : goal.returns-in-None
returns-in-None c =
    sym (ap (λ given. c.args.rules.now.items ++ given)
    (found_past (both_item_rules c.args.ground.now.packages.now c.args.ground.now.bases.now c.args.pkg c.args.owner.now.features c.args.feature c.args.item.now) _ c.args.owner.now.entries c.as_slice.result.now
    c.args.index c.in-Some.index c.as_slice.ensures c.in-Some.is c.in-None.ensures.lookup.0) ∙ append-nil c.args.rules.now.items)
