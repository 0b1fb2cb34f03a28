use Rattle.pb_feature.specs.Rules.{both_own_rules}
use Rattle.pb_feature.proofs.Finding.{own_added}
use Rattle.pb_feature.proofs.rules_of_items.add_one_item.Goals as goal

pub returns-in-None : goal.returns-in-None
returns-in-None c = own_added c.args.ground.now.packages.now c.args.ground.now.bases.now c.args.pkg c.args.owner.now.features c.args.feature c.args.item.now c.args.owner.now.entries c.args.rules.now.items (both_own_rules c.args.ground.now.bases.now c.args.pkg c.args.owner.now.features c.args.feature c.args.item.now) _ c.in-None.ensures c.in_ok-add_own.ensures
