use Rattle.std.proofs.Common.{◌∙◌, sym, ap}
use Rattle.std.proofs.Common.{Some}
use Rattle.pb_feature.proofs.Finding.{named_added}
use Rattle.pb_feature.proofs.rules_of_items.add_named.Goals as goal

pub returns : goal.returns
returns c =
    named_added c.args.ground.now.packages.now c.args.ground.now.bases.now c.args.pkg c.args.owner.now.features c.args.feature c.args.item.now c.as_bytes-name.result.now c.args.owner.now.entries c.args.rules.now.items _ _ c.index_of-normal.result c.index_of-build.result
    (c.requires ∙ ap (λ name. Some name) (sym c.as_bytes-name.ensures)) c.index_of-normal.ensures.order
    c.index_of-normal.ensures.index c.in_ok-add_found.ensures c.index_of-build.ensures.index c.in_ok-add_found-2.ensures
