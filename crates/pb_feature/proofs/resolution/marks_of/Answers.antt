use Rattle.std.proofs.Common.{◌∙◌, ap}
use Rattle.pb_feature.specs.Rules.{seeds_of}
use Rattle.pb_feature.proofs.Handing.{seeds_fit, rules_fit}
use Rattle.pb_feature.proofs.resolution.marks_of.Goals as goal

pub derive-requires-clause-seeds : goal.derive-requires-clause-seeds
derive-requires-clause-seeds c =
    seeds_fit c.args.selected.now.workspace c.args.selected.now.selection c.packages_of.ensures.settled c.selection-selection.ensures.within c.packages_of.result.now c.args.bases.now c.in_ok-seeds.seeds.items c.as_slice.result.now c.args.count
    c.packages_of.ensures.packages c.requires.bases c.requires.count (c.in_ok-seeds.ensures ∙ ap (λ s. seeds_of c.packages_of.result.now c.args.bases.now s) c.selection-selection.ensures.value) c.as_slice.ensures.value

pub derive-requires-clause-rules : goal.derive-requires-clause-rules
derive-requires-clause-rules c =
    rules_fit c.args.selected.now.workspace c.args.selected.now.selection c.packages_of.ensures.settled c.selection-selection.ensures.within c.packages_of.result.now c.args.bases.now c.in_ok-rules.rules.items c.as_slice-2.result.now c.args.count
    c.packages_of.ensures.packages c.requires.bases c.requires.count c.in_ok-rules.ensures c.as_slice-2.ensures.value
