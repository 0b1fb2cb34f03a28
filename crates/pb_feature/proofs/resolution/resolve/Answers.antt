use Rattle.std.proofs.Common.{refl, rules}
use Rattle.pb_feature.proofs.Answering.{item_error, asked_error, missing_error, nothing_refused}
use Rattle.pb_feature.proofs.resolution.resolve.Goals as goal

pub returns-in_err-check_items-clause-refused : goal.returns-in_err-check_items-clause-refused
returns-in_err-check_items-clause-refused c =
    let h = item_error c.args.selected.now.workspace c.args.selected.now.selection _ c.packages_of-packages.result.now c.packages_of-packages.result.now c.packages_of-packages.ensures.packages c.packages_of-packages.ensures.packages refl c.in_err-check_items.field-0.0 c.in_err-check_items.ensures.err in
    search (rules, h)

pub returns-in_err-check_asked-clause-refused : goal.returns-in_err-check_asked-clause-refused
returns-in_err-check_asked-clause-refused c =
    let h = asked_error c.args.selected.now.workspace c.args.selected.now.selection c.selection.result.now c.packages_of-packages.result.now c.packages_of-packages.result.now c.packages_of-packages.ensures.packages c.packages_of-packages.ensures.packages c.selection.ensures.value c.in_ok-check_items.ensures.ok c.in_err-check_asked.field-0.0 c.in_err-check_asked.ensures.err in
    search (rules, h)

pub returns-in_err-features-clause-refused : goal.returns-in_err-features-clause-refused
returns-in_err-features-clause-refused c =
    let h = missing_error c.args.selected.now.workspace c.args.selected.now.selection c.selection.result.now c.packages_of-packages.result.now c.packages_of-packages.result.now c.packages_of-packages.ensures.packages c.packages_of-packages.ensures.packages c.selection.ensures.value c.in_ok-check_items.ensures.ok c.in_ok-check_asked.ensures.ok c.in_err-features.field-0.0 c.in_err-features.ensures.missing in
    search (rules, h)

pub returns-clause-right : goal.returns-clause-right
returns-clause-right c =
    nothing_refused c.args.selected.now.workspace c.args.selected.now.selection c.selection.result.now c.packages_of-packages.result.now c.packages_of-packages.result.now c.packages_of-packages.ensures.packages c.packages_of-packages.ensures.packages c.selection.ensures.value c.in_ok-check_items.ensures.ok c.in_ok-check_asked.ensures.ok c.in_ok-features.ensures.complete
