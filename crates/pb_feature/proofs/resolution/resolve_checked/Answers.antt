use Rattle.std.proofs.Common.{◌∙◌, ap, rules}
use Rattle.pb_feature.specs.Numbers.{bases_from}
use Rattle.pb_feature.proofs.Handing.{missing_error, exactly_passed, complete_passed}
use Rattle.pb_feature.proofs.resolution.resolve_checked.Goals as goal

pub returns-in_err-check_missing-clause-missing : goal.returns-in_err-check_missing-clause-missing
returns-in_err-check_missing-clause-missing c =
    let h = missing_error c.args.selected.now.workspace c.args.selected.now.selection c.packages_of-packages.ensures.settled c.in_ok-marks.ensures.within c.packages_of-packages.result.now c.as_slice-bases.result.now c.in_ok-marks.marks.items c.as_slice.result.now c.in_err-check_missing.field-0.0
    c.packages_of-packages.ensures.packages (c.as_slice-bases.ensures.value ∙ c.in_ok-made.ensures.bases ∙ ap (bases_from 0) c.packages_of-packages.ensures.packages) c.in_ok-marks.ensures.least c.as_slice.ensures.value c.in_err-check_missing.ensures.err in
    search (rules, h)

pub returns-clause-exactly : goal.returns-clause-exactly
returns-clause-exactly c =
    exactly_passed c.args.selected.now.workspace c.args.selected.now.selection c.packages_of-packages.ensures.settled c.in_ok-marks.ensures.within c.packages_of-packages.result.now c.as_slice-bases.result.now c.in_ok-marks.marks.items c.as_slice.result.now c.as_slice-2.result.now c.in_ok-features.features
    c.packages_of-packages.ensures.packages (c.as_slice-bases.ensures.value ∙ c.in_ok-made.ensures.bases ∙ ap (bases_from 0) c.packages_of-packages.ensures.packages) c.in_ok-marks.ensures.least c.as_slice.ensures.value c.as_slice-2.ensures.value c.in_ok-check_missing.ensures.ok c.in_ok-features.ensures

pub returns-clause-complete : goal.returns-clause-complete
returns-clause-complete c =
    complete_passed c.args.selected.now.workspace c.args.selected.now.selection c.packages_of-packages.ensures.settled c.in_ok-marks.ensures.within c.packages_of-packages.result.now c.as_slice-bases.result.now c.in_ok-marks.marks.items c.as_slice.result.now c.as_slice-2.result.now c.in_ok-features.features
    c.packages_of-packages.ensures.packages (c.as_slice-bases.ensures.value ∙ c.in_ok-made.ensures.bases ∙ ap (bases_from 0) c.packages_of-packages.ensures.packages) c.in_ok-marks.ensures.least c.as_slice.ensures.value c.as_slice-2.ensures.value c.in_ok-check_missing.ensures.ok c.in_ok-features.ensures
