use Rattle.std.proofs.Common.{rules}
use Rattle.clap.specs.Matches.{found_of}
use Rattle.clap.specs.Walk.{rows_of}
use Rattle.pb_tool_arguments.proofs.Refused.{told_by, wrong_jobs, wrong_manifest, wrong_profile}
use Rattle.pb_tool_arguments.proofs.reading.judged_of.Goals as goal

pub returns-in_err-manifest-clause-wrong : goal.returns-in_err-manifest-clause-wrong
returns-in_err-manifest-clause-wrong c =
    let e = c.in_err-manifest.field-0.0 in
    told_by c.from_residual.result e _ (search rules)
    (wrong_manifest c.args.here.now.folder c.first_or.result.now (rows_of (found_of c.args.matches.now)) e c.first_or.ensures c.in_err-manifest.ensures.wrong)

pub returns-in_err-profile-clause-wrong : goal.returns-in_err-profile-clause-wrong
returns-in_err-profile-clause-wrong c =
    let e = c.in_err-profile.field-0.0 in
    told_by c.from_residual-in_err-profile.result e _ (search rules)
    (wrong_profile c.args.here.now.folder c.first_or.result.now c.in_ok-manifest.manifest (rows_of (found_of c.args.matches.now)) e c.first_or.ensures c.in_ok-manifest.ensures.path c.in_err-profile.ensures.wrong)

pub returns-in_err-jobs-clause-wrong : goal.returns-in_err-jobs-clause-wrong
returns-in_err-jobs-clause-wrong c =
    let e = c.in_err-jobs.field-0.0 in
    told_by c.from_residual-in_err-jobs.result e _ (search rules)
    (wrong_jobs c.args.here.now.folder c.first_or.result.now c.in_ok-manifest.manifest c.in_ok-profile.profile (rows_of (found_of c.args.matches.now)) e c.first_or.ensures c.in_ok-manifest.ensures.path c.in_ok-profile.ensures.profile
    c.in_err-jobs.ensures.wrong)
