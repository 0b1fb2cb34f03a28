use Rattle.std.proofs.Common.{length, subst}
use Rattle.pb_tool_program.specs.Building.{TellsStarted}
use Rattle.pb_tool_program.proofs.explaining.tell_summary.Goals as goal

pub returns : goal.returns
returns g c =
    let summary = c.args.summary.now in
    let details = c.as_slice-details.result.now in
    let old = (g.E.Out.heard c.args.err.now) in
    let new = (g.E.Out.heard c.tell_reasons.new.err) in (
      details,
      subst (λ keys. TellsStarted c.args.units keys summary.differences details (length summary.kept) old new) c.as_slice-keys.ensures
          (subst (λ differences. TellsStarted c.args.units c.as_slice-keys.result.now differences details (length summary.kept) old new) c.as_slice-differences.ensures
          (subst (λ kept. TellsStarted c.args.units c.as_slice-keys.result.now c.as_slice-differences.result.now details kept old new) c.len-kept.ensures c.tell_reasons.ensures)),
    )
