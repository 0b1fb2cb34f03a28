use Rattle.std.proofs.Common.{subst}
use Rattle.pb_tool_program.specs.Building.{TellsStarted}
use Rattle.pb_tool_program.proofs.explaining.tell_started.Goals as goal

pub returns : goal.returns
returns g c =
    let noted = c.args.noted.now in
    let old = (g.E.Out.heard c.args.err.now) in
    let new = (g.E.Out.heard c.tell_reasons.new.err) in
    subst (λ keys. TellsStarted c.args.units keys noted.differences noted.details noted.kept old new) c.as_slice-keys.ensures
    (subst (λ differences. TellsStarted c.args.units c.as_slice-keys.result.now differences noted.details noted.kept old new) c.as_slice-differences.ensures
    (subst (λ details. TellsStarted c.args.units c.as_slice-keys.result.now c.as_slice-differences.result.now details noted.kept old new) c.as_slice-details.ensures c.tell_reasons.ensures))
