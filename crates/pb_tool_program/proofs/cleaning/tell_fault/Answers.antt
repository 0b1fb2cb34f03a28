use Rattle.std.proofs.Common.{List, ℕ, Err, None, subst, true}
use Rattle.pb_tool_program.specs.Building.{Concludes}
use Rattle.pb_tool_program.proofs.cleaning.tell_fault.Goals as goal

pub returns : goal.returns
returns g c = record {
  report = c.reports_of-report.result.now;
  reports = c.reports_of-report.ensures;
  concluded = subst (λ (notes : List (List ℕ)). Concludes None true (Err c.args.fault) c.reports_of-report.result.now notes c.conclude.result (g.E.Out.heard c.args.err.now) (g.E.Out.heard c.conclude.new.err)) c.new-notes.ensures c.conclude.ensures;
}
