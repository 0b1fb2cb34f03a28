use Rattle.pb_tool_program.proofs.building.conclude.Goals as goal

pub returns : goal.returns
returns g c = record {
  told = c.status_of-status.ensures;
  noted = c.args.noted.now;
  explained = (g.E.Out.heard c.explain_to.new.err);
  reasons = c.explain_to.ensures;
  repeated = (g.E.Out.heard c.repeat_to.new.err);
  said = c.repeat_to.ensures;
  detailed = (g.E.Out.heard c.tell_detail.new.err);
  detail = c.tell_detail.ensures;
  reported = (g.E.Out.heard c.tell_report.new.err);
  reports = c.tell_report.ensures;
  told_again = (g.E.Out.heard c.tell_notes.new.err);
  again = c.tell_notes.ensures;
  reason = c.tell.ensures;
}
