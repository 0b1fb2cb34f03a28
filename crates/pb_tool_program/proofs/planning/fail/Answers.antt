use Rattle.pb_tool_program.proofs.planning.fail.Goals as goal

pub returns : goal.returns
returns g c heard = record {
  notes = c.look-notes.result;
  are_notes = c.texts.ensures.notes;
  looked = c.look-notes.ensures heard;
  report = c.reports_of-report.result.now;
  reports = c.reports_of-report.ensures;
  concluded = c.conclude.ensures;
}
