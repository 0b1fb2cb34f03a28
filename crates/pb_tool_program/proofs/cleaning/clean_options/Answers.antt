use Rattle.std.proofs.Common.{refl}
use Rattle.pb_tool_clean.specs.Calls.{moment_of}
use Rattle.pb_tool_program.proofs.cleaning.clean_options.Goals as goal

pub returns : goal.returns
returns g c heard = record {
  heard = refl;
  found = c.find-found.result;
  looked = moment_of (g.P.Place.at c.find-found.new.place);
  finds = c.find-found.ensures;
  held = (g.E.Out.heard c.hold_found.new.err);
  guards = c.hold_found.ensures;
  answer = c.clean_found-answer.result;
  cleans = c.clean_found-answer.ensures;
  tells = c.tell_end.ensures;
}
