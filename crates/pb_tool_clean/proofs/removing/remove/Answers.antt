use Rattle.pb_tool_clean.specs.Calls.{moment_of}
use Rattle.pb_tool_clean.proofs.removing.remove.Goals as goal

pub returns : goal.returns
returns g c = record {
  first = c.remove_chosen-first.result;
  mid = moment_of (g.P.Place.at c.remove_chosen-first.new.place);
  removes = c.remove_chosen-first.ensures;
  goes_on = c.go_on.ensures;
}
