use Rattle.std.proofs.Common.{◌∙◌, Ok, Some, ap, sym}
use Rattle.pb_tool_program.proofs.running.run_file.Goals as goal

pub returns-in-Ok-Some : goal.returns-in-Ok-Some
returns-in-Ok-Some g c = record {
  same = λ told. c.in-Ok-Some.ensures.looks.world;
  most = c.in-Ok-Some.ensures.looks.most;
  found = Ok (Some c.as_slice.result.now);
  once = c.in-Ok-Some.ensures.looks.counts;
  is_file = λ told. ap Some c.as_slice.ensures ∙ (sym c.in-Ok-Some.field-0-is ∙ c.in-Ok-Some.ensures.ok told);
  comes = record {
    ends = c.run_session.ensures.status;
    written = c.run_session.ensures.written;
    cut = c.run_session.ensures.cut;
    quiet = λ zero. ap (λ e. (g.E.Out.heard e)) (c.run_session.ensures.quiet zero);
    untouched = λ bad. ap (λ o. (g.O.Out.heard o)) (c.run_session.ensures.untouched bad);
    told = c.run_session.ensures.told;
  };
}
