use Rattle.std.proofs.Common.{Err, Result, refl, subst, sym}
use Rattle.pb_build.specs.declared.builder.Prepared.{Prepared}
use Rattle.pb_build_result.specs.declared.fault.BuildFault.{BuildFault}
use Rattle.pb_build_turns.specs.Executor.{moment}
use Rattle.pb_tool_program.specs.Previewing.{ForetellsIf}
use Rattle.pb_tool_program.proofs.previewing.look_ahead.Goals as goal

pub returns-in-Ok : goal.returns-in-Ok
returns-in-Ok g c heard =
    let readied = moment (g.P.Place.at c.prepare.new.place) heard in
    let new = moment (g.P.Place.at c.look_at-answer.new.place) heard in
    record {
      prepared = c.prepare.result;
      readied = readied;
      readies = c.prepare.ensures.readies heard;
      foretells = subst (λ (prepared : Result Prepared BuildFault). ForetellsIf g.P.Place.is_modelled prepared c.look_at-answer.result readied new (g.E.Out.heard c.args.err.now) (g.E.Out.heard c.look_at-answer.new.err)) (sym c.in-Ok.is) (c.look_at-answer.ensures heard);
    }

pub returns-in-Err : goal.returns-in-Err
returns-in-Err g c heard =
    let readied = moment (g.P.Place.at c.prepare.new.place) heard in
    let said = (g.E.Out.heard c.args.err.now) in
    record {
      prepared = c.prepare.result;
      readied = readied;
      readies = c.prepare.ensures.readies heard;
      foretells = subst (λ (prepared : Result Prepared BuildFault). ForetellsIf g.P.Place.is_modelled prepared (Err c.in-Err.fault) readied readied said said) (sym c.in-Err.is) (refl, refl, refl);
    }
