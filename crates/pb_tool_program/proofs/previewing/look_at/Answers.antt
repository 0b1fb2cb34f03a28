use Rattle.std.proofs.Common.{List, Ok, Err, Result, refl, subst, sym}
use Rattle.pb_build_result.specs.declared.fault.BuildFault.{BuildFault}
use Rattle.pb_tool_preview.specs.declared.fate.Fate.{Fate}
use Rattle.pb_tool_program.specs.Previewing.{TellsBy, TellsFates}
use Rattle.pb_tool_program.proofs.previewing.look_at.Goals as goal

pub returns-in-Ok : goal.returns-in-Ok
returns-in-Ok g c heard =
    let units = c.args.prepared.now.project.plan.planned in
    let before = (g.E.Out.heard c.args.err.now) in
    let after = (g.E.Out.heard c.tell_fates.new.err) in
    let told = subst (λ us. TellsFates us c.in-Ok.fates before after) c.units.ensures (subst (λ fs. TellsFates c.units.result.now fs before after) c.as_slice.ensures c.tell_fates.ensures) in
    record {
      fates = c.foresee.result;
      are = c.foresee.ensures.fates;
      world = c.foresee.ensures.quiet.world;
      starts = c.foresee.ensures.quiet.starts;
      most = c.foresee.ensures.quiet.most;
      heard = refl;
      cause = c.foresee.ensures.quiet.cause;
      at = c.foresee.ensures.fault;
      told = subst (λ (fates : Result (List Fate) BuildFault). TellsBy units fates (Ok tt) before after) (sym c.in-Ok.is) (refl, told);
    }

pub returns-in-Err : goal.returns-in-Err
returns-in-Err g c heard =
    let units = c.args.prepared.now.project.plan.planned in
    let before = (g.E.Out.heard c.args.err.now) in
    record {
      fates = c.foresee.result;
      are = c.foresee.ensures.fates;
      world = c.foresee.ensures.quiet.world;
      starts = c.foresee.ensures.quiet.starts;
      most = c.foresee.ensures.quiet.most;
      heard = refl;
      cause = c.foresee.ensures.quiet.cause;
      at = c.foresee.ensures.fault;
      told = subst (λ (fates : Result (List Fate) BuildFault). TellsBy units fates (Err c.in-Err.fault) before before) (sym c.in-Err.is) (refl, refl);
    }
