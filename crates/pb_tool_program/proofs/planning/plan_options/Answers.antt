use Rattle.std.proofs.Common.{Result, refl, subst, sym}
use Rattle.pb_build_result.specs.declared.fault.BuildFault.{BuildFault}
use Rattle.pb_build_turns.specs.Executor.{BuildState, moment}
use Rattle.pb_tool_program.specs.Planning.{EndsPlan}
use Rattle.pb_tool_program.proofs.planning.plan_options.Goals as goal

pub returns-in-Ok : goal.returns-in-Ok
returns-in-Ok g c =
    let printed = moment (g.P.Place.at c.print_plan.new.place) (g.O.Out.heard c.print_plan.new.out) in
    let said = (g.E.Out.heard c.args.err.now) in
    record {
      answer = c.print_plan.result;
      printed = printed;
      prints = c.print_plan.ensures;
      ends = subst (λ (answer : Result (Unit {0}) BuildFault). EndsPlan answer 0 printed printed said said) (sym c.in-Ok.is) (refl, refl, refl);
    }

pub returns-in-Err : goal.returns-in-Err
returns-in-Err g c =
    let printed = moment (g.P.Place.at c.print_plan.new.place) (g.O.Out.heard c.print_plan.new.out) in
    let new = moment (g.P.Place.at c.fail.new.place) (g.O.Out.heard c.print_plan.new.out) in
    record {
      answer = c.print_plan.result;
      printed = printed;
      prints = c.print_plan.ensures;
      ends = subst (λ (answer : Result (Unit {0}) BuildFault). EndsPlan answer c.fail.result printed new (g.E.Out.heard c.args.err.now) (g.E.Out.heard c.fail.new.err)) (sym c.in-Err.is)
          (c.fail.ensures (g.O.Out.heard c.print_plan.new.out));
    }
