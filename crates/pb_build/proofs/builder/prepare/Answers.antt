use Rattle.std.proofs.Common.{◌≡◌, ◌⊎◌, ◌∙◌, ◌+◌, List, Result, Ok, Err, inl, max, length, refl, ap, sym, subst}
use Rattle.pb_build_result.specs.declared.fault.BuildFault.{BuildFault}
use Rattle.pb_place_types.specs.Counts.{up_starts}
use Rattle.pb_place_types.specs.declared.child_in_flight.ChildInFlight.{ChildInFlight}
use Rattle.pb_build_turns.specs.Executor.{BuildState, moment}
use Rattle.pb_build_turns.proofs.Counting.{cause_from}
use Rattle.pb_build.specs.AnyPlan.{Readies}
use Rattle.pb_build.specs.Planning.{IsProject}
use Rattle.pb_build.specs.declared.builder.BuildPlan.{BuildPlan}
use Rattle.pb_build.specs.declared.environment.Environment.{Environment}
use Rattle.pb_build.proofs.Called.{plan_then, plan_then_stops}
use Rattle.pb_build.proofs.Preparing.{prepared_of, plan_fails, ready_fails, may_ready_from, may_ready_landed, silent_of, plan_at}
use Rattle.pb_build.proofs.builder.prepare.Goals as goal

pub returns-in-Err-clause-fails : goal.returns-in-Err-clause-fails
returns-in-Err-clause-fails g c = λ from planned.
    let p = plan_at g.P.Place.is_modelled c.args.options.now _ _ from _ c.in-Err.is planned in
    plan_fails g.P.Place.is_modelled g.P.Place.child c.args.options.now c.in-Err.fault from.world from.counts (g.P.Place.at c.args.place.now).counts p.takes.0 p.takes.1 p.named p.refused

pub returns-in-Ok-ready-clause-prepares : goal.returns-in-Ok-ready-clause-prepares
returns-in-Ok-ready-clause-prepares g c = λ from planned.
    let p = plan_at g.P.Place.is_modelled c.args.options.now _ _ from _ c.in-Ok.is planned in
    let environment = c.in-Ok.plan.environment in
    let project = c.in-Ok.plan.project in
    record {
      is = λ told.
          prepared_of g.P.Place.child c.args.options.now environment project (g.P.Place.at c.args.place.now).world from.world c.in-Ok-ready.prepared (p.stays told) (p.is told).0
          (subst (λ (e : Environment). IsProject c.args.options.now e.target from.world project) (sym (p.is told).0) (p.is told).1) (c.in-Ok-ready.ensures.ready told);
      order = c.is_in_order.ensures;
      stays = λ told. c.in-Ok-ready.ensures.asks.world ∙ p.stays told;
      starts = c.in-Ok-ready.ensures.asks.takes.1 ∙ ap up_starts p.takes.1;
      failures = c.in-Ok-ready.ensures.asks.takes.0 ∙ p.takes.0;
      calls = λ told.
          plan_then c.args.options.now project c.in-Ok-ready.prepared.project (g.P.Place.at c.args.place.now).world from.world from.counts (g.P.Place.at c.args.place.now).counts (g.P.Place.at c.ready.new.place).counts
          (c.in-Ok-ready.ensures.ready told).project_is (p.stays told) (p.calls told) (c.in-Ok-ready.ensures.calls told);
      at_most =
          c.in-Ok-ready.ensures.asks.most ∙ ap (λ m. max m (length (g.P.Place.at c.args.place.now).counts.starts.flying + 1)) p.most
          ∙ ap (λ (fs : List ChildInFlight). max from.most (length fs + 1)) c.requires.none;
    }

pub returns-in-Err-ready-clause-fails : goal.returns-in-Err-ready-clause-fails
returns-in-Err-ready-clause-fails g c = λ from planned.
    let p = plan_at g.P.Place.is_modelled c.args.options.now _ _ from _ c.in-Ok.is planned in
    let environment = c.in-Ok.plan.environment in
    let project = c.in-Ok.plan.project in
    let fault = c.in-Err-ready.fault in
    let mid = (g.P.Place.at c.args.place.now).counts in
    let new = (g.P.Place.at c.ready.new.place).counts in
    ready_fails g.P.Place.is_modelled g.P.Place.child c.args.options.now fault from.world from.counts new
    (may_ready_from fault from.counts.starts mid.starts new.starts p.takes.1 c.in-Err-ready.ensures.asks.takes.0)
    (cause_from fault from.counts mid new p.takes.0 c.in-Err-ready.ensures.asks.takes.1) c.in-Err-ready.ensures.names
    (λ told is.
    silent_of g.P.Place.child c.args.options.now environment project (g.P.Place.at c.args.place.now).world from.world fault (p.stays told) (p.is told).0
    (subst (λ (e : Environment). IsProject c.args.options.now e.target from.world project) (sym (p.is told).0) (p.is told).1) (c.in-Err-ready.ensures.silent told) is)

pub returns-in-Err-ready-clause-landed : goal.returns-in-Err-ready-clause-landed
returns-in-Err-ready-clause-landed g c =
    may_ready_landed c.in-Err-ready.fault (g.P.Place.at c.args.place.now).counts.starts (g.P.Place.at c.ready.new.place).counts.starts c.in-Err-ready.ensures.asks.takes.0 c.requires.none

pub returns-in-Err-clause-stops : goal.returns-in-Err-clause-stops
returns-in-Err-clause-stops g c told = λ from planned. inl ((plan_at g.P.Place.is_modelled c.args.options.now _ _ from _ c.in-Err.is planned).calls told)

pub returns-in-Err-ready-clause-stops : goal.returns-in-Err-ready-clause-stops
returns-in-Err-ready-clause-stops g c told = λ from planned.
    let p = plan_at g.P.Place.is_modelled c.args.options.now _ _ from _ c.in-Ok.is planned in
    let project = c.in-Ok.plan.project in
    plan_then_stops c.args.options.now project c.in-Err-ready.fault (g.P.Place.at c.args.place.now).world from.world from.counts (g.P.Place.at c.args.place.now).counts (g.P.Place.at c.ready.new.place).counts (p.stays told) (p.is told).1 (p.calls told) (c.in-Err-ready.ensures.calls told)

pub returns-in-Err-clause-readies : goal.returns-in-Err-clause-readies
returns-in-Err-clause-readies g c = λ heard.
    let here : BuildState = (moment (g.P.Place.at c.args.place.now) heard) in
    subst (λ (p : Result BuildPlan BuildFault). Readies g.P.Place.is_modelled g.P.Place.child c.args.options.now p (Err c.in-Err.fault) here here) (sym c.in-Err.is) (refl, refl)

pub returns-in-Ok-ready-clause-readies : goal.returns-in-Ok-ready-clause-readies
returns-in-Ok-ready-clause-readies g c = λ heard.
    let old : BuildState = (moment (g.P.Place.at c.args.place.now) heard) in
    let new : BuildState = (moment (g.P.Place.at c.ready.new.place) heard) in
    subst (λ (p : Result BuildPlan BuildFault). Readies g.P.Place.is_modelled g.P.Place.child c.args.options.now p (Ok c.in-Ok-ready.prepared) old new) (sym c.in-Ok.is) record {
      ready = c.in-Ok-ready.ensures.ready;
      project = c.in-Ok-ready.ensures.project;
      order = c.is_in_order.ensures;
      stays = λ told. c.in-Ok-ready.ensures.asks.world;
      starts = c.in-Ok-ready.ensures.asks.takes.1;
      failures = c.in-Ok-ready.ensures.asks.takes.0;
      calls = c.in-Ok-ready.ensures.calls;
      most = c.in-Ok-ready.ensures.asks.most ∙ ap (λ (fs : List ChildInFlight). max (g.P.Place.at c.args.place.now).most (length fs + 1)) c.requires.none;
      heard = refl;
    }

pub returns-in-Err-ready-clause-readies : goal.returns-in-Err-ready-clause-readies
returns-in-Err-ready-clause-readies g c = λ heard.
    let old : BuildState = (moment (g.P.Place.at c.args.place.now) heard) in
    let new : BuildState = (moment (g.P.Place.at c.ready.new.place) heard) in
    subst (λ (p : Result BuildPlan BuildFault). Readies g.P.Place.is_modelled g.P.Place.child c.args.options.now p (Err c.in-Err-ready.fault) old new) (sym c.in-Ok.is) record {
      silent = c.in-Err-ready.ensures.silent;
      may = c.in-Err-ready.ensures.asks.takes.0;
      cause = c.in-Err-ready.ensures.asks.takes.1;
      names = c.in-Err-ready.ensures.names;
      stays = λ told. c.in-Err-ready.ensures.asks.world;
      calls = c.in-Err-ready.ensures.calls;
      most = subst (λ (fs : List ChildInFlight). ((g.P.Place.at c.ready.new.place).most ≡ (g.P.Place.at c.args.place.now).most) ⊎ ((g.P.Place.at c.ready.new.place).most ≡ max (g.P.Place.at c.args.place.now).most (length fs + 1))) c.requires.none c.in-Err-ready.ensures.asks.most_else;
      heard = refl;
    }
