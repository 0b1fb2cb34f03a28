use Rattle.std.proofs.Common.{◌≡◌, ◌∙◌, None, refl, sym, subst, ap, map}
use Rattle.std.specs.List.{AllByRecursion}
use Rattle.pb_build_turns.specs.Ends.{nothing_said}
use Rattle.pb_build_turns.specs.Executor.{BuildState, moment}
use Rattle.pb_build_turns.specs.declared.executor.UnitExecutor.{UnitExecutor}
use Rattle.pb_build_turns.proofs.Finishing.{in_plan_order, ends_before, story_first, states_long, untold, ends_cut, ends_whole}
use Rattle.pb_unit.specs.declared.plan.Planned.{Planned}
use Rattle.pb_build_turns.proofs.turns.run_turns.Goals as goal

pub drive-driven-requires-clause-order : goal.drive-driven-requires-clause-order
drive-driven-requires-clause-order g c = in_plan_order c.args.project c.is_in_order.ensures

pub drive-driven-requires-clause-able : goal.drive-driven-requires-clause-able
drive-driven-requires-clause-able g c = record { numbers = c.requires.numbers; writes = subst (AllByRecursion _) (sym c.new.ensures.items) tt }

pub returns-in-Err : goal.returns-in-Err
returns-in-Err g c = ends_before g.P.Place.is_modelled g.P.Place.child g.T.Turn.turns c.args.setup c.args.project c.args.store.next c.args.turn.now
    (moment (g.P.Place.at c.args.place.now) (g.O.Out.heard c.args.out.now)) c.requires.none

pub returns-in-Err-nothing_noted : goal.returns-in-Err-nothing_noted
returns-in-Err-nothing_noted g c = ends_before g.P.Place.is_modelled g.P.Place.child g.T.Turn.turns c.args.setup c.args.project c.args.store.next c.args.turn.now
    (moment (g.P.Place.at c.args.place.now) (g.O.Out.heard c.args.out.now)) c.requires.none

pub returns-in-Err-nothing_noted-2 : goal.returns-in-Err-nothing_noted-2
returns-in-Err-nothing_noted-2 g c = ends_before g.P.Place.is_modelled g.P.Place.child g.T.Turn.turns c.args.setup c.args.project c.args.store.next c.args.turn.now
    (moment (g.P.Place.at c.args.place.now) (g.O.Out.heard c.args.out.now)) c.requires.none

pub sum_up-requires-clause-long : goal.sum_up-requires-clause-long
sum_up-requires-clause-long g c =
    let first : UnitExecutor = record { setup = c.args.setup; project = c.args.project; store = c.args.store; done = c.in-Ok-nothing_noted.done; running = c.new.result; started = c.new-2.result; reasons = c.in-Ok-nothing_noted-2.reasons } in
    let (es, flown) = c.in-Ok-driven.ensures.flown in
    states_long g.T.Turn.turns first c.drive-driven.new.crew c.drain.new.crew c.args.turn.now c.drive-driven.new.turn es c.drive-driven.new.flight _ flown c.drive-driven.ensures.needs c.drain.ensures.same

pub returns-in-Ok-sum_up : goal.returns-in-Ok-sum_up
returns-in-Ok-sum_up g c =
    let first : UnitExecutor = record { setup = c.args.setup; project = c.args.project; store = c.args.store; done = c.in-Ok-nothing_noted.done; running = c.new.result; started = c.new-2.result; reasons = c.in-Ok-nothing_noted-2.reasons } in
    let at : BuildState = moment (g.P.Place.at c.args.place.now) (g.O.Out.heard c.args.out.now) in
    let mid : BuildState = moment (g.P.Place.at c.drive-driven.new.place) (g.O.Out.heard c.drive-driven.new.out) in
    let new : BuildState = moment (g.P.Place.at c.drain.new.place) (g.O.Out.heard c.drive-driven.new.out) in
    let said : first.done.items ≡ nothing_said first.project = c.in-Ok-nothing_noted.ensures ∙ ap (map (λ (u : Planned). None)) c.units.ensures in
    let begins = story_first g.P.Place.is_modelled g.P.Place.child first at (g.P.Place.at c.args.place.now).still c.new.ensures.items c.new-2.ensures.items in
    let (es, flown, story) = c.in-Ok-driven.ensures.goes first c.args.place.now c.args.out.now begins in
    ends_whole g.P.Place.is_modelled g.P.Place.child g.T.Turn.turns first c.drive-driven.new.crew c.drain.new.crew c.args.turn.now c.drive-driven.new.turn at mid new (g.P.Place.at c.drive-driven.new.place).still (g.P.Place.at c.drain.new.place).still es said
    c.drain.ensures.drained c.drain.ensures.landed refl c.drain.ensures.same c.drain.ensures.told c.drain.ensures.happened c.is_in_order.ensures
    c.drive-driven.new.flight _ flown story c.in-Ok-driven.ensures.finished c.drain.ensures.most c.in-Ok-sum_up.summary c.in-Ok-sum_up.ensures
    (c.in-Ok-nothing_noted-2.ensures ∙ ap (map (λ (u : Planned). None)) c.units-2.ensures)

pub returns-in-Err-sum_up : goal.returns-in-Err-sum_up
returns-in-Err-sum_up g c =
    let first : UnitExecutor = record { setup = c.args.setup; project = c.args.project; store = c.args.store; done = c.in-Ok-nothing_noted.done; running = c.new.result; started = c.new-2.result; reasons = c.in-Ok-nothing_noted-2.reasons } in
    let at : BuildState = moment (g.P.Place.at c.args.place.now) (g.O.Out.heard c.args.out.now) in
    let mid : BuildState = moment (g.P.Place.at c.drive-driven.new.place) (g.O.Out.heard c.drive-driven.new.out) in
    let new : BuildState = moment (g.P.Place.at c.drain.new.place) (g.O.Out.heard c.drive-driven.new.out) in
    let said : first.done.items ≡ nothing_said first.project = c.in-Ok-nothing_noted.ensures ∙ ap (map (λ (u : Planned). None)) c.units.ensures in
    let begins = story_first g.P.Place.is_modelled g.P.Place.child first at (g.P.Place.at c.args.place.now).still c.new.ensures.items c.new-2.ensures.items in
    let (es, flown, story) = c.in-Ok-driven.ensures.goes first c.args.place.now c.args.out.now begins in
    ends_cut g.P.Place.is_modelled g.P.Place.child g.T.Turn.turns first c.drive-driven.new.crew c.drain.new.crew c.args.turn.now c.drive-driven.new.turn at mid new (g.P.Place.at c.drive-driven.new.place).still (g.P.Place.at c.drain.new.place).still es said
    c.drain.ensures.drained c.drain.ensures.landed refl c.drain.ensures.same c.drain.ensures.told c.drain.ensures.happened c.is_in_order.ensures
    c.drain.ensures.most _ None c.drive-driven.new.turn flown.flies refl (untold g.P.Place.is_modelled g.P.Place.child g.T.Turn.turns first c.drive-driven.new.crew c.drain.new.crew c.args.turn.now c.drive-driven.new.turn at mid new (g.P.Place.at c.drive-driven.new.place).still (g.P.Place.at c.drain.new.place).still es said
    c.drain.ensures.drained c.drain.ensures.landed refl c.drain.ensures.same c.drain.ensures.told c.drain.ensures.happened c.is_in_order.ensures c.drive-driven.new.flight.given story)

pub returns-in-Err-driven : goal.returns-in-Err-driven
returns-in-Err-driven g c =
    let first : UnitExecutor = record { setup = c.args.setup; project = c.args.project; store = c.args.store; done = c.in-Ok-nothing_noted.done; running = c.new.result; started = c.new-2.result; reasons = c.in-Ok-nothing_noted-2.reasons } in
    let at : BuildState = moment (g.P.Place.at c.args.place.now) (g.O.Out.heard c.args.out.now) in
    let mid : BuildState = moment (g.P.Place.at c.drive-driven.new.place) (g.O.Out.heard c.drive-driven.new.out) in
    let new : BuildState = moment (g.P.Place.at c.drain.new.place) (g.O.Out.heard c.drive-driven.new.out) in
    let said : first.done.items ≡ nothing_said first.project = c.in-Ok-nothing_noted.ensures ∙ ap (map (λ (u : Planned). None)) c.units.ensures in
    let begins = story_first g.P.Place.is_modelled g.P.Place.child first at (g.P.Place.at c.args.place.now).still c.new.ensures.items c.new-2.ensures.items in
    let (last, es, asked, flies, hands, ends) = c.in-Err-driven.ensures.goes first c.args.place.now c.args.out.now begins in
    ends_cut g.P.Place.is_modelled g.P.Place.child g.T.Turn.turns first c.drive-driven.new.crew c.drain.new.crew c.args.turn.now last at mid new (g.P.Place.at c.drive-driven.new.place).still (g.P.Place.at c.drain.new.place).still es said
    c.drain.ensures.drained c.drain.ensures.landed refl c.drain.ensures.same c.drain.ensures.told c.drain.ensures.happened c.is_in_order.ensures
    c.drain.ensures.most c.in-Err-driven.fault asked c.drive-driven.new.turn flies hands ends
