use Rattle.std.proofs.Common.{◌∙◌, length, slice_get, slice_set, sym, subst, ap, arith, [], List, map}
use Rattle.std.proofs.lemmas.List.{length-map}
use Rattle.std.proofs.lemmas.Option.{slice_get_within}
use Rattle.pb_run_flight.specs.declared.flight.State.TheVariants.{Begun, Answered}
use Rattle.pb_run_flight.specs.Table.{Table, answered}
use Rattle.pb_run_flight.specs.declared.flight.State.{State}
use Rattle.pb_run_flight.specs.Working.{IsFar, units_at, count_met}
use Rattle.pb_run_flight.proofs.Listing.{any_default}
use Rattle.pb_run_flight.proofs.Keeping.{known_answered, known_as, kept_answered}
use Rattle.pb_run_flight.proofs.flight.Flight.answer.Goals as goal

pub index_mut-requires : goal.index_mut-requires
index_mut-requires g c =
    let flying = ap (λ (t : Table g.row.F.Denot). slice_get t.states c.args.unit) c.self.view_is ∙ c.requires.flying in
    omega (arith, slice_get_within c.self.inside.states.items c.args.unit Begun flying)

pub index-requires : goal.index-requires
index-requires g c =
    let flying = ap (λ (t : Table g.row.F.Denot). slice_get t.states c.args.unit) c.self.view_is ∙ c.requires.flying in
    omega (arith, slice_get_within c.self.inside.states.items c.args.unit Begun flying, c.self.invariant.states_long, c.self.invariant.lists_long)

pub move_on-reach-requires-clause-long : goal.move_on-reach-requires-clause-long
move_on-reach-requires-clause-long g c = ap length c.self.invariant.counted ∙ length-map c.self.inside.needs (count_met c.self.inside.states.items) ∙ ap length (sym c.as_slice.ensures)

pub move_on-reach-requires-clause-far : goal.move_on-reach-requires-clause-far
move_on-reach-requires-clause-far g c = rw c.as_slice.ensures c.self.invariant.far

pub move_on-reach-requires-clause-known : goal.move_on-reach-requires-clause-known
move_on-reach-requires-clause-known g c =
    let flying = ap (λ (t : Table g.row.F.Denot). slice_get t.states c.args.unit) c.self.view_is ∙ c.requires.flying in
    known_as c.self.inside.needs c.as_slice.result.now (slice_set c.self.inside.states.items c.args.unit (Answered c.args.answer)) c.as_slice-2.result.now (units_at c.self.inside.needed_by.items c.args.unit) c.as_slice-3.result.now c.self.inside.met.items
    c.as_slice.ensures
    c.as_slice-2.ensures.value
    (c.as_slice-3.ensures ∙ sym (any_default c.self.inside.needed_by.items c.args.unit [] c.index.result.now (omega (arith, slice_get_within c.self.inside.states.items c.args.unit Begun flying, c.self.invariant.states_long, c.self.invariant.lists_long)) c.index.ensures))
    (known_answered c.self.inside.needs c.self.inside.needed_by.items c.self.inside.met.items c.self.inside.reach c.self.inside.states.items c.self.inside.given c.self.invariant c.args.unit (Answered c.args.answer) flying)

pub invariant_of-self : goal.invariant_of-self
invariant_of-self g c =
    let flying = ap (λ (t : Table g.row.F.Denot). slice_get t.states c.args.unit) c.self.view_is ∙ c.requires.flying in
    kept_answered c.self.inside.needs c.self.inside.needed_by.items c.self.inside.met.items c.self.inside.reach c.self.inside.states.items c.self.inside.given c.self.invariant c.args.unit (Answered c.args.answer) c.move_on-reach.new.met.items c.move_on-reach.result flying (c.move_on-reach.ensures.met ∙ ap (λ (ss : List (State g.row.F.Denot)). map (count_met ss) c.as_slice.result.now) c.as_slice-2.ensures.value ∙ ap (map (count_met (slice_set c.self.inside.states.items c.args.unit (Answered c.args.answer)))) c.as_slice.ensures)
    (subst (λ ns. IsFar ns c.move_on-reach.new.met.items c.move_on-reach.result) c.as_slice.ensures c.move_on-reach.ensures.far)

pub returns : goal.returns
returns g c = ap (answered c.args.unit c.args.answer) c.self.view_is
