use Rattle.std.proofs.Common.{ap, Some}
use Rattle.std.proofs.lemmas.Option.{slice_get-map}
use Rattle.pb_data.proofs.Looking.{looked_past, looked_within}
use Rattle.pb_run_flight.proofs.flight.may_begin.Goals as goal

pub returns-in_default : goal.returns-in_default
returns-in_default g c =
    rw (looked_within c.args.needs.now c.args.unit c.in_default.field-0-0.now c.in_default.ensures.lookup.0 c.in_default.ensures.lookup.1, looked_past c.args.states.now c.args.unit c.in_default.ensures'.lookup.0)

pub returns-in_default-2 : goal.returns-in_default-2
returns-in_default-2 g c = rw (looked_past c.args.needs.now c.args.unit c.in_default.ensures.lookup.0)

pub returns-then-is_bad : goal.returns-then-is_bad
returns-then-is_bad g c =
    let wanted = looked_within c.args.needs.now c.args.unit c.in-Some-Some.wanted.now c.in-Some-Some.ensures.lookup.0 c.in-Some-Some.ensures.lookup.1 in
    let state = looked_within c.args.states.now c.args.unit c.in-Some-Some.state.now c.in-Some-Some.ensures'.lookup.0 c.in-Some-Some.ensures'.lookup.1 in
    rw (wanted, state, ← c.if-is_bad.ensures)

pub is_open-requires : goal.is_open-requires
is_open-requires g c =
    let wanted = looked_within c.args.needs.now c.args.unit c.in-Some-Some.wanted.now c.in-Some-Some.ensures.lookup.0 c.in-Some-Some.ensures.lookup.1 in
    rw (c.requires, slice_get-map, wanted, c.as_slice.ensures)

pub returns : goal.returns
returns g c =
    let wanted = looked_within c.args.needs.now c.args.unit c.in-Some-Some.wanted.now c.in-Some-Some.ensures.lookup.0 c.in-Some-Some.ensures.lookup.1 in
    let state = looked_within c.args.states.now c.args.unit c.in-Some-Some.state.now c.in-Some-Some.ensures'.lookup.0 c.in-Some-Some.ensures'.lookup.1 in
    rw (wanted, state, ← c.if-is_bad.ensures, ← c.as_slice.ensures) (ap Some c.is_open.ensures)
