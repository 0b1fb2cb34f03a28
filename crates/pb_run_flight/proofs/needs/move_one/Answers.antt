use Rattle.std.proofs.Common.{◌≡◌, ◌≤◌, ◌<◌, ◌∙◌, ℕ, List, [], ap, sym, arith, length, slice_index_or}
use Rattle.std.specs.Prelude.{slice_set}
use Rattle.std.proofs.lemmas.List.{set_past}
use Rattle.pb_run_flight.specs.Working.{count_met, units_at}
use Rattle.pb_run_flight.proofs.Keeping.{far_full, far_less}
use Rattle.pb_run_flight.proofs.Listing.{any_default}
use Rattle.pb_run_flight.proofs.Meeting.{met_within}
use Rattle.pb_run_flight.proofs.needs.move_one.Goals as goal

-- the slice that was taken has the units at the place
taken : (needs : List (List ℕ)) (unit : ℕ) (wanted slice : List ℕ) → unit < length needs → wanted ≡ slice_index_or needs unit wanted → slice ≡ wanted → slice ≡ units_at needs unit
taken needs unit wanted slice lt at is = is ∙ sym (any_default needs unit [] wanted lt at)

pub returns-then-unit-needs-clause-met : goal.returns-then-unit-needs-clause-met
returns-then-unit-needs-clause-met g c = sym (set_past c.args.met.now.items c.args.unit (count_met c.args.states.now (units_at c.args.needs.now c.args.unit)) (omega (arith, c.requires.long)))

pub met_from-count-requires : goal.met_from-count-requires
met_from-count-requires g c =
    rw (taken c.args.needs.now c.args.unit c.index-needs-unit.result c.as_slice-wanted.result.now c.if-unit-needs.false c.index-needs-unit.is c.as_slice-wanted.ensures, ← any_default c.args.met.now.items c.args.unit 0 c.index.result.now (omega (arith, c.requires.long)) c.index.ensures)
    c.requires.low

pub returns-then-count-wanted-clause-met : goal.returns-then-count-wanted-clause-met
returns-then-count-wanted-clause-met g c =
    let wanted = taken c.args.needs.now c.args.unit c.index-needs-unit.result c.as_slice-wanted.result.now c.if-unit-needs.false c.index-needs-unit.is c.as_slice-wanted.ensures in
    ap (slice_set c.args.met.now.items c.args.unit) (c.met_from-count.ensures ∙ ap (count_met c.args.states.now) wanted)

pub returns-then-count-wanted-clause-far : goal.returns-then-count-wanted-clause-far
returns-then-count-wanted-clause-far g c = rw c.max.ensures (far_full c.args.needs.now c.args.met.now.items c.args.unit c.met_from-count.result c.args.reach)

pub returns-clause-met : goal.returns-clause-met
returns-clause-met g c =
    let wanted = taken c.args.needs.now c.args.unit c.index-needs-unit.result c.as_slice-wanted.result.now c.if-unit-needs.false c.index-needs-unit.is c.as_slice-wanted.ensures in
    ap (slice_set c.args.met.now.items c.args.unit) (c.met_from-count.ensures ∙ ap (count_met c.args.states.now) wanted)

pub returns-clause-far : goal.returns-clause-far
returns-clause-far g c =
    let wanted = taken c.args.needs.now c.args.unit c.index-needs-unit.result c.as_slice-wanted.result.now c.if-unit-needs.false c.index-needs-unit.is c.as_slice-wanted.ensures in
    let count : c.met_from-count.result ≡ count_met c.args.states.now (units_at c.args.needs.now c.args.unit) = c.met_from-count.ensures ∙ ap (count_met c.args.states.now) wanted in
    let most : count_met c.args.states.now (units_at c.args.needs.now c.args.unit) ≤ length (units_at c.args.needs.now c.args.unit) = met_within c.args.states.now (units_at c.args.needs.now c.args.unit) in
    let long : length c.as_slice-wanted.result.now ≡ length (units_at c.args.needs.now c.args.unit) = ap length wanted in
    let less : c.met_from-count.result < length (units_at c.args.needs.now c.args.unit) = omega (arith, count, most, long) in
    far_less c.args.needs.now c.args.met.now.items c.args.unit c.met_from-count.result c.args.reach c.requires.long less
