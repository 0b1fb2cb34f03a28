use Rattle.std.proofs.Common.{◌∙◌, ◌==◌, ap, sym}
use Rattle.std.specs.List.{list_any}
use Rattle.pb_place.specs.InFlight.{children_in}
use Rattle.pb_place.proofs.InFlight.{any_flying, entry_taken_at, entry_child, entry_others}
use Rattle.pb_place.proofs.in_flight.take_out.Goals as goal

pub returns-in-Some-clause-entry : goal.returns-in-Some-clause-entry
returns-in-Some-clause-entry g c =
    let first = entry_taken_at c.args.ticket c.args.flying.now.items c.as_slice.result.now c.in-Some.place c.remove.result c.as_slice.ensures.value c.remove.ensures.value c.in-Some.ensures.some in
    (first.0, c.remove.ensures.items ∙ first.1)

pub returns-in-Some-clause-some : goal.returns-in-Some-clause-some
returns-in-Some-clause-some g c =
    let first = entry_taken_at c.args.ticket c.args.flying.now.items c.as_slice.result.now c.in-Some.place c.remove.result c.as_slice.ensures.value c.remove.ensures.value c.in-Some.ensures.some in
    (entry_child c.args.ticket c.args.flying.now.items c.remove.result first.0, ap children_in (c.remove.ensures.items ∙ first.1) ∙ entry_others c.args.ticket c.args.flying.now.items)

pub returns-in-None-clause-none : goal.returns-in-None-clause-none
returns-in-None-clause-none g c = any_flying c.args.ticket c.args.flying.now.items ∙ ap (list_any (λ f. f.child.ticket == c.args.ticket)) (sym c.as_slice.ensures.value) ∙ c.in-None.ensures.none
