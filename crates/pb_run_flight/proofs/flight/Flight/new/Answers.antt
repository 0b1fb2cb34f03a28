use Rattle.std.proofs.Common.{◌∙◌, sym, ap, subst, length, map}
use Rattle.pb_run_flight.specs.declared.flight.State.TheVariants.{Untouched}
use Rattle.pb_run_flight.specs.Working.{AreListed, IsFar}
use Rattle.pb_run_flight.proofs.Keeping.{kept_fresh}
use Rattle.pb_run_flight.proofs.flight.Flight.new.Goals as goal

pub invariant_of-result : goal.invariant_of-result
invariant_of-result g c = kept_fresh c.args.needs c.in_ok-needed_by.needed_by.items c.in_ok-met.met.items c.reach_of-reach.result c.in_ok-states.states.items
    (c.in_ok-needed_by.ensures.long ∙ ap length c.as_slice.ensures)
    (subst (λ ns. AreListed ns (length ns) c.in_ok-needed_by.needed_by.items) c.as_slice.ensures c.in_ok-needed_by.ensures.listed)
    (c.in_ok-met.ensures ∙ ap (map (λ _. 0)) c.as_slice-2.ensures)
    (c.in_ok-states.ensures ∙ ap (map (λ _. Untouched)) c.as_slice-3.ensures)
    (subst (λ ns. IsFar ns c.in_ok-met.met.items c.reach_of-reach.result) c.as_slice-4.ensures (c.reach_of-reach.ensures c.in_ok-met.met.items (c.in_ok-met.ensures ∙ ap (map (λ _. 0)) (c.as_slice-2.ensures ∙ sym c.as_slice-4.ensures))))
