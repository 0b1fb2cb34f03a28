use Rattle.pb_run_flight.proofs.flight.Flight.ready.Goals as goal

pub ready_of-requires-clause-met : goal.ready_of-requires-clause-met
ready_of-requires-clause-met g c = rw (c.as_slice.ensures, c.as_slice-2.ensures.value, c.as_slice-3.ensures.value) c.self.invariant.counted

pub ready_of-requires-clause-given : goal.ready_of-requires-clause-given
ready_of-requires-clause-given g c = rw c.as_slice-3.ensures.value c.self.invariant.less

pub ready_of-requires-clause-far : goal.ready_of-requires-clause-far
ready_of-requires-clause-far g c = rw (c.as_slice.ensures, c.as_slice-2.ensures.value) c.self.invariant.far

pub returns : goal.returns
returns g c = rw (← c.self.view_is, ← c.as_slice.ensures, ← c.as_slice-3.ensures.value) c.ready_of.ensures
