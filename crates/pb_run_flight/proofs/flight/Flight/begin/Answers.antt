use Rattle.std.proofs.Common.{◌<◌, slice_get, length, ap, arith, ◌∙◌}
use Rattle.std.proofs.lemmas.Option.{slice_get_within}
use Rattle.pb_run_flight.specs.declared.flight.State.TheVariants.{Untouched}
use Rattle.pb_run_flight.specs.Table.{Table}
use Rattle.pb_run_flight.proofs.Ready.{ready_may}
use Rattle.pb_run_flight.proofs.Keeping.{kept_begun}
use Rattle.pb_run_flight.proofs.flight.Flight.begin.Goals as goal

pub index_mut-requires : goal.index_mut-requires
index_mut-requires g c =
    let may = ready_may c.args.self.now.needs c.args.self.now.states c.args.unit c.requires.ready in
    let e = ap (λ (t : Table g.row.F.Denot). slice_get t.states c.args.unit) c.self.view_is in
    let lt : c.args.unit < length c.self.inside.states.items = slice_get_within c.self.inside.states.items c.args.unit Untouched (e ∙ may.untouched) in
    omega (arith, lt)

pub invariant_of-self : goal.invariant_of-self
invariant_of-self g c =
    let may = ready_may c.args.self.now.needs c.args.self.now.states c.args.unit c.requires.ready in
    let e = ap (λ (t : Table g.row.F.Denot). slice_get t.states c.args.unit) c.self.view_is in
    kept_begun c.self.inside.needs c.self.inside.needed_by.items c.self.inside.met.items c.self.inside.reach c.self.inside.states.items c.self.inside.given c.self.invariant c.args.unit (e ∙ may.untouched)
