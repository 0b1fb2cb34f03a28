use Rattle.std.proofs.Common.{subst, sym}
use Rattle.pb_build.specs.Planning.{IsToldRefusal}
use Rattle.pb_build.proofs.Called.{load_fault_stops}
use Rattle.pb_build.proofs.Refusals.{load_fault_told}
use Rattle.pb_build.proofs.planning.read.Goals as goal
use Rattle.pb_workspace.specs.LookedAt.{looked_at}

pub returns-in-Err-clause-refused : goal.returns-in-Err-clause-refused
returns-in-Err-clause-refused g c told =
    subst (IsToldRefusal c.args.options.now c.args.target.now (g.P.Place.at c.args.place.now).world) (sym c.fault_of_load.ensures)
    (load_fault_told c.args.options.now c.args.target.now (g.P.Place.at c.args.place.now).world c.in-Err.fault (c.in-Err.ensures.ok told))

pub returns-in-Err-clause-calls : goal.returns-in-Err-clause-calls
returns-in-Err-clause-calls g c told =
    load_fault_stops c.in-Err.fault c.fault_of_load.result (looked_at c.args.options.now.manifest c.args.target.now (g.P.Place.at c.args.place.now).world) (g.P.Place.at c.args.place.now).counts (g.P.Place.at c.load.new.place).counts c.fault_of_load.ensures (c.in-Err.ensures.looks told)
