use Rattle.std.proofs.Common.{rules}
use Rattle.pb_place_types.specs.World.{from_nothing}
use Rattle.pb_workspace_package.proofs.Looking.{looks_all}
use Rattle.pb_workspace.specs.LookedAt.{packages_looked}
use Rattle.pb_workspace.proofs.loading.workspace_in.Goals as goal

pub returns-in_err-made-clause-looks : goal.returns-in_err-made-clause-looks
returns-in_err-made-clause-looks g c told =
    let h = looks_all c.in_err-made.field-0.0 (packages_looked c.args.target.now (from_nothing c.args.target.now (g.P.Place.at c.args.place.now).world) c.args.frame.now c.args.tables c.args.found) (g.P.Place.at c.args.place.now).counts (g.P.Place.at c.packages_read.new.place).counts c.in_err-made.ensures.here (c.in_ok-read.ensures.looks told) in
    search (rules, h)
