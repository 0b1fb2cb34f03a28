use Rattle.std.proofs.Common.{refl, rules}
use Rattle.pb_place_types.specs.World.{from_nothing}
use Rattle.pb_workspace_types.specs.declared.fault.LoadFault.TheVariants.{OutOfMemory}
use Rattle.pb_workspace_package.proofs.Looking.{looks_none}
use Rattle.pb_workspace.specs.LookedAt.{folder_looked}
use Rattle.pb_workspace.proofs.rounds.draft_at.Goals as goal

pub returns-in_err-at-clause-looks : goal.returns-in_err-at-clause-looks
returns-in_err-at-clause-looks g c told =
    let h = looks_none OutOfMemory (folder_looked c.args.target.now (from_nothing c.args.target.now (g.P.Place.at c.args.place.now).world) c.args.frame.now c.args.folder.now) (g.P.Place.at c.args.place.now).counts (g.P.Place.at c.args.place.now).counts refl refl refl in
    search (rules, h)

pub returns-in_err-member-clause-looks : goal.returns-in_err-member-clause-looks
returns-in_err-member-clause-looks g c told =
    let h = looks_none OutOfMemory (folder_looked c.args.target.now (from_nothing c.args.target.now (g.P.Place.at c.args.place.now).world) c.args.frame.now c.args.folder.now) (g.P.Place.at c.args.place.now).counts (g.P.Place.at c.args.place.now).counts refl refl refl in
    search (rules, h)
