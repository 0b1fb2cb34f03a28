use Rattle.std.proofs.Common.{refl, rules}
use Rattle.pb_place_types.specs.World.{from_nothing}
use Rattle.pb_workspace_types.specs.declared.fault.LoadFault.TheVariants.{OutOfMemory}
use Rattle.pb_workspace_package.proofs.Looking.{looks_none}
use Rattle.pb_workspace.specs.LookedAt.{folder_looked, round_looked}
use Rattle.pb_workspace.specs.Rounds.{draft_at}
use Rattle.pb_workspace.proofs.rounds.round.Goals as goal

pub returns-in_err-folders-clause-looks : goal.returns-in_err-folders-clause-looks
returns-in_err-folders-clause-looks g c told =
    let h = looks_none OutOfMemory (round_looked (draft_at (from_nothing c.args.target.now (g.P.Place.at c.args.place.now).world) c.args.frame.now c.args.meant.now) (folder_looked c.args.target.now (from_nothing c.args.target.now (g.P.Place.at c.args.place.now).world) c.args.frame.now) c.args.reading) (g.P.Place.at c.args.place.now).counts (g.P.Place.at c.args.place.now).counts refl refl refl in
    search (rules, h)
