use Rattle.std.proofs.Common.{refl, rules}
use Rattle.pb_place_types.specs.World.{from_nothing}
use Rattle.pb_workspace_types.specs.declared.fault.LoadFault.TheVariants.{OutOfMemory}
use Rattle.pb_workspace_package.proofs.Looking.{looks_none}
use Rattle.pb_workspace.specs.LookedAt.{text_looked}
use Rattle.pb_workspace.proofs.member_folders.folders_meant.Goals as goal

pub returns-in_err-parts-clause-looks : goal.returns-in_err-parts-clause-looks
returns-in_err-parts-clause-looks g c told =
    let sources = from_nothing c.args.target.now (g.P.Place.at c.args.place.now).world in
    let counts = (g.P.Place.at c.args.place.now).counts in
    let h = looks_none OutOfMemory (text_looked c.args.target.now sources c.args.frame.now c.args.text.now) counts counts refl refl refl in
    search (rules, h)
