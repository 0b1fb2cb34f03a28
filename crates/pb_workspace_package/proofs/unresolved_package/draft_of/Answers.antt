use Rattle.pb_place_types.specs.World.{from_nothing}
use Rattle.pb_workspace_package.proofs.Steps.{gives_told}
use Rattle.pb_workspace_package.proofs.unresolved_package.draft_of.Goals as goal

pub returns-in-Ok-clause-ok : goal.returns-in-Ok-clause-ok
returns-in-Ok-clause-ok g c told = gives_told _ _ (c.draft_seen.ensures.told (from_nothing c.args.target.now (g.P.Place.at c.args.place.now).world) (c.in-Ok.ensures.ok told))
