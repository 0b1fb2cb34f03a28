use Rattle.std.proofs.Common.{◌≡◌, rules}
use Rattle.pb_place_types.specs.World.{World, removed}
use Rattle.pb_place_types.proofs.Folders.{only_removed}
use Rattle.pb_place.proofs.memory.calls.MemoryPlace.remove_tree.Goals as goal

pub returns-clause-only : goal.returns-clause-only
returns-clause-only g c =
    let new : World = record { files = c.remove.new.self; variables = c.self-2.inside.variables } in
    let is : new ≡ removed c.args.path.now c.args.self.now.world = search rules in
    only_removed c.args.path.now c.args.self.now.world new is
