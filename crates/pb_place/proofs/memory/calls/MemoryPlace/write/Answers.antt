use Rattle.std.proofs.Common.{◌≡◌, rules}
use Rattle.pb_place_types.specs.World.{World, written}
use Rattle.pb_place.proofs.Changing.{wrote_only}
use Rattle.pb_place.proofs.memory.calls.MemoryPlace.write.Goals as goal

pub returns-clause-only : goal.returns-clause-only
returns-clause-only g c =
    let new : World = record { files = c.insert.new.self; variables = c.self-2.inside.variables } in
    let is : new ≡ written c.args.path.now c.args.bytes.now c.args.self.now.world = search rules in
    wrote_only c.args.path.now c.args.bytes.now c.args.self.now.world new is
