use Rattle.std.proofs.Common.{◌≡◌, ◌/◌, length, rules, take}
use Rattle.pb_place_types.specs.World.{World, written}
use Rattle.pb_place.proofs.Changing.{wrote_only}
use Rattle.pb_place.proofs.memory.Memory.tear.Goals as goal

pub returns-in-Ok-clause-only : goal.returns-in-Ok-clause-only
returns-in-Ok-clause-only g c =
    let new : World = record { files = c.insert.new.self; variables = c.self.inside.variables } in
    let is : new ≡ written c.args.path.now (take (length c.args.bytes.now / 2) c.args.bytes.now) c.args.self.now.world = search rules in
    wrote_only c.args.path.now (take (length c.args.bytes.now / 2) c.args.bytes.now) c.args.self.now.world new is
