-- What a place of real files reports about a child in flight: its ticket and its command.
use Rattle.std.specs.Prelude.{ℕ, pos, []}
use Rattle.std.specs.FinMap as map
use Rattle.pb_place_types.specs.World.{World, Answers}
use Rattle.pb_place_types.specs.Children.{child_spawned}
use Rattle.pb_place_types.specs.declared.command.Command.{Command}
use Rattle.pb_place_types.specs.declared.child_in_flight.ChildInFlight.{ChildInFlight}

-- a world without files and variables, for definitions about a place that reports neither maps nor
-- a child's reply
abbrev pub no_world : World
no_world = record { files = map.empty; variables = map.empty }

abbrev pub silent : Answers
silent command w = record { status = pos 0; stdout = []; stderr = []; files = [] }

abbrev pub silent_child : Command → ℕ → ChildInFlight
silent_child command ticket = child_spawned (silent command) command no_world ticket
