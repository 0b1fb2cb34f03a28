use Rattle.pb_tool_preview.proofs.Beginning.{begins_as_foreseen}
use Rattle.pb_tool_preview.proofs.laws.units_begin_as_foreseen.Goals as goal

pub returns : goal.returns
returns g c = begins_as_foreseen g.P.Place.at g.P.Place.is_modelled g.P.Place.child
