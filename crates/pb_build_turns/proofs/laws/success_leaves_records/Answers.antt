use Rattle.pb_build_turns.proofs.Repeating.{leaves_records}
use Rattle.pb_build_turns.proofs.laws.success_leaves_records.Goals as goal

pub returns : goal.returns
returns g c = leaves_records g.T.Turn.turns
