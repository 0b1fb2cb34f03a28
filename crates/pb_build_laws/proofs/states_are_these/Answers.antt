use Rattle.pb_build_laws.proofs.Standing.{ends_are_these, rows_are_these, states_are_these}
use Rattle.pb_build_laws.proofs.states_are_these.Goals as goal

pub returns : goal.returns
returns c = record { states = states_are_these; ends = ends_are_these; rows = rows_are_these }
