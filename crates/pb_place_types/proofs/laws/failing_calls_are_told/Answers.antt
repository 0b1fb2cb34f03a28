use Rattle.pb_place_types.proofs.CallsInTurn.{fault_tells_turn}
use Rattle.pb_place_types.proofs.Failing.{call_tells_fault, start_tells_fault}
use Rattle.pb_place_types.proofs.laws.failing_calls_are_told.Goals as goal

pub returns : goal.returns
returns c = record { calls = call_tells_fault; starts = start_tells_fault; turns = fault_tells_turn }
