use Rattle.std.proofs.Common.{◌≡◌, length}
use Rattle.pb_run_flight.proofs.needs.no_lists.Given as goal

abbrev pub invariant-loop : goal.invariant-loop
invariant-loop l = length l.lists.items ≡ l.index
