use Rattle.std.proofs.Common.{◌≡◌, ◌++◌, drop}
use Rattle.pb_store.specs.Presence.{numbered_by}
use Rattle.pb_store.proofs.numbers.with_numbers.Given as goal

abbrev pub invariant-loop-need : goal.invariant-loop-need
invariant-loop-need l = l.pairs ++ numbered_by l.numbers (drop l.need-index l.needs) ≡ numbered_by l.numbers l.needs
