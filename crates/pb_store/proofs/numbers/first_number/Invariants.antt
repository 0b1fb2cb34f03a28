use Rattle.std.proofs.Common.{take}
use Rattle.std.specs.List.{AllByRecursion}
use Rattle.pb_store.specs.Folder.{IsHeld}
use Rattle.pb_store.proofs.numbers.first_number.Given as goal

abbrev pub invariant-loop-need : goal.invariant-loop-need
invariant-loop-need l = AllByRecursion (IsHeld l.numbers) (take l.need-index l.needs)
