use Rattle.std.specs.List.{flat_map}
use Rattle.pb_record.specs.Reading.{BeginsWith, HasCount}
use Rattle.pb_record.proofs.lists.read_items.Given as goal

abbrev pub invariant-loop : goal.invariant-loop
invariant-loop g l = BeginsWith (HasCount g.T.Part.is_part l.counter) (flat_map g.T.Part.spelled) l.text l.items l.rest
